-- Steps by which seat s moves on and one other seat u reads something new: what every seat then reads.
use Rattle.std.proofs.Common.{◌≡◌, ◌≢◌, ℕ, ◌≤◌, List, ◌∙◌, inl, inr, arith}
use Rattle.std.proofs.lemmas.Bool.{cases_eq}
use Rattle.lfm_protocol.specs.declared.seats.SeatState.{SeatState}
use Rattle.lfm_words.specs.declared.pop_lists.Record.{Record}
use Rattle.lfm_words.specs.declared.wakes.Wake.{Wake}
use Rattle.lfm_protocol.specs.Core.{Core}
use Rattle.lfm_laws.specs.steady.Ghost.{Ghost}
use Rattle.lfm_protocol.specs.Seats.{seat, wake, with_entry, IsSeat}
use Rattle.lfm_laws.specs.steady.Steady.{SeatFits, Fits}
use Rattle.lfm_laws.proofs.steady.frames.Entries.{seat-with_same, seat-with_other}
use Rattle.lfm_laws.proofs.steady.frames.Frames.{Sees, SeatFits_seen, moved, fits_moved}

-- the state with this owner word, this pop list and these wake words
abbrev pub handed : Core → ℕ → List Record → List Wake → Core
handed c owner popped wakes = record c { owner = owner; popped = popped; wakes = wakes }

-- every seat fits if s and u do and each other seat reads nothing new; the facts of s and u are premises in the state b, before
-- the new state of s, the count, the owner and the wake words are written
pub each_after_two : (c b : Core) (g h : Ghost) (s u : ℕ) (y : SeatState) (count owner : ℕ) (wakes : List Wake) → IsSeat c.seats s → b.seats ≡ c.seats → Fits c g
    → y.posts ≡ (seat c.seats s).posts → ((t : ℕ) → t ≢ s → t ≢ u → wake wakes t ≡ wake c.wakes t)
    → ((t : ℕ) → t ≢ s → t ≢ u → Sees c (moved b s y count owner wakes) g h t (seat c.seats t))
    → SeatFits b h s y (wake wakes s) → (u ≢ s → SeatFits b h u (seat c.seats u) (wake wakes u))
    → (t : ℕ) → SeatFits (moved b s y count owner wakes) h t (seat (with_entry c.seats s y) t) (wake wakes t)
each_after_two c b g h s u y count owner wakes is same fits posts woken sees own second t =
    let there : IsSeat b.seats s = rw same is in
    let more : (seat b.seats s).posts ≤ y.posts = rw same (omega (arith, posts)) in
    elim (cases_eq t s) [
      | inl here ↦ rw (here, seat-with_same c.seats s y is) (fits_moved b h s y count owner wakes s y (wake wakes s) there more (rw same (omega (arith, posts))) own)
      | inr away ↦ rw (seat-with_other c.seats s t y away) (elim (cases_eq t u) [
        | inl here ↦ rw here (fits_moved b h s y count owner wakes u (seat c.seats u) (wake wakes u) there more (rw same (omega arith)) (second (λ e. away (here ∙ e))))
        | inr aside ↦ rw (woken t away aside) (SeatFits_seen c (moved b s y count owner wakes) g h t (seat c.seats t) (wake c.wakes t) (omega arith) (sees t away aside) (fits.each t))
      ])
    ]
