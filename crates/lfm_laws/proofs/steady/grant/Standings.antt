-- What stays the same when one seat moves on with the same posts and one seat changes its standing.
use Rattle.std.proofs.Common.{◌≡◌, ◌≢◌, ℕ, false, ◌+◌, ◌<◌, ◌≤◌, List, length, sym, ap, ◌∙◌, inl, inr}
use Rattle.std.proofs.lemmas.Bool.{cases_eq}
use Rattle.lfm_protocol.specs.declared.seats.SeatState.{SeatState}
use Rattle.lfm_words.specs.declared.wakes.Wake.{Wake}
use Rattle.lfm_protocol.specs.Core.{Core, put}
use Rattle.lfm_laws.specs.steady.Ghost.{Responsibility, Standing, apart, claimed, asks, Ghost}
use Rattle.lfm_laws.specs.steady.Numbered.{changed}
use Rattle.lfm_protocol.specs.Seats.{seat, with_entry, IsSeat}
use Rattle.lfm_laws.specs.steady.Steady.{AgentFits, SumsFit, StampFits, asking_unit, queued_unit, Fits}
use Rattle.lfm_laws.specs.steady.Views.{asks_for, claims_for, is_queued}
use Rattle.lfm_laws.proofs.steady.frames.Entries.{length-with_entry, seat-with_same, seat-with_other, seat_zero}
use Rattle.lfm_laws.proofs.steady.frames.Sums.{changed_same, changed_other, sum_agrees}

pub zero_apart : (c : Core) (g : Ghost) → Fits c g → g.standing 0 ≡ apart
zero_apart c g fits = rw (seat_zero c.seats) at (fits.each 0).stands

-- The errands after seat u changes its standing and seat s moves on
pub agents_anew : (c : Core) (g : Ghost) (s u : ℕ) (y : SeatState) (standing : Standing) → IsSeat c.seats s → Fits c g
    → asks_for y s ≡ asks_for (seat c.seats s) s → ((t : ℕ) → t ≢ u → g.standing t ≡ claimed s → claims_for y ≡ t)
    → AgentFits (with_entry c.seats s y) standing u → (t : ℕ) → AgentFits (with_entry c.seats s y) (changed g.standing u standing t) t
agents_anew c g s u y standing is fits asks_same sends there t =
    elim (cases_eq t u) [
      | inl e ↦ rw (e, changed_same g.standing u standing) there
      | inr other ↦ rw (changed_other g.standing u t standing other) (record {
        asked = λ agent stands. elim (cases_eq agent s) [
          | inl e ↦ rw (e, seat-with_same c.seats s y is) (asks_same ∙ (fits.agents t).asked s (stands ∙ ap asks e))
          | inr away ↦ rw (seat-with_other c.seats s agent y away) ((fits.agents t).asked agent stands)
        ];
        sent = λ agent stands. elim (cases_eq agent s) [
          | inl e ↦ rw (e, seat-with_same c.seats s y is) (sends t other (stands ∙ ap claimed e))
          | inr away ↦ rw (seat-with_other c.seats s agent y away) ((fits.agents t).sent agent stands)
        ];
      })
    ]

-- a function that agrees on the old and the new standing of u agrees on all standings
pub standing_anew : {A : Type 0} (f : Standing → A) (standings : ℕ → Standing) (u : ℕ) (standing : Standing) → f standing ≡ f (standings u)
    → (t : ℕ) → f (changed standings u standing t) ≡ f (standings t)
standing_anew f standings u standing same t =
    elim (cases_eq t u) [
      | inl e ↦ rw (e, changed_same standings u standing) same
      | inr other ↦ rw (changed_other standings u t standing other)
    ]

pub sums_anew : (seats : List SeatState) (g : Ghost) (s u : ℕ) (y : SeatState) (place : Responsibility) (standing : Standing)
    → asking_unit standing ≡ asking_unit (g.standing u) → queued_unit standing ≡ queued_unit (g.standing u) → SumsFit (length seats) g
    → SumsFit (length (with_entry seats s y)) (record g { place = place; standing = changed g.standing u standing })
sums_anew seats g s u y place standing same_asking same_queued sums =
    rw (length-with_entry seats s y) (record {
      asking = sums.asking ∙ sym (sum_agrees (length seats) (λ t. asking_unit (g.standing t)) (λ t. asking_unit (changed g.standing u standing t)) (standing_anew asking_unit g.standing u standing same_asking));
      queued = sums.queued ∙ ap (λ n. g.popped + n) (sym (sum_agrees (length seats) (λ t. queued_unit (g.standing t)) (λ t. queued_unit (changed g.standing u standing t)) (standing_anew queued_unit g.standing u standing same_queued)));
      pushed = sums.pushed;
    })

-- the records of the queue keep their standings
pub stamps_anew : (c : Core) (g : Ghost) (s u : ℕ) (y : SeatState) (count : ℕ) (wakes : List Wake) (place : Responsibility) (standing : Standing)
    → is_queued (g.standing u) ≡ false → Fits c g → (stamp : ℕ) → g.popped < stamp → stamp ≤ g.pushed
    → StampFits (put (record c { count = count; wakes = wakes }) s y) (record g { place = place; standing = changed g.standing u standing }) stamp
stamps_anew c g s u y count wakes place standing unqueued fits stamp above within =
    let at = fits.stamps stamp above within in
    let other : g.pushed_at stamp ≢ u = λ e. let f = sym (ap is_queued at.stands) ∙ ap (λ t. is_queued (g.standing t)) e ∙ unqueued in cc in
    record {
      stands = changed_other g.standing u (g.pushed_at stamp) standing other ∙ at.stands;
      fresh = at.fresh;
      walked = at.walked;
    }
