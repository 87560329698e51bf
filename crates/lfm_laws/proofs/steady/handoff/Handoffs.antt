-- Facts of one seat and of the posted handoff, used for the steps of a release and of a handoff.
use Rattle.std.proofs.Common.{◌≡◌, ◌≢◌, ℕ, true, false, ◌<◌, List, refl, sym, ap, subst, ◌∙◌, cond, eqb, inl, inr, arith}
use Rattle.std.proofs.lemmas.Bool.{cases_eq, eq-eqb, eqb-true, cond-true, and_parts, and_from}
use Rattle.lfm_words.specs.declared.handoffs.Handoff.{Handoff}
use Rattle.lfm_protocol.specs.declared.points.Point.{Point}
use Rattle.lfm_protocol.specs.declared.seats.SeatState.{SeatState}
use Rattle.lfm_protocol.specs.After.{same_handoff}
use Rattle.lfm_laws.specs.steady.Ghost.{Responsibility, posted, Standing, claimed, asks, Ghost}
use Rattle.lfm_protocol.specs.Seats.{seat, with_entry, IsSeat}
use Rattle.lfm_laws.specs.steady.Steady.{HandoffFits, QueuedFits, AgentFits}
use Rattle.lfm_laws.specs.steady.Views.{asks_for, claims_for}
use Rattle.lfm_laws.proofs.steady.frames.Entries.{seat-with_same, seat-with_other}

-- a seat with this depth at this point, as a record
pub seat_at : (x : SeatState) (depth : ℕ) (p : Point) → x.depth ≡ depth → x.point ≡ p → x ≡ record { depth = depth; takes = x.takes; posts = x.posts; point = p }
seat_at x depth p deep at i = record { depth = deep i; takes = x.takes; posts = x.posts; point = at i }

-- the part that seat s has of a responsibility of its own
pub held_own : (s : ℕ) (p q : Responsibility) → p ≡ cond (eqb s s) p q
held_own s p q = sym (cond-true (eqb s s) p q (eq-eqb s s refl))

-- the position of a record in the queue depends only on the pushes and pops
pub listed_same : (g h : Ghost) (s stamp : ℕ) → h.pushed_at ≡ g.pushed_at → h.pushed ≡ g.pushed → h.popped ≡ g.popped → QueuedFits g s stamp → QueuedFits h s stamp
listed_same g h s stamp at pushed popped fits =
    record { above = omega (arith, fits.above); within = omega (arith, fits.within); here = ap (λ f. f stamp) at ∙ fits.here }

-- if the handoff word is not empty, the place is posted
pub posted_of : (seats : List SeatState) (place : Responsibility) (handoff : Handoff) → 0 < handoff.seat → HandoffFits seats place handoff → place ≡ posted
posted_of seats posted handoff some fits = refl
posted_of seats _ handoff some fits = let none : handoff.seat ≡ 0 = ap (λ h. h.seat) fits in absurd (omega arith)

pub same_handoff_true : (a b : Handoff) → same_handoff a b ≡ true → a ≡ b
same_handoff_true a b e =
    let h = and_parts (eqb a.seat b.seat) (eqb a.post b.post) e in
    λ i. record { seat = eqb-true a.seat b.seat h.0 i; post = eqb-true a.post b.post h.1 i }

pub same_handoff_false : (a b : Handoff) → same_handoff a b ≡ false → a ≢ b
same_handoff_false a b e same =
    let here = and_from (eqb a.seat b.seat) (eqb a.post b.post) (eq-eqb a.seat b.seat (ap (λ h. h.seat) same)) (eq-eqb a.post b.post (ap (λ h. h.post) same)) in
    cc

-- What a move of the acting seat leaves unchanged

-- the calls that have counted or claimed a seat are still on their errands, whatever was posted
pub agents_with : (seats : List SeatState) (standing : Standing) (s t : ℕ) (y : SeatState) → IsSeat seats s → asks_for y s ≡ asks_for (seat seats s) s
    → claims_for y ≡ claims_for (seat seats s) → AgentFits seats standing t → AgentFits (with_entry seats s y) standing t
agents_with seats standing s t y is asked sent fits =
    let asked_at : (agent : ℕ) → standing ≡ asks agent → agent ≡ s → asks_for (seat seats s) s ≡ t = λ agent e same. subst (λ (a : ℕ). asks_for (seat seats a) a ≡ t) same (fits.asked agent e) in
    let sent_at : (agent : ℕ) → standing ≡ claimed agent → agent ≡ s → claims_for (seat seats s) ≡ t = λ agent e same. subst (λ (a : ℕ). claims_for (seat seats a) ≡ t) same (fits.sent agent e) in
    record {
      asked = λ agent e. elim (cases_eq agent s) [
        | inl same ↦ rw (same, seat-with_same seats s y is) (asked ∙ asked_at agent e same)
        | inr other ↦ rw (seat-with_other seats s agent y other) (fits.asked agent e)
      ];
      sent = λ agent e. elim (cases_eq agent s) [
        | inl same ↦ rw (same, seat-with_same seats s y is) (sent ∙ sent_at agent e same)
        | inr other ↦ rw (seat-with_other seats s agent y other) (fits.sent agent e)
      ];
    }
