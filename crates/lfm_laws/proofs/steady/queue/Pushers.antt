-- What a pusher and the seat that it pushes know, and what the words imply about the queue and a posted handoff.
use Rattle.std.proofs.Common.{◌≡◌, ◌≢◌, ℕ, Bool, true, ◌<◌, length, refl, sym, ap, subst, ◌∙◌, arith, inl, inr, nat_eq}
use Rattle.std.proofs.lemmas.Bool.{cases_eq, eq-eqb, ne_eqb, eqb-true, and_parts}
use Rattle.lfm_protocol.specs.declared.points.Point.{Point}
use Rattle.lfm_protocol.specs.declared.seats.SeatState.{SeatState}
use Rattle.lfm_words.specs.declared.links.Link.{Link}
use Rattle.lfm_words.specs.declared.wakes.Wake.{Wake}
use Rattle.lfm_protocol.specs.After.{same_link}
use Rattle.lfm_protocol.specs.Core.{Core}
use Rattle.lfm_laws.specs.steady.Ghost.{Responsibility, nobody, posted, queued, Ghost}
use Rattle.lfm_protocol.specs.Seats.{IsSeat}
use Rattle.lfm_laws.specs.steady.Steady.{IsSeen, IsOld, HasQueue, HandoffFits, SeatFits, Fits, cleared}
use Rattle.lfm_laws.specs.steady.Views.{by_depth, is_queued}
use Rattle.lfm_laws.proofs.steady.frames.Abstracts.{stamp_of_queued}
use Rattle.lfm_laws.proofs.steady.frames.Seated.{seat_of_queued}

-- the facts of a seat at a known point
pub fits_at : (c : Core) (g : Ghost) (s : ℕ) (x : SeatState) (w : Wake) (p : Point) → x.point ≡ p → SeatFits c g s x w
    → SeatFits c g s (record x { point = p }) w
fits_at c g s x w p at fits = subst (λ q. SeatFits c g s (record x { point = q }) w) at fits

-- the push word counts as seen by itself
pub sees_itself : (l : Link) → IsSeen l l
sees_itself l = record { older = omega arith; same = λ e. inl refl }

pub same_link_true : (a b : Link) → same_link a b ≡ true → a ≡ b
same_link_true a b e =
    let h = and_parts (nat_eq a.stamp b.stamp) (nat_eq a.next b.next) e in
    λ i. record { stamp = eqb-true a.stamp b.stamp h.0 i; next = eqb-true a.next b.next h.1 i }

-- a seat that owns nothing has no depth
pub no_depth : (depth s : ℕ) (again : Bool) → by_depth depth s again ≡ nobody → depth ≡ 0
no_depth depth s again none =
    elim (cases_eq depth 0) [
      | inl e ↦ e
      | inr some ↦ let h = rw (ne_eqb depth 0 some) at none in absurd (cc)
    ]

-- The handoff word

pub not_posted : (c : Core) (place : Responsibility) → HandoffFits c.seats place c.handoff → c.handoff.seat ≡ 0 → place ≢ posted
not_posted c place fits none is =
    let at : IsSeat c.seats c.handoff.seat = rw is at fits in
    absurd (omega (arith, at.above))

-- the posted number is that of its seat's last post
pub stands_old : (c : Core) (g : Ghost) → Fits c g → c.handoff.seat ≢ 0 → IsOld c.seats c.handoff
stands_old c g fits some =
    let above : 0 < c.handoff.seat = omega arith in
    record { above = above; before = omega (arith, (fits.each c.handoff.seat).number refl above) }

-- The head of the push word

-- if the push list has a head, some seat is queued
pub head_has_queue : (c : Core) (g : Ghost) → Fits c g → c.push.next ≢ 0 → HasQueue g
head_has_queue c g fits some =
    elim (cases_eq (cleared c g) g.pushed) [
      | inl e ↦ absurd (some (fits.words.head ∙ rw (eq-eqb (cleared c g) g.pushed e)))
      | inr differ ↦ omega (arith, fits.words.parts)
    ]

-- if not all records are cleared, the head of the push list is the newest record
pub newest_is : (c : Core) (g : Ghost) → Fits c g → cleared c g ≢ g.pushed → c.push.next ≡ g.pushed_at g.pushed
newest_is c g fits differ = fits.words.head ∙ rw (ne_eqb (cleared c g) g.pushed differ)

-- so while a handoff is posted and the push list is empty, no seat is queued
pub none_queued : (c : Core) (g : Ghost) (t : ℕ) → Fits c g → c.push.next ≡ 0 → g.place ≡ posted → is_queued (g.standing t) ≢ true
none_queued c g t fits none is waits =
    let carried = rw is at fits.words.carried in
    let at = stamp_of_queued (g.standing t) waits in
    let listed = (fits.each t).listed at.0 at.1 in
    let more : g.popped < g.pushed = omega (arith, listed.above, listed.within) in
    let up_to : cleared c g ≡ g.popped = omega (arith, carried.0, ap length carried.1) in
    let last = newest_is c g fits (omega arith) in
    let stands = (fits.stamps g.pushed more (omega arith)).stands in
    let first : g.pushed_at g.pushed ≡ 0 = sym last ∙ none in
    let stood : g.standing 0 ≡ queued g.pushed = rw first at stands in
    let is_seat = seat_of_queued c g 0 g.pushed fits stood in
    absurd (omega (arith, is_seat.above))
