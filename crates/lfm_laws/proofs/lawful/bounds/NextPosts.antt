-- Whether the next step of a seat posts. While a record is queued no step leads to a post: a release that clears the push list
-- finds the record.
use Rattle.std.proofs.Common.{◌≡◌, ℕ, Bool, true, false, ◌≤◌, ◌<◌, Option, Some, None, nat_eq, refl, ◌∙◌, inl, inr, arith, if◌then◌else◌}
use Rattle.std.specs.Prelude.{⊤}
use Rattle.std.proofs.lemmas.Bool.{cases_eq, eq-eqb, ne_eqb}
use Rattle.lfm_model.specs.Abstract.{AbstractPlace, AbstractStep, free, owner, passed, carried}
use Rattle.lfm_model.specs.Abstract as Abstract
use Rattle.lfm_model.specs.declared.answers.Unlocked.TheVariants.{Free}
use Rattle.lfm_protocol.specs.declared.answers.Call.{Call}
use Rattle.lfm_protocol.specs.declared.points.Carrier.{Carrier}
use Rattle.lfm_protocol.specs.declared.points.Point.{Point}
use Rattle.lfm_protocol.specs.declared.points.Point.TheVariants.{Rest, Asleep, ReleaseOwnerStore, ReleaseCountSubtract, ReleaseHandoffStore, TakeClearHead}
use Rattle.lfm_protocol.specs.declared.points.Releaser.{Releaser}
use Rattle.lfm_protocol.specs.declared.points.Releaser.TheVariants.{Unlocker, Waiter}
use Rattle.lfm_protocol.specs.declared.seats.SeatState.{SeatState}
use Rattle.lfm_words.specs.declared.pop_lists.Record.{Record}
use Rattle.lfm_words.specs.Popped.{oldest}
use Rattle.lfm_protocol.specs.After.{releases, take, once_cleared}
use Rattle.lfm_protocol.specs.Begin.{goes_on}
use Rattle.lfm_protocol.specs.Core.{Core}
use Rattle.lfm_protocol.specs.Seats.{seat, IsSeat}
use Rattle.lfm_protocol.specs.Step.{made, begin}
use Rattle.lfm_laws.specs.laws.Laws.{post_weight}
use Rattle.lfm_laws.specs.laws.Schedules.{is_call}
use Rattle.lfm_laws.specs.steady.Ghost as Places
use Rattle.lfm_laws.specs.steady.Ghost.{Responsibility, nobody, owned, posted, entering, accepting, leaving, serving, Ghost}
use Rattle.lfm_laws.specs.steady.EventOutcome.{abstract_place}
use Rattle.lfm_laws.specs.steady.Steady.{HasQueue, Fits}
use Rattle.lfm_laws.specs.steady.Views.{claim_at}
use Rattle.lfm_laws.proofs.lawful.bounds.Leaving.{stepped, own_made, other_made, begin_leaves}
use Rattle.lfm_laws.proofs.lawful.read.WatchedRead.{head_some}
use Rattle.lfm_laws.proofs.lawful.bounds.PostsOnce.{posts_left, none_left}

pub post_weight-le : (p : Point) → post_weight p ≤ 1
post_weight-le (ReleaseHandoffStore releaser) = omega arith
post_weight-le _ = omega arith

-- What leads to no post

-- a post counts among the posts that a call can still make
post-le-left : (p : Point) → post_weight p ≤ posts_left p
post-le-left (TakeClearHead carrier) = omega arith
post-le-left _ = omega arith

of_take : (releaser : Releaser) (s : ℕ) (r : Option Record) → post_weight (take (Carrier.Releaser releaser) s r) ≡ 0
of_take releaser s None = refl
of_take releaser s (Some r) = refl

of_last_count : (last : Bool) (x : SeatState) (releaser : Releaser) (s : ℕ) (r : Option Record)
    → post_weight (if last then releases x releaser Free else goes_on x (take (Carrier.Releaser releaser) s r)).seat.point ≡ 0
of_last_count true x Unlocker s r = refl
of_last_count true x Waiter s r = refl
of_last_count false x releaser s r = of_take releaser s r

of_cleared : (releaser : Releaser) (head : ℕ) → 0 < head → post_weight (once_cleared (Carrier.Releaser releaser) head) ≡ 0
of_cleared releaser head some = rw (ne_eqb head 0 (λ e. omega (arith, e, some))) refl

-- a carrier that clears the push list finds a record
abbrev Clears : Core → Point → Type 0
Clears c (TakeClearHead carrier) = 0 < c.push.next
Clears c _ = ⊤

none_next : (c : Core) (s : ℕ) (p : Point) → (seat c.seats s).point ≡ p → Clears c p → post_weight (stepped c s).seat.point ≡ 0
none_next c s (ReleaseOwnerStore releaser) at finds = rw (at, at) refl
none_next c s (ReleaseCountSubtract releaser) at finds = rw (at, at) (of_last_count (nat_eq c.count 1) (seat c.seats s) releaser s (oldest c.popped))
none_next c s (ReleaseHandoffStore releaser) at finds = rw (at, at) refl
none_next c s (TakeClearHead Carrier.Locker) at finds = rw (at, at) refl
none_next c s (TakeClearHead (Carrier.Releaser releaser)) at finds = rw (at, at) (of_cleared releaser c.push.next finds)
none_next c s (TakeClearHead (Carrier.Reclaimer releaser)) at finds = rw (at, at) refl
none_next c s (TakeClearHead Carrier.Sender) at finds = rw (at, at) refl
none_next c s p at finds =
    let none = none_left c s p at refl in
    let most = post-le-left (stepped c s).seat.point in
    omega (arith, none, most)

clears_some : (c : Core) (g : Ghost) (s : ℕ) (p : Point) → (seat c.seats s).point ≡ p → Fits c g → HasQueue g → Clears c p
clears_some c g s (TakeClearHead carrier) at fits some =
    let knows = rw at at (fits.each s).knows in
    head_some c g fits knows.0 knows.1 some
clears_some c g s _ at fits some = tt

-- while some seat is queued, no step leads a seat to a post
pub next_stays : (c : Core) (g : Ghost) (t s : ℕ) → Fits c g → HasQueue g → IsSeat c.seats t
    → post_weight (seat (made c t).core.seats s).point ≤ post_weight (seat c.seats s).point
next_stays c g t s fits some is =
    elim (cases_eq s t) [
      | inl own ↦
          let none = none_next c t (seat c.seats t).point refl (clears_some c g t (seat c.seats t).point refl fits some) in
          rw (own, own_made c t is, none) (omega arith)
      | inr other ↦ rw (other_made c t s other) (omega arith)
    ]

-- Seats that are not about to post

-- a seat that leaves is not about to post
pub leaving_place : (p : Responsibility) (s : ℕ) → abstract_place p ≡ carried s Abstract.leaving → p ≡ leaving s
leaving_place (leaving t) s e = cc
leaving_place nobody s e = absurd (cc)
leaving_place (owned t again) s e = absurd (cc)
leaving_place (Places.granted t stamp) s e = absurd (cc)
leaving_place posted s e = absurd (cc)
leaving_place (entering t into stamp) s e = absurd (cc)
leaving_place (accepting t) s e = absurd (cc)
leaving_place (serving t) s e = absurd (cc)

leaving_at : (depth s : ℕ) (p : Point) → claim_at depth s p ≡ leaving s → post_weight p ≡ 0
leaving_at depth s (ReleaseHandoffStore releaser) e = absurd (cc)
leaving_at depth s _ e = refl

pub leaving_next : (c : Core) (g : Ghost) (s : ℕ) → Fits c g → abstract_place g.place ≡ carried s Abstract.leaving → post_weight (seat c.seats s).point ≡ 0
leaving_next c g s fits e =
    let place = leaving_place g.place s e in
    leaving_at (seat c.seats s).depth s (seat c.seats s).point ((fits.each s).claims ∙ rw (place, eq-eqb s s refl) refl)

-- the start of a call leads to no such point, and a seat that serves has an open call
serving_calls : (depth s : ℕ) (p : Point) → claim_at depth s p ≡ serving s → is_call p ≡ true
serving_calls depth s Rest e =
    elim (cases_eq depth 0) [
      | inl none ↦ let e = rw (eq-eqb depth 0 none) at e in absurd (cc)
      | inr some ↦ let e = rw (ne_eqb depth 0 some) at e in absurd (cc)
    ]
serving_calls depth s (Asleep sleeper) e = absurd (cc)
serving_calls depth s _ e = refl

pub begin_stays : (c : Core) (g : Ghost) (t s : ℕ) (call : Call) → Fits c g → g.place ≡ serving s
    → post_weight (seat (begin c t call).core.seats s).point ≤ post_weight (seat c.seats s).point
begin_stays c g t s call fits place =
    let inside = serving_calls (seat c.seats s).depth s (seat c.seats s).point ((fits.each s).claims ∙ rw (place, eq-eqb s s refl) refl) in
    let leaves = begin_leaves c t s call inside in
    rw leaves.view (omega arith)
