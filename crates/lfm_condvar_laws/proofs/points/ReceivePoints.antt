-- A wait that receives stays at the points of a receiving wait until its seat holds.
use Rattle.std.proofs.Common.{◌≡◌, ℕ, true, false, refl, sym, ap, ◌∙◌, inl, inr}
use Rattle.std.proofs.lemmas.Bool.{cases_Bool, eqb-true, false≢true}
use Rattle.lfm_protocol.specs.declared.answers.Call.TheVariants.{Receive}
use Rattle.lfm_protocol.specs.declared.points.Entrant.{Entrant}
use Rattle.lfm_protocol.specs.declared.points.Point.{Point}
use Rattle.lfm_protocol.specs.declared.points.Point.TheVariants.{Rest, Asleep, SendWakeExchange, EnterOwnerStore, ReceiveWakeLoad, ReceiveWakeStore}
use Rattle.lfm_protocol.specs.declared.points.Sleeper.{Sleeper}
use Rattle.lfm_protocol.specs.declared.seats.SeatState.{SeatState}
use Rattle.lfm_words.specs.declared.wakes.Wake.{Wake}
use Rattle.lfm_protocol.specs.After.{receives}
use Rattle.lfm_protocol.specs.Core.{Core}
use Rattle.lfm_protocol.specs.Seats.{seat, wake, is_seat}
use Rattle.lfm_protocol.specs.Step.{step, begin}
use Rattle.lfm_laws.proofs.lawful.bounds.Leaving.{stepped, own_made}
use Rattle.lfm_laws.proofs.steady.frames.Entries.{seat-with_same}
use Rattle.lfm_laws.proofs.steady.frames.Seated.{seat_of_point, seat_of_test, test_of_seat}
use Rattle.lfm_condvar_laws.proofs.Invariant.{claims_at, waits_at, comes_to_hold_at, comes_to_hold}

pub receives_unclaimed : (depth : ℕ) (p : Point) → comes_to_hold_at depth p ≡ true → claims_at p ≡ false
receives_unclaimed depth (SendWakeExchange t) comes = absurd (false≢true comes)
receives_unclaimed depth _ comes = refl

pub receives_unstarted : (depth : ℕ) (p : Point) → comes_to_hold_at depth p ≡ true → waits_at p ≡ false
receives_unstarted depth Rest comes = refl
receives_unstarted depth (Asleep sleeper) comes = refl
receives_unstarted depth (ReceiveWakeLoad sleeper) comes = refl
receives_unstarted depth (ReceiveWakeStore stamp) comes = refl
receives_unstarted depth (EnterOwnerStore entrant how) comes = refl
receives_unstarted depth _ comes = absurd (false≢true comes)

-- a seat that has come to rest at these points holds at depth 1
pub holds_once : (x : SeatState) → x.point ≡ Rest → comes_to_hold x ≡ true → x.depth ≡ 1
holds_once x at comes = eqb-true x.depth 1 (rw at at comes)

of_receives : (x : SeatState) (w : Wake) → comes_to_hold (receives x Sleeper.Waiter w).seat ≡ true
of_receives x (Wake.Grant stamp) = refl
of_receives x _ = refl

receives_from : (c : Core) (s depth : ℕ) (p : Point) → (seat c.seats s).point ≡ p → (seat c.seats s).depth ≡ depth
    → comes_to_hold_at depth p ≡ true
    → comes_to_hold (stepped c s).seat ≡ true
receives_from c s depth Rest at deep comes = rw (at, at, deep) comes
receives_from c s depth (Asleep Sleeper.Waiter) at deep comes = rw (at, at) refl
receives_from c s depth (ReceiveWakeLoad Sleeper.Waiter) at deep comes = rw (at, at) (of_receives (seat c.seats s) (wake c.wakes s))
receives_from c s depth (ReceiveWakeStore stamp) at deep comes = rw (at, at) refl
receives_from c s depth (EnterOwnerStore Entrant.Receiver how) at deep comes = rw (at, at) refl
receives_from c s depth _ at deep comes = absurd (false≢true comes)

pub step_receives : (c : Core) (s : ℕ) → comes_to_hold (seat c.seats s) ≡ true → comes_to_hold (seat (step c s).core.seats s) ≡ true
step_receives c s comes =
    elim (cases_Bool (is_seat c.seats s)) [
      | inl is ↦
          rw is (ap comes_to_hold (own_made c s (seat_of_test c.seats s is))
          ∙ receives_from c s (seat c.seats s).depth (seat c.seats s).point refl refl comes)
      | inr none ↦ rw none comes
    ]

asleep_waiter : (depth : ℕ) (sleeper : Sleeper) → comes_to_hold_at depth (Asleep sleeper) ≡ true → sleeper ≡ Sleeper.Waiter
asleep_waiter depth Sleeper.Waiter comes = refl
asleep_waiter depth Sleeper.Locker comes = absurd (false≢true comes)

pub begin_receives : (c : Core) (s : ℕ) (sleeper : Sleeper) → (seat c.seats s).point ≡ Asleep sleeper
    → comes_to_hold (seat c.seats s) ≡ true
    → comes_to_hold (seat (begin c s Receive).core.seats s) ≡ true
begin_receives c s sleeper at comes =
    let is = seat_of_point c.seats s (λ rests. let clash : Rest ≡ Asleep sleeper = sym rests ∙ at in cc) in
    let waiter = asleep_waiter (seat c.seats s).depth sleeper (rw at at comes) in
    let asleep : (seat c.seats s).point ≡ Asleep Sleeper.Waiter = rw (sym waiter) at in
    rw (test_of_seat c.seats s is) (ap comes_to_hold (seat-with_same c.seats s _ is) ∙ rw asleep refl)
