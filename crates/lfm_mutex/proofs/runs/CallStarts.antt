-- What the start of a call leads to: a refusal, the first point of the call, or the end of an `unlock` that keeps the hold.
use Rattle.std.proofs.Common.{◌≡◌, ◌≢◌, ℕ, ◌+◌, ◌-◌, true, nat_eq, refl, sym, ap, subst, ◌∙◌, arith, if◌then◌else◌}
use Rattle.std.specs.Prelude.{⊤, nat_lt, ◌&&◌}
use Rattle.std.proofs.lemmas.Bool.{false≢true}
use Rattle.lfm_model.specs.declared.answers.Unlocked.{Unlocked}
use Rattle.lfm_model.specs.declared.refusals.Refusal.{Refusal}
use Rattle.lfm_protocol.specs.declared.answers.Answer.{Answer}
use Rattle.lfm_protocol.specs.declared.answers.Call.{Call}
use Rattle.lfm_protocol.specs.declared.answers.Turn.{Turn}
use Rattle.lfm_protocol.specs.declared.answers.Turn.TheVariants.{Open, Ended, Refused}
use Rattle.lfm_protocol.specs.declared.answers.Why.{Why}
use Rattle.lfm_protocol.specs.declared.limits.Limits.{Limits}
use Rattle.lfm_protocol.specs.declared.points.Point.{Point}
use Rattle.lfm_protocol.specs.declared.points.Point.TheVariants.{Rest, Asleep, LockCountAdd, TryCountExchange, SendWakeExchange, ReleaseOwnerStore, ReceiveWakeLoad}
use Rattle.lfm_protocol.specs.declared.points.Releaser.{Releaser}
use Rattle.lfm_protocol.specs.declared.points.Releaser.TheVariants.{Unlocker, Waiter}
use Rattle.lfm_protocol.specs.declared.points.Sleeper.{Sleeper}
use Rattle.lfm_protocol.specs.declared.seats.SeatState.{SeatState}
use Rattle.lfm_protocol.specs.Begin as Begin
use Rattle.lfm_protocol.specs.Begin.{Stepped, goes_on, refuses, charges}
use Rattle.lfm_mutex.specs.calls.Runs.{Errand, nothing, releasing, errand, errand_of, answers_for, opens, is_releasing, release_steps, weight}
use Rattle.lfm_mutex.proofs.runs.Tests.{if_both}

-- the point at which this call starts
abbrev pub StartsAt : Call → Point → Type 0
StartsAt Call.Lock q = q ≡ LockCountAdd
StartsAt Call.TryLock q = q ≡ TryCountExchange
StartsAt Call.Unlock q = q ≡ ReleaseOwnerStore Unlocker
StartsAt Call.StartWait q = q ≡ ReleaseOwnerStore Waiter
StartsAt (Call.SendLock t) q = q ≡ SendWakeExchange t
StartsAt Call.Receive q = (sleeper : Sleeper) × (q ≡ ReceiveWakeLoad sleeper)

-- an unlock that has left this depth
abbrev pub kept : SeatState → ℕ → Stepped
kept p d = record { seat = record p { depth = d }; turn = Ended (Answer.Unlocked (Unlocked.Still d)) }

-- A fact that holds of every refusal, of every seat at the call's first point, and of every unlock that keeps the hold, holds of
-- the start of the call.
module _ (P : Stepped → Type 0) (p : SeatState) (l : Limits) where
  module _ (call : Call) (refused : (why : Why) → P (record { seat = p; turn = Refused why })) (begun : (q : SeatState) → StartsAt call q.point → P (opens q)) where
    charged : (q : Point) → StartsAt call q → P (charges p l.budget q)
    charged q is = if_both P (nat_lt p.takes l.budget) (opens (record p { point = q; takes = p.takes + 1 })) (refuses p Refusal.Spent) (begun (record p { point = q; takes = p.takes + 1 }) is) (refused (Why.By Refusal.Spent))

    entry : (q : Point) → StartsAt call q → P (Begin.begin_entry p l.budget q)
    entry q is =
        if_both P (nat_lt 65534 p.depth) (refuses p Refusal.DepthFull) (if nat_eq p.depth 0 then charges p l.budget q else goes_on p q) (refused (Why.By Refusal.DepthFull))
        (if_both P (nat_eq p.depth 0) (charges p l.budget q) (goes_on p q) (charged q is) (begun (record p { point = q }) is))

  awake : (call : Call) → ((why : Why) → P (record { seat = p; turn = Refused why })) → ((q : SeatState) → StartsAt call q.point → P (opens q)) → ((d : ℕ) → call ≡ Call.Unlock → P (kept p d)) → P (Begin.begin_awake p l call)
  awake Call.Lock refused begun still = entry Call.Lock refused begun LockCountAdd refl
  awake Call.TryLock refused begun still = entry Call.TryLock refused begun TryCountExchange refl
  awake Call.Unlock refused begun still =
      if_both P (nat_eq p.depth 0) (refuses p Refusal.NotOwner) (if nat_eq p.depth 1 then goes_on p (ReleaseOwnerStore Unlocker) else kept p (p.depth - 1)) (refused (Why.By Refusal.NotOwner))
      (if_both P (nat_eq p.depth 1) (goes_on p (ReleaseOwnerStore Unlocker)) (kept p (p.depth - 1)) (begun (record p { point = ReleaseOwnerStore Unlocker }) refl) (still (p.depth - 1) refl))
  awake Call.StartWait refused begun still =
      if_both P (nat_eq p.depth 0) (refuses p Refusal.NotOwner) (if nat_lt 1 p.depth then refuses p Refusal.Nested else charges p l.budget (ReleaseOwnerStore Waiter)) (refused (Why.By Refusal.NotOwner))
      (if_both P (nat_lt 1 p.depth) (refuses p Refusal.Nested) (charges p l.budget (ReleaseOwnerStore Waiter)) (refused (Why.By Refusal.Nested)) (charged Call.StartWait refused begun (ReleaseOwnerStore Waiter) refl))
  awake (Call.SendLock t) refused begun still =
      if_both P (nat_lt 0 t && nat_lt t (l.seats + 1)) (goes_on p (SendWakeExchange t)) (refuses p Refusal.NoSuchSeat) (begun (record p { point = SendWakeExchange t }) refl) (refused (Why.By Refusal.NoSuchSeat))
  awake Call.Receive refused begun still = refused (Why.By Refusal.NotWaiting)

  asleep : (sleeper : Sleeper) (call : Call) → ((why : Why) → P (record { seat = p; turn = Refused why })) → ((q : SeatState) → StartsAt call q.point → P (opens q)) → P (Begin.begin_asleep p sleeper call)
  asleep sleeper Call.Receive refused begun = begun (record p { point = ReceiveWakeLoad sleeper }) (sleeper, refl)
  asleep sleeper _ refused begun = refused (Why.By Refusal.Asleep)

  pub start_at : (call : Call) (q : Point) → ((why : Why) → P (record { seat = p; turn = Refused why })) → ((q : SeatState) → StartsAt call q.point → P (opens q)) → ((d : ℕ) → call ≡ Call.Unlock → P (kept p d)) → P (Begin.begin_at p l call q)
  start_at call Rest refused begun still = awake call refused begun still
  start_at call (Asleep sleeper) refused begun still = asleep sleeper call refused begun
  start_at call _ refused begun still = refused Why.InCall

-- Which call starts

first_errand : (call : Call) (q : Point) → StartsAt call q → errand q ≡ errand_of call
first_errand Call.Receive q is = ap errand is.1
first_errand _ q is = ap errand is

abbrev pub BeginTold : Errand → Turn → Point → Type 0
BeginTold e Open q = errand q ≡ e
BeginTold e (Ended answer) q = answers_for answer ≡ e
BeginTold e (Refused why) q = ⊤

pub begin_told : (p : SeatState) (l : Limits) (call : Call) → BeginTold (errand_of call) (Begin.begin p l call).turn (Begin.begin p l call).seat.point
begin_told p l call = start_at (λ (st : Stepped). BeginTold (errand_of call) st.turn st.seat.point) p l call p.point (λ why. tt) (λ q is. first_errand call q.point is) (λ d is. ap errand_of (sym is))

some_errand : (call : Call) → errand_of call ≢ nothing
some_errand Call.Lock e = cc
some_errand _ e = cc

-- a call that is open after its start
pub begun_open : (p : SeatState) (l : Limits) (call : Call) → (Begin.begin p l call).turn ≡ Open → errand (Begin.begin p l call).seat.point ≡ errand_of call
begun_open p l call is = subst (λ (t : Turn). BeginTold (errand_of call) t (Begin.begin p l call).seat.point) is (begin_told p l call)

-- a seat that rests after the start of a call rested before it
pub begin_rests : (x : SeatState) (l : Limits) (call : Call) → (Begin.begin x l call).seat.point ≡ Rest → x.point ≡ Rest
begin_rests x l call =
    start_at (λ (st : Stepped). st.seat.point ≡ Rest → x.point ≡ Rest) x l call x.point (λ why e. e) (λ q is e. absurd (some_errand call (sym (first_errand call q.point is) ∙ ap errand e))) (λ d is e. e)

-- Releases

-- a release that is open after its start is at the store that ends the hold
abbrev StoresOwner : Turn → Point → Type 0
StoresOwner Open q = (r : Releaser) × (q ≡ ReleaseOwnerStore r)
StoresOwner _ q = ⊤

first_release : (call : Call) (q : Point) → is_releasing (errand_of call) ≡ true → StartsAt call q → (r : Releaser) × (q ≡ ReleaseOwnerStore r)
first_release Call.Unlock q gives is = (Unlocker, is)
first_release Call.StartWait q gives is = (Waiter, is)
first_release _ q gives is = absurd (false≢true gives)

pub begun_release : (p q : SeatState) (l : Limits) (call : Call) → is_releasing (errand_of call) ≡ true → (Begin.begin p l call).turn ≡ Open → q ≡ (Begin.begin p l call).seat → (r : Releaser) × (q.point ≡ ReleaseOwnerStore r)
begun_release p q l call gives is_open is_q =
    let all = start_at (λ (st : Stepped). StoresOwner st.turn st.seat.point) p l call p.point (λ why. tt) (λ x is. first_release call x.point gives is) (λ d is. tt) in
    let told = subst (λ (t : Turn). StoresOwner t (Begin.begin p l call).seat.point) is_open all in
    (told.0, ap (λ (x : SeatState). x.point) is_q ∙ told.1)

-- how many steps follow the start of a release
weight_released : (n k : ℕ) (call : Call) (r : Releaser) → releasing r ≡ errand_of call → weight n k (ReleaseOwnerStore r) ≡ release_steps n call
weight_released n k Call.Unlock Unlocker is = omega arith
weight_released n k Call.StartWait Waiter is = omega arith
weight_released n k _ r is = absurd (cc)

pub weight_begun : (n k : ℕ) (p q : SeatState) (l : Limits) (call : Call) → is_releasing (errand_of call) ≡ true → (Begin.begin p l call).turn ≡ Open → q ≡ (Begin.begin p l call).seat → weight n k q.point ≡ release_steps n call
weight_begun n k p q l call is is_open is_q =
    let stands = begun_release p q l call is is_open is_q in
    ap (weight n k) stands.1 ∙ weight_released n k call stands.0 (ap errand (sym stands.1) ∙ (ap (λ (x : SeatState). errand x.point) is_q ∙ begun_open p l call is_open))
