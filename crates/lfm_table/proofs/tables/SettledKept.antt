-- What a seat's data may have become without a step includes the start of one more call.
use Rattle.std.proofs.Common.{◌≡◌, ℕ, zero, suc, ◌+◌, ◌-◌, ◌<◌, Bool, true, false, ◌&&◌, List, [], ◌∷◌, nat_eq, refl, sym, ap, subst, ◌∙◌, arith, if◌then◌else◌}
use Rattle.std.specs.Prelude.{nat_lt}
use Rattle.lfm_protocol.specs.declared.answers.Call.{Call}
use Rattle.lfm_protocol.specs.declared.answers.Call.TheVariants.{Lock, TryLock, Unlock, StartWait, SendLock, Receive}
use Rattle.lfm_protocol.specs.declared.limits.Limits.{Limits}
use Rattle.lfm_protocol.specs.declared.points.Point.{Point}
use Rattle.lfm_protocol.specs.declared.points.Point.TheVariants.{Rest, Asleep, LockCountAdd, TryCountExchange, SendWakeExchange, ReleaseOwnerStore, ReceiveWakeLoad}
use Rattle.lfm_protocol.specs.declared.points.Releaser.TheVariants.{Unlocker, Waiter}
use Rattle.lfm_protocol.specs.declared.points.Sleeper.{Sleeper}
use Rattle.lfm_protocol.specs.declared.seats.SeatState.{SeatState}
use Rattle.lfm_protocol.specs.Begin.{Stepped, begin_entry, begin_unlock, begin_wait, begin_send, begin_awake, begin_asleep, begin_at, charges, goes_on, refuses}
use Rattle.lfm_protocol.specs.Begin as Begin
use Rattle.lfm_laws.specs.table.Settles.{begun, Settles}
use Rattle.lfm_model.specs.declared.refusals.Refusal.{Refusal}
use Rattle.lfm_table.specs.Settled.{unlocks, opened, calls_to, Became}

pub settles_of : (x : SeatState) (l : Limits) (p : SeatState) → Became x l p → Settles x l p
settles_of x l p b = record { calls = calls_to x p; leads = b.leads }

-- A seat after its step

same_at : (x : SeatState) (l : Limits) (q : Point) → x.point ≡ q → x ≡ begun x l (opened q [])
same_at x l LockCountAdd at = rw at refl
same_at x l TryCountExchange at = rw at refl
same_at x l (ReleaseOwnerStore Unlocker) at = rw at refl
same_at x l (ReleaseOwnerStore Waiter) at = rw at refl
same_at x l (SendWakeExchange t) at = rw at refl
same_at x l (ReceiveWakeLoad sleeper) at = rw at refl
same_at x l _ at = refl

none_left : (n : ℕ) → 0 ≡ n - n
none_left n = omega arith

pub became_same : (x : SeatState) (l : Limits) → Became x l x
became_same x l =
    record {
      deep = omega arith;
      leads = subst (λ (n : ℕ). x ≡ begun x l (opened x.point (unlocks n))) (none_left x.depth) (same_at x l x.point refl);
    }

-- One more call

module _ (x : SeatState) (l : Limits) (p : SeatState) (b : Became x l p) where
  stays : (st : Stepped) → st.seat ≡ p → Became x l st.seat
  stays st same = subst (λ (y : SeatState). Became x l y) (sym same) b

  by_if : (st : Stepped) (t : Bool) (u v : Stepped) → st ≡ (if t then u else v) → (t ≡ true → st ≡ u → Became x l st.seat)
      → (t ≡ false → st ≡ v → Became x l st.seat) → Became x l st.seat
  by_if st true u v is first second = first refl is
  by_if st false u v is first second = second refl is

  -- no call of the seat is open
  abbrev Closed : Type 0
  Closed = (calls : List Call) → opened p.point calls ≡ calls

  led : Closed → p ≡ begun x l (unlocks (x.depth - p.depth))
  led closed = b.leads ∙ ap (λ u. begun x l u) (closed (unlocks (x.depth - p.depth)))

  abbrev Opens : Call → Point → Type 0
  Opens call q = (calls : List Call) → opened q calls ≡ call ∷ calls

  opens : Closed → (call : Call) (st : Stepped) (q : SeatState) → Begin.begin p l call ≡ st → st.seat ≡ q → q.depth ≡ p.depth → Opens call q.point → Became x l st.seat
  opens closed call st q is here deep by =
      let calls : List Call = unlocks (x.depth - p.depth) in
      let same : opened q.point (unlocks (x.depth - q.depth)) ≡ call ∷ calls = ap (λ d. opened q.point (unlocks (x.depth - d))) deep ∙ by calls in
      let first : q ≡ (Begin.begin p l call).seat = sym here ∙ ap (λ (s : Stepped). s.seat) (sym is) in
      let second : (Begin.begin p l call).seat ≡ begun x l (call ∷ calls) = ap (λ y. (Begin.begin y l call).seat) (led closed) in
      subst (λ (y : SeatState). Became x l y) (sym here) (record {
        deep = omega (arith, deep, b.deep);
        leads = first ∙ second ∙ ap (λ u. begun x l u) (sym same);
      })

  lowered : Closed → (st : Stepped) → Begin.begin p l Unlock ≡ st → st.seat ≡ record p { depth = p.depth - 1 } → 1 < p.depth → Became x l st.seat
  lowered closed st is here deep =
      let calls : List Call = unlocks (x.depth - p.depth) in
      let q : SeatState = record p { depth = p.depth - 1 } in
      let more : x.depth - (p.depth - 1) ≡ suc (x.depth - p.depth) = omega (arith, deep, b.deep) in
      let same : opened p.point (unlocks (x.depth - (p.depth - 1))) ≡ Unlock ∷ calls = closed (unlocks (x.depth - (p.depth - 1))) ∙ ap unlocks more in
      let first : q ≡ (Begin.begin p l Unlock).seat = sym here ∙ ap (λ (s : Stepped). s.seat) (sym is) in
      let second : (Begin.begin p l Unlock).seat ≡ begun x l (Unlock ∷ calls) = ap (λ y. (Begin.begin y l Unlock).seat) (led closed) in
      subst (λ (y : SeatState). Became x l y) (sym here) (record {
        deep = omega (arith, b.deep);
        leads = first ∙ second ∙ ap (λ u. begun x l u) (sym same);
      })

  charged : Closed → (call : Call) (q : Point) (st : Stepped) → Begin.begin p l call ≡ st → st ≡ charges p l.budget q → Opens call q → Became x l st.seat
  charged closed call q st is here by =
      by_if st (nat_lt p.takes l.budget) _ (refuses p Refusal.Spent) here
      (λ t e. opens closed call st (record p { point = q; takes = p.takes + 1 }) is (ap (λ (s : Stepped). s.seat) e) refl by)
      (λ t e. stays st (ap (λ (s : Stepped). s.seat) e))

  entered : Closed → (call : Call) (q : Point) (st : Stepped) → Begin.begin p l call ≡ st → st ≡ begin_entry p l.budget q → Opens call q → Became x l st.seat
  entered closed call q st is here by =
      by_if st (nat_lt 65534 p.depth) (refuses p Refusal.DepthFull) _ here
      (λ t e. stays st (ap (λ (s : Stepped). s.seat) e))
      (λ t e. by_if st (nat_eq p.depth 0) (charges p l.budget q) (goes_on p q) e
      (λ u f. charged closed call q st is f by)
      (λ u f. opens closed call st (record p { point = q }) is (ap (λ (s : Stepped). s.seat) f) refl by))

  not_one : (d : ℕ) → nat_eq d 0 ≡ false → nat_eq d 1 ≡ false → 1 < d
  not_one zero none one = absurd (cc)
  not_one (suc zero) none one = absurd (cc)
  not_one (suc (suc n)) none one = omega arith

  unlocked : Closed → (st : Stepped) → Begin.begin p l Unlock ≡ st → st ≡ begin_unlock p → Became x l st.seat
  unlocked closed st is here =
      by_if st (nat_eq p.depth 0) (refuses p Refusal.NotOwner) _ here
      (λ t e. stays st (ap (λ (s : Stepped). s.seat) e))
      (λ t e. by_if st (nat_eq p.depth 1) (goes_on p (ReleaseOwnerStore Unlocker)) _ e
      (λ u f. opens closed Unlock st (record p { point = ReleaseOwnerStore Unlocker }) is (ap (λ (s : Stepped). s.seat) f) refl (λ calls. refl))
      (λ u f. lowered closed st is (ap (λ (s : Stepped). s.seat) f) (not_one p.depth t u)))

  waited : Closed → (st : Stepped) → Begin.begin p l StartWait ≡ st → st ≡ begin_wait p l.budget → Became x l st.seat
  waited closed st is here =
      by_if st (nat_eq p.depth 0) (refuses p Refusal.NotOwner) _ here
      (λ t e. stays st (ap (λ (s : Stepped). s.seat) e))
      (λ t e. by_if st (nat_lt 1 p.depth) (refuses p Refusal.Nested) (charges p l.budget (ReleaseOwnerStore Waiter)) e
      (λ u f. stays st (ap (λ (s : Stepped). s.seat) f))
      (λ u f. charged closed StartWait (ReleaseOwnerStore Waiter) st is f (λ calls. refl)))

  sent : Closed → (t : ℕ) (st : Stepped) → Begin.begin p l (SendLock t) ≡ st → st ≡ begin_send p l.seats t → Became x l st.seat
  sent closed t st is here =
      by_if st (nat_lt 0 t && nat_lt t (l.seats + 1)) (goes_on p (SendWakeExchange t)) (refuses p Refusal.NoSuchSeat) here
      (λ u e. opens closed (SendLock t) st (record p { point = SendWakeExchange t }) is (ap (λ (s : Stepped). s.seat) e) refl (λ calls. refl))
      (λ u e. stays st (ap (λ (s : Stepped). s.seat) e))

  awake : Closed → (call : Call) (st : Stepped) → Begin.begin p l call ≡ st → st ≡ begin_awake p l call → Became x l st.seat
  awake closed Lock st is here = entered closed Lock LockCountAdd st is here (λ calls. refl)
  awake closed TryLock st is here = entered closed TryLock TryCountExchange st is here (λ calls. refl)
  awake closed Unlock st is here = unlocked closed st is here
  awake closed StartWait st is here = waited closed st is here
  awake closed (SendLock t) st is here = sent closed t st is here
  awake closed Receive st is here = stays st (ap (λ (s : Stepped). s.seat) here)

  asleep : Closed → (sleeper : Sleeper) (call : Call) (st : Stepped) → Begin.begin p l call ≡ st → st ≡ begin_asleep p sleeper call → Became x l st.seat
  asleep closed sleeper Receive st is here =
      opens closed Receive st (record p { point = ReceiveWakeLoad sleeper }) is (ap (λ (s : Stepped). s.seat) here) refl (λ calls. refl)
  asleep closed sleeper _ st is here = stays st (ap (λ (s : Stepped). s.seat) here)

  at_point : (call : Call) (q : Point) (st : Stepped) → p.point ≡ q → Begin.begin p l call ≡ st → st ≡ begin_at p l call q → Became x l st.seat
  at_point call Rest st at is here = awake (λ calls. ap (λ q. opened q calls) at) call st is here
  at_point call (Asleep sleeper) st at is here = asleep (λ calls. ap (λ q. opened q calls) at) sleeper call st is here
  at_point call _ st at is here = stays st (ap (λ (s : Stepped). s.seat) here)

  pub became_begin : (call : Call) → Became x l (Begin.begin p l call).seat
  became_begin call = at_point call p.point (Begin.begin p l call) refl refl refl
