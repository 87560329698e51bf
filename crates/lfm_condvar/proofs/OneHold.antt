-- One hold: the inner mutex is locked, the list is changed, and the mutex is unlocked.
use Rattle.std.proofs.Common.{◌≡◌, ℕ, ◌+◌, ◌≤◌, Option, Some, None, is_some, true, refl, sym, ◌∙◌, ap, subst, arith, slice_index}
use Rattle.lfm_model.specs.declared.answers.How.{How}
use Rattle.lfm_protocol.specs.declared.limits.Limits.{Limits}
use Rattle.lfm_mutex.specs.declared.seat.Seat.{Seat}
use Rattle.lfm_mutex.specs.calls.Sight.{Sight, sight, Gains, LeavesOff, MayLeave}
use Rattle.lfm_mutex.specs.calls.WakeUps.{grants_of}
use Rattle.lfm_mutex.specs.calls.Woken.{WakesNobody, WokenAsGranted, PollsAndWakesAsGranted}
use Rattle.lfm_condvar.specs.declared.waiters.Waiters.{Waiters}
use Rattle.lfm_condvar.specs.Keeping.{WaitersFollow}
use Rattle.lfm_condvar.specs.Holds.{CountsKnown, CondKept, StepsOfOneHold, HeldOnce, InHand, LeavesList, LocksList, MadeFor, Rewrites}
use Rattle.lfm_mutex.proofs.runs.Woken.{polls_join, may_poll, woken_join, woken_none}
use Rattle.lfm_condvar.proofs.Followed.{since_reached}

abbrev pub WaitersFit : Waiters → ℕ → Type 0
WaitersFit v k = Unit {0}

some_of : {A : Type 0} (o : Option A) → is_some o ≡ true → (x : A) × (o ≡ Some x)
some_of (Some x) h = (x, refl)
some_of None h = cc

pub one_some : {A : Type 0} (o : Option A) (x y : A) → o ≡ Some x → o ≡ Some y → x ≡ y
one_some o x y e f = let q : Some x ≡ Some y = sym e ∙ f in cc

pub got : (how : How) (limits : Limits) (s t : Sight Waiters) → CondKept s → MadeFor limits s → Gains WaitersFollow WaitersFit limits.budget how s t → (v : Waiters) × InHand limits s t v v
got how limits s t kept made g = let f = g.8 in let l = some_of s.last kept.there in let o = since_reached t.seats s.number l.0 f.0 (f.3 l.0 l.1) in let m = made l.0 l.1 in let c = kept.known l.0 l.1 in (
  f.0,
  record {
    value = f.1;
    last = f.2;
    found = f.5;
    finds = λ x is. since_reached t.seats s.number x f.0 (f.3 x is);
    seats = o.seats ∙ m.0;
    budget = o.budget ∙ m.1;
    low = c.low;
    high = (let b = c.high in let e = o.seats in omega arith);
    few = (let a = c.few in let e = o.own in omega arith);
    number = g.3;
    depth = g.4;
    awake = g.6;
    takes = g.5;
    spare = g.2;
  },
)

-- the cond seat wrote the list that it holds
pub rewritten : (limits : Limits) (s t u : Sight Waiters) (v w : Waiters) → InHand limits s t v v → u ≡ record t { value = Some w } → InHand limits s u v w
rewritten limits s t u v w h e = record {
  value = ap (λ z. z.value) e;
  last = ap (λ z. z.last) e ∙ h.last;
  found = ap (λ z. z.found) e ∙ h.found;
  finds = h.finds;
  seats = h.seats;
  budget = h.budget;
  low = h.low;
  high = h.high;
  few = h.few;
  number = ap (λ z. z.number) e ∙ h.number;
  depth = ap (λ z. z.depth) e ∙ h.depth;
  awake = ap (λ z. z.asleep) e ∙ h.awake;
  takes = ap (λ z. z.takes) e ∙ h.takes;
  spare = h.spare;
}

pub may_leave : (limits : Limits) (s t : Sight Waiters) (v w : Waiters) → InHand limits s t v w → WaitersFollow t.number v w → MayLeave WaitersFollow WaitersFit t
may_leave limits s t v w h f x is = (tt, λ l was. subst (λ (y : Waiters). WaitersFollow t.number l y) (one_some t.value w x h.value is) (subst (λ (y : Waiters). WaitersFollow t.number y w) (one_some t.last v l h.last was) f))

-- what is known after the inner mutex was unlocked
pub record Done (limits : Limits) (s u : Sight Waiters) (v w : Waiters) : Type 0 where
  pub held : HeldOnce limits.budget s u v w
  pub kept : CondKept u
  pub made : MadeFor limits u

pub done : (limits : Limits) (s t u : Sight Waiters) (v w : Waiters) → InHand limits s t v w → w.seats ≡ v.seats → w.budget ≡ v.budget → slice_index w.counts.items s.number ≤ slice_index v.counts.items s.number + 1
    → LeavesOff t u → u.takes ≡ t.takes → u.asleep ≡ t.asleep → Done limits s u v w
done limits s t u v w h se bu few l tk aw = let last = l.5 w h.value in let named : u.number ≡ s.number = l.2 ∙ h.number in record {
  held = record { finds = h.finds; leaves = last; spare = h.spare; takes = tk ∙ h.takes; number = named; found = l.7 ∙ h.found };
  kept = record {
    out = l.3;
    awake = aw ∙ h.awake;
    there = ap is_some last;
    known = λ x is. subst (CountsKnown u) (one_some u.last w x last is) record {
      low = (let a = h.low in omega arith);
      high = (let a = h.high in omega arith);
      few = (let a = ap (λ k. slice_index w.counts.items k) named in let b = h.few in let c = h.takes in omega arith);
    };
  };
  made = λ x is. subst (λ (y : Waiters). (y.seats ≡ limits.seats) × (y.budget ≡ limits.budget)) (one_some u.last w x last is) (se ∙ h.seats, bu ∙ h.budget);
}

-- The whole hold: the inner mutex was locked, the list was changed, and the mutex was unlocked
pub one_hold : (limits : Limits) (s t u z : Sight Waiters) (x v w : Waiters) → InHand limits s t x x → Rewrites t u v w → LeavesOff u z → z.takes ≡ u.takes → z.asleep ≡ u.asleep → Done limits s z v w
one_hold limits s t u z x v w h r l tk aw = let same : x ≡ v = one_some t.value x v h.value r.0 in
    let k = subst (λ (y : Waiters). InHand limits s t y y) same h in
    let named = k.number in let few : slice_index w.counts.items s.number ≤ slice_index v.counts.items s.number + 1 = subst (λ (i : ℕ). slice_index w.counts.items i ≤ slice_index v.counts.items i + 1) named r.3 in
    done limits s u z v w (rewritten limits s t u v w k r.1) r.2.seats r.2.budget few l tk aw

-- the changed list may be left in the mutex
pub may_leave_it : (limits : Limits) (s t u : Sight Waiters) (x v w : Waiters) → InHand limits s t x x → Rewrites t u v w → MayLeave WaitersFollow WaitersFit u
may_leave_it limits s t u x v w h r = let same : x ≡ v = one_some t.value x v h.value r.0 in
    let k = subst (λ (y : Waiters). InHand limits s t y y) same h in let m = rewritten limits s t u v w k r.1 in
    may_leave limits s u v w m (subst (λ (i : ℕ). WaitersFollow i v w) (sym (ap (λ (y : Sight Waiters). y.number) r.1)) r.2)

-- the hold took the steps of one lock and one unlock
pub held_by : (own : Limits) (tries : ℕ) (s t u z : Sight Waiters) (v w : Waiters) → LocksList own tries s t → Rewrites t u v w → LeavesList own u z → StepsOfOneHold own tries s z
held_by own tries s t u z v w l r k = record {
  locked = t;
  changed = u;
  locks = l;
  changes = r.1 ∙ ap (λ o. record t { value = o }) (sym (ap (λ (y : Sight Waiters). y.value) r.1));
  leaves = k;
}

-- A cond seat that locks the list, changes it and unlocks it wakes the seats to which the lock and the unlock granted the list
pub woken_in_hold : (c l h d : Seat Waiters) (v w : Waiters) → PollsAndWakesAsGranted c l → WakesNobody l h → Rewrites (sight l) (sight h) v w → WokenAsGranted h d → PollsAndWakesAsGranted c d
woken_in_hold c l h d v w locks nobody r leaves = polls_join c l d locks (may_poll l d (woken_join l h d (woken_none l h nobody (ap (λ (s : Sight Waiters). grants_of s.trail) r.1)) leaves))
