-- One hold: the inner mutex is locked, the list is changed, and the mutex is unlocked.
use Rattle.std.proofs.Common.{◌≡◌, ℕ, ◌<◌, Option, Some, None, is_some, true, false, refl, sym, ◌∙◌, ap, subst, arith}
use Rattle.atomic_table.specs.Seated.{TableId}
use Rattle.lfm_model.specs.declared.answers.How.{How}
use Rattle.lfm_model.specs.declared.refusals.Refusal.{Refusal}
use Rattle.lfm_model.specs.declared.refusals.Refusal.TheVariants.{Asleep, NotOwner, Nested, DepthFull, Spent, NoSuchSeat, NotWaiting, Busy}
use Rattle.lfm_protocol.specs.declared.limits.Limits.{Limits}
use Rattle.lfm_mutex.specs.declared.seat.Seat.{Seat}
use Rattle.lfm_mutex.specs.calls.Sight.{Sight, sight, Gains, LeavesOff, LockRefused, MayLeave}
use Rattle.lfm_mutex.specs.calls.WakeUps.{grants_of}
use Rattle.lfm_mutex.specs.calls.Woken.{PollsAndWakesAsGranted, WakesNobody, WokenAsGranted}
use Rattle.lfm_mutex.proofs.runs.Woken.{polls_join, may_poll, woken_join, woken_none}
use Rattle.lfm_plain_condvar.specs.declared.waiters.Waiters.{Waiters}
use Rattle.lfm_plain_condvar.specs.Keeping.{Since, WaitersFollow}
use Rattle.lfm_plain_condvar.specs.Holds.{SeatKept, StepsOfOneHold, HeldOnce, InHand, IsOf, Unlocks, LocksList, Rewrites}
use Rattle.lfm_plain_condvar.proofs.Followed.{since_reached}

abbrev pub WaitersFit : Waiters → ℕ → Type 0
WaitersFit v k = Unit {0}

some_of : {A : Type 0} (o : Option A) → is_some o ≡ true → (x : A) × (o ≡ Some x)
some_of (Some x) h = (x, refl)
some_of None h = cc

pub one_some : {A : Type 0} (o : Option A) (x y : A) → o ≡ Some x → o ≡ Some y → x ≡ y
one_some o x y e f = let q : Some x ≡ Some y = sym e ∙ f in cc

pub got : (z : TableId) (n budget : ℕ) (how : How) (s t : Sight Waiters) → SeatKept z n s → Gains WaitersFollow WaitersFit budget how s t → (v : Waiters) × InHand z n budget s t v v
got z n budget how s t kept g = let f = g.8 in let l = some_of s.last kept.there in let o = since_reached t.seats s.number l.0 f.0 (f.3 l.0 l.1) in let m = kept.made l.0 l.1 in (
  f.0,
  record {
    value = f.1;
    last = f.2;
    found = f.5;
    finds = λ x is. since_reached t.seats s.number x f.0 (f.3 x is);
    is_of = (o.same.0 ∙ m.0, ap (λ y. y.root.table_id) o.same.1 ∙ m.1);
    low = kept.low;
    high = kept.high;
    number = g.3;
    depth = g.4;
    awake = g.6;
    takes = g.5;
    spare = g.2;
  },
)

-- a seat that is awake, doesn't hold and has a take left is not refused
pub not_refused : {T : Type 0} (budget : ℕ) (s : Sight T) (r : Refusal) → s.depth ≡ 0 → s.asleep ≡ false → s.takes < budget → LockRefused budget s r → ⊥
not_refused budget s Asleep out awake spare e = let no = sym awake ∙ e in cc
not_refused budget s DepthFull out awake spare e = let full = e.1 in omega arith
not_refused budget s Spent out awake spare e = let none = e.2 in omega arith
not_refused budget s NotOwner out awake spare e = e
not_refused budget s Nested out awake spare e = e
not_refused budget s NoSuchSeat out awake spare e = e
not_refused budget s NotWaiting out awake spare e = e
not_refused budget s Busy out awake spare e = e

-- the changed list may be left in the mutex
pub may_leave_it : (z : TableId) (n budget : ℕ) (s t u : Sight Waiters) (x v w : Waiters) → InHand z n budget s t x x → Rewrites t u v w → MayLeave WaitersFollow WaitersFit u
may_leave_it z n budget s t u x v w h r y is =
    let value : u.value ≡ Some w = ap (λ q. q.value) r.1 in
    let same : x ≡ v = one_some t.value x v h.value r.0 in
    let last : u.last ≡ Some v = ap (λ q. q.last) r.1 ∙ h.last ∙ ap (λ q. Some q) same in
    let own : WaitersFollow u.number v w = subst (λ (k : ℕ). WaitersFollow k v w) (sym (ap (λ (q : Sight Waiters). q.number) r.1)) r.2 in
    (tt, λ l was. subst (λ (k : Waiters). WaitersFollow u.number l k) (one_some u.value w y value is) (subst (λ (k : Waiters). WaitersFollow u.number k w) (one_some u.last v l last was) own))

-- the seat holds once and is awake, also after it changed the list
pub still_held : (z : TableId) (n budget : ℕ) (s t u : Sight Waiters) (x v w : Waiters) → InHand z n budget s t x x → Rewrites t u v w → (u.depth ≡ 1) × (u.asleep ≡ false)
still_held z n budget s t u x v w h r = (ap (λ q. q.depth) r.1 ∙ h.depth, ap (λ q. q.asleep) r.1 ∙ h.awake)

-- what is known after the whole hold
pub record Done (z : TableId) (n budget : ℕ) (s u : Sight Waiters) (v w : Waiters) : Type 0 where
  pub held : HeldOnce budget s u v w
  pub kept : SeatKept z n u
  pub is_of : IsOf z n v

pub one_hold : (z : TableId) (n budget : ℕ) (s t u y : Sight Waiters) (x v w : Waiters) → InHand z n budget s t x x → Rewrites t u v w → LeavesOff u y → y.takes ≡ u.takes → y.asleep ≡ u.asleep → Done z n budget s y v w
one_hold z n budget s t u y x v w h r l tk aw =
    let same : x ≡ v = one_some t.value x v h.value r.0 in
    let last : y.last ≡ Some w = l.5 w (ap (λ q. q.value) r.1) in
    let named : y.number ≡ s.number = l.2 ∙ ap (λ q. q.number) r.1 ∙ h.number in
    let of : IsOf z n v = subst (IsOf z n) same h.is_of in
    let found : y.found ≡ Some v = l.7 ∙ ap (λ q. q.found) r.1 ∙ h.found ∙ ap (λ q. Some q) same in
    record {
      held = record { finds = λ q was. subst (Since s.number q) same (h.finds q was); found = found; leaves = last; spare = h.spare; takes = tk ∙ ap (λ q. q.takes) r.1 ∙ h.takes; number = named };
      kept = record {
        out = l.3;
        awake = aw ∙ ap (λ q. q.asleep) r.1 ∙ h.awake;
        low = (let a = h.low in omega arith);
        high = (let a = h.high in omega arith);
        there = ap is_some last;
        made = λ q is. subst (IsOf z n) (one_some y.last w q last is) (r.2.same.0 ∙ of.0, ap (λ k. k.root.table_id) r.2.same.1 ∙ of.1);
      };
      is_of = of;
    }

-- the hold took the steps of one lock and one unlock
pub held_by : (own : Limits) (tries : ℕ) (s t u z : Sight Waiters) (v w : Waiters) → LocksList own tries s t → Rewrites t u v w → Unlocks own u z → StepsOfOneHold own tries s z
held_by own tries s t u z v w l r k = record {
  locked = t;
  changed = u;
  locks = l;
  changes = r.1 ∙ ap (λ o. record t { value = o }) (sym (ap (λ (y : Sight Waiters). y.value) r.1));
  leaves = k;
}

-- a seat that locks the list, changes it and unlocks it wakes the seats to which the lock and the unlock granted the list
pub woken_in_hold : (c l h d : Seat Waiters) (v w : Waiters) → PollsAndWakesAsGranted c l → WakesNobody l h → Rewrites (sight l) (sight h) v w → WokenAsGranted h d → PollsAndWakesAsGranted c d
woken_in_hold c l h d v w locks nobody r leaves = polls_join c l d locks (may_poll l d (woken_join l h d (woken_none l h nobody (ap (λ (s : Sight Waiters). grants_of s.trail) r.1)) leaves))
