-- What holds after a seat was enlisted, or refused.
use Rattle.std.proofs.Common.{◌≡◌, ℕ, ◌+◌, ◌<◌, ◌≤◌, List, Result, Ok, Err, sym, ap, ◌∙◌, subst, arith, length, get_or, get_or-set_same, slice_index}
use Rattle.lfm_model.specs.declared.refusals.Refusal.{Refusal}
use Rattle.lfm_model.specs.declared.refusals.Refusal.TheVariants.{Asleep, NotOwner, Nested, DepthFull, Spent, NoSuchSeat, NotWaiting, Busy}
use Rattle.lfm_protocol.specs.declared.limits.Limits.{Limits}
use Rattle.lfm_mutex.specs.calls.Sight.{Sight}
use Rattle.lfm_condvar.specs.declared.cond_seat.hold.enlist.Enlisted.{Enlisted}
use Rattle.lfm_condvar.specs.declared.waiters.Waiters.{Waiters}
use Rattle.lfm_condvar.specs.Holds.{StepsOfOneHold, HeldOnce}
use Rattle.lfm_condvar.specs.Waits.{BeginWaitEnds, Enlists, WaitEnds}
use Rattle.lfm_model.specs.declared.answers.How.{How}
use Rattle.std.specs.Prelude.{IfErr, IfOk, IsErrAnd, Some}

same_count : (v w : Waiters) (by : ℕ) → w ≡ v → slice_index w.counts.items by ≤ slice_index v.counts.items by + 1
same_count v w by e = let q = ap (λ (y : Waiters). slice_index y.counts.items by) e in omega arith

-- The number of seats ahead was counted in the list that the cond seat found
pub found_ahead : (d : Sight Waiters) (v : Waiters) (r : Result Enlisted Refusal) → d.found ≡ Some v → IfOk r (λ e. e.ahead ≡ length v.list.items)
    → IfOk r (λ e. (w : Waiters) × (d.found ≡ Some w) × (e.ahead ≡ length w.list.items))
found_ahead d v (Ok e) found ahead = (v, found, ahead)
found_ahead d v (Err x) found ahead = tt

module _ {T : Type 0} where
  -- at most one ticket was counted for the cond seat
  pub counted_once : (user : Limits) (by : ℕ) (s t : Sight T) (v w : Waiters) (r : Result ℕ Refusal) → by ≤ v.seats → Enlists user by s t v w r → slice_index w.counts.items by ≤ slice_index v.counts.items by + 1
  counted_once user by s t v w (Ok k) b e = let a = e.0 in let o = v.counts.ok in let n = v.counted in let lt : by < length v.counts.items = omega arith in
      let q : slice_index w.counts.items by ≡ slice_index v.counts.items by + 1 = ap (λ (xs : List ℕ). get_or xs by 0) a.counts ∙ (rw get_or-set_same) in omega arith
  counted_once user by s t v w (Err Asleep) b e = same_count v w by e.1
  counted_once user by s t v w (Err NotOwner) b e = same_count v w by e.1
  counted_once user by s t v w (Err Nested) b e = same_count v w by e.1
  counted_once user by s t v w (Err DepthFull) b e = same_count v w by e.1
  counted_once user by s t v w (Err Spent) b e = same_count v w by e.1
  counted_once user by s t v w (Err NoSuchSeat) b e = same_count v w by e.2
  counted_once user by s t v w (Err NotWaiting) b e = same_count v w by e.1
  counted_once user by s t v w (Err Busy) b e = same_count v w by e.3

  busy_ends : (user own : Limits) (tries : ℕ) (c d : Sight Waiters) (s t : Sight T) → (v : Waiters) × (w : Waiters) × HeldOnce own.budget c d v w × Enlists user c.number s t v w (Err Busy) × StepsOfOneHold own tries c d → BeginWaitEnds user own tries c d s t (Err Busy)
  busy_ends user own tries c d s t h = h

  -- a wait that was refused under the inner mutex was refused as Busy
  pub ends_busy : (user own : Limits) (tries : ℕ) (c d : Sight Waiters) (s t : Sight T) (r : Refusal) → r ≡ Busy
      → (v : Waiters) × (w : Waiters) × HeldOnce own.budget c d v w × Enlists user c.number s t v w (Err r) × StepsOfOneHold own tries c d → BeginWaitEnds user own tries c d s t (Err r)
  ends_busy user own tries c d s t r e = subst (λ (x : Refusal). (v : Waiters) × (w : Waiters) × HeldOnce own.budget c d v w × Enlists user c.number s t v w (Err x) × StepsOfOneHold own tries c d → BeginWaitEnds user own tries c d s t (Err x)) (sym e) (busy_ends user own tries c d s t)

  -- how begin_wait ends after the one hold in which the seat was enlisted, or refused as Busy
  pub ends_enlisted : (user own : Limits) (tries : ℕ) (c d : Sight Waiters) (s t : Sight T) (r : Result ℕ Refusal) → IfErr r (λ x. x ≡ Busy)
      → (v : Waiters) × (w : Waiters) × HeldOnce own.budget c d v w × Enlists user c.number s t v w r × StepsOfOneHold own tries c d → BeginWaitEnds user own tries c d s t r
  ends_enlisted user own tries c d s t (Ok k) busy h = h
  ends_enlisted user own tries c d s t (Err x) busy h = ends_busy user own tries c d s t x busy h

  -- wait refuses as begin_wait did
  pub ends_refused : (follows : ℕ → T → T → Type 0) (fits : T → ℕ → Type 0) (user own : Limits) (tries : ℕ) (c d : Sight Waiters) (s t : Sight T) (r : Result (How × ℕ) Refusal) (x : Refusal) → IsErrAnd r (λ y. y ≡ x)
      → BeginWaitEnds user own tries c d s t (Err x) → WaitEnds follows fits user own tries c d s t r
  ends_refused follows fits user own tries c d s t (Ok y) x is h = absurd is
  ends_refused follows fits user own tries c d s t (Err y) x is h = subst (λ (z : Refusal). BeginWaitEnds user own tries c d s t (Err z)) (sym is) h
