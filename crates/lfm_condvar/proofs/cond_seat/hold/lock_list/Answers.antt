use Rattle.lfm_mutex.specs.Belongs.{limits_of}
use Rattle.lfm_mutex.specs.calls.Sight.{Sight, sight, LocksWaiting}
use Rattle.lfm_condvar.proofs.OneHold.{WaitersFit, got}
use Rattle.std.proofs.Common.{◌≡◌, ◌≤◌, ℕ, Result, Ok, Err, refl, sym, ◌∙◌, arith}
use Rattle.std.specs.Prelude.{IfErr, IsErrAnd}
use Rattle.lfm_model.specs.declared.refusals.Refusal.{Refusal}
use Rattle.lfm_model.specs.declared.refusals.Refusal.TheVariants.{Asleep, NotOwner, Nested, DepthFull, Spent, NoSuchSeat, NotWaiting, Busy}
use Rattle.lfm_condvar.specs.declared.waiters.Waiters.{Waiters}
use Rattle.lfm_condvar.specs.Holds.{CondKept}
use Rattle.lfm_condvar.specs.Keeping.{WaitersFollow}
use Rattle.lfm_condvar.proofs.cond_seat.hold.lock_list.Goals as goal

pub returns-clause-held : goal.returns-clause-held
returns-clause-held g c = got c.in-Held.field-0 (limits_of c.args.inner.now) (sight c.args.cond.now) (sight c.lock_barging.new.seat) c.requires.kept c.requires.made (rw c.in-Held.is at c.in_ok-locked.ensures.locks)

pub returns-clause-steps : goal.returns-clause-steps
returns-clause-steps g c = (c.in-Held.field-0, rw c.in-Held.is at c.in_ok-locked.ensures.steps)

-- a cond seat is awake and doesn't hold, so its lock can only be refused as Spent
spent_alone : (budget : ℕ) (s t : Sight Waiters) (r : Refusal) → CondKept s → LocksWaiting WaitersFollow WaitersFit budget s t (Err r) → (r ≡ Spent) × (budget ≤ s.takes) × (t ≡ s)
spent_alone budget s t Spent kept e = (refl, e.0.2, e.1)
spent_alone budget s t Asleep kept e = let no = sym kept.awake ∙ e.0 in cc
spent_alone budget s t DepthFull kept e = let out = kept.out in let full = e.0.1 in absurd (omega arith)
spent_alone budget s t NotOwner kept e = absurd e.0
spent_alone budget s t Nested kept e = absurd e.0
spent_alone budget s t NoSuchSeat kept e = absurd e.0
spent_alone budget s t NotWaiting kept e = absurd e.0
spent_alone budget s t Busy kept e = absurd e.0

-- the refusal that `?` passes on is Spent
spent_answered : (budget : ℕ) (s t : Sight Waiters) (r : Refusal) (answer : Result (Unit {0}) Refusal) → IsErrAnd answer (λ x. x ≡ r) → CondKept s → LocksWaiting WaitersFollow WaitersFit budget s t (Err r)
    → IfErr answer (λ x. (x ≡ Spent) × (budget ≤ s.takes) × (t ≡ s))
spent_answered budget s t r (Ok _) is kept e = absurd is
spent_answered budget s t r (Err x) is kept e = rw is (spent_alone budget s t r kept e)

pub returns-in_err-locked-clause-refused : goal.returns-in_err-locked-clause-refused
returns-in_err-locked-clause-refused g c =
    spent_answered (limits_of c.args.inner.now).budget (sight c.args.cond.now) (sight c.lock_barging.new.seat) _ _ c.from_residual.ensures.1 c.requires.kept c.in_err-locked.ensures.locks
