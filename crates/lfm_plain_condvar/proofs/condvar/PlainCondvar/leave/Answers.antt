use Rattle.std.proofs.Common.{ℕ, refl, ◌∙◌, subst, arith}
use Rattle.lfm_mutex.specs.Belongs.{limits_of}
use Rattle.lfm_mutex.specs.calls.Sight.{sight}
use Rattle.lfm_plain_condvar.specs.declared.waiters.Waiters.{Waiters}
use Rattle.lfm_plain_condvar.specs.Holds.{HeldOnce}
use Rattle.lfm_plain_condvar.specs.Keeping.{NotListed}
use Rattle.lfm_plain_condvar.proofs.condvar.PlainCondvar.leave.Goals as goal

pub returns-in-Some-clause-belongs : goal.returns-in-Some-clause-belongs
returns-in-Some-clause-belongs g c = let w = c.requires.waits in let t = c.take_out_in_one_hold.ensures in let h = c.in-Some.ensures.held in
    let a = h.4.0 in let v = c.get-number.ensures.value in let n = c.number.ensures in let m = h.2.number in
    (((t.belongs.0 ∙ w.0.0, t.belongs.1 ∙ w.0.1), t.kept, w.2), (c.in-Some.waiter.waker, refl, omega arith, h.4.2 ∙ h.3.1))

pub returns-in-Some-clause-leaves : goal.returns-in-Some-clause-leaves
returns-in-Some-clause-leaves g c = let h = c.in-Some.ensures.held in let a = h.4.0 in let v = c.get-number.ensures.value in let n = c.number.ensures in
    (h.0, h.1, c.in-Some.waiter, omega arith, h.4.1, h.4.3, (h.2, c.take_out_in_one_hold.ensures.steps))

pub returns-in-None-clause-leaves : goal.returns-in-None-clause-leaves
returns-in-None-clause-leaves g c = let h = c.in-None.ensures.held in let v = c.get-number.ensures.value in let n = c.number.ensures in (
  h.0,
  subst (λ (k : ℕ). NotListed k c.args.ticket h.0) (v ∙ n) h.4.0,
  (subst (λ (z : Waiters). HeldOnce (limits_of c.args.self.now.inner).budget (sight c.args.cond.now.seat) (sight c.take_out_in_one_hold.new.cond) h.0 z) h.4.1 h.2, c.take_out_in_one_hold.ensures.steps),
)
