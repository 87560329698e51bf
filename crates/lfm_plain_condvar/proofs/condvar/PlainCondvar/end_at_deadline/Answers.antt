use Rattle.std.proofs.Common.{ℕ, sym, subst, inr}
use Rattle.lfm_mutex.specs.declared.seat.Seat.{Seat}
use Rattle.lfm_mutex.specs.Belongs.{limits_of, tries_of}
use Rattle.lfm_mutex.specs.calls.Sight.{sight}
use Rattle.lfm_plain_condvar.specs.declared.waiters.Waiters.{Waiters}
use Rattle.lfm_plain_condvar.specs.Waits.{LeftList, NoLonger}
use Rattle.lfm_plain_condvar.proofs.condvar.PlainCondvar.end_at_deadline.Goals as goal

pub returns-clause-ends : goal.returns-clause-ends
returns-clause-ends g c = let v = c.args.self.now.inner in
    let missed = subst (λ (q : Seat Waiters). NoLonger (limits_of v) (tries_of v) (sight c.args.cond.now.seat) (sight q) c.ticket-ticket.result) (sym c.sleep-woken.ensures.same) c.if-leave.ensures.leaves in
    (c.ticket-ticket.ensures, inr (subst (λ (i : ℕ). NoLonger (limits_of v) (tries_of v) (sight c.args.cond.now.seat) (sight c.sleep-woken.new.cond.seat) i) c.ticket-ticket.ensures missed))

-- it was still in the list
pub returns-then-leave-clause-ends : goal.returns-then-leave-clause-ends
returns-then-leave-clause-ends g c = let v = c.args.self.now.inner in
    (c.ticket-ticket.ensures, subst (λ (i : ℕ). LeftList (limits_of v) (tries_of v) (sight c.args.cond.now.seat) (sight c.leave.new.cond.seat) i) c.ticket-ticket.ensures c.if-leave.ensures.leaves)
