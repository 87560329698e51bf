use Rattle.lfm_mutex.specs.calls.Sight.{sight}
use Rattle.lfm_plain_condvar.proofs.Followed.{follows_put}
use Rattle.lfm_plain_condvar.proofs.hold.append.append_in_hand.Goals as goal

pub returns-clause-belongs : goal.returns-clause-belongs
returns-clause-belongs c = let h = rw c.in-Some.is at (c.value_mut.follows.holds c.append.new.self) in (cc, cc)

pub returns-clause-woken : goal.returns-clause-woken
returns-clause-woken c = let h = rw c.in-Some.is at (c.value_mut.follows.holds c.append.new.self) in h.5

pub returns-clause-does : goal.returns-clause-does
returns-clause-does c = let h = rw c.in-Some.is at (c.value_mut.follows.holds c.append.new.self) in (c.in-Some.waiters.now, c.append.new.self, (c.in-Some.ensures.value.1, h.0, follows_put c.args.waker (sight c.args.cond.now).number c.in-Some.waiters.now c.append.new.self c.append.result c.requires.own c.append.ensures), c.append.ensures)
