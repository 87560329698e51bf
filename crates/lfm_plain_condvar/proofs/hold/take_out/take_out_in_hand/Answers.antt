use Rattle.lfm_mutex.specs.calls.Sight.{sight}
use Rattle.lfm_plain_condvar.proofs.Followed.{follows_left}
use Rattle.lfm_plain_condvar.proofs.hold.take_out.take_out_in_hand.Goals as goal

pub returns-clause-belongs : goal.returns-clause-belongs
returns-clause-belongs c = let h = rw c.in-Some.is at (c.value_mut.follows.holds c.take_out.new.self) in (cc, cc)

pub returns-clause-woken : goal.returns-clause-woken
returns-clause-woken c = let h = rw c.in-Some.is at (c.value_mut.follows.holds c.take_out.new.self) in h.5

pub returns-clause-does : goal.returns-clause-does
returns-clause-does c = let h = rw c.in-Some.is at (c.value_mut.follows.holds c.take_out.new.self) in (c.in-Some.waiters.now, c.take_out.new.self, (c.in-Some.ensures.value.1, h.0, follows_left c.args.number (sight c.args.cond.now).number c.args.ticket c.in-Some.waiters.now c.take_out.new.self c.take_out.result c.requires.own c.take_out.ensures), c.take_out.ensures)
