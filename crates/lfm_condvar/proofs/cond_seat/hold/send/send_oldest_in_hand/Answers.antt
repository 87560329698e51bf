use Rattle.lfm_mutex.specs.calls.Sight.{sight}
use Rattle.lfm_condvar.proofs.Sent.{same_count}
use Rattle.lfm_condvar.proofs.cond_seat.hold.send.send_oldest_in_hand.Goals as goal

pub returns-clause-belongs : goal.returns-clause-belongs
returns-clause-belongs g c = let h = rw c.in-Some.is at (c.value_mut.follows.holds c.send_oldest_without_waking.new.waiters) in ((cc, cc), c.send_oldest_without_waking.ensures.belongs)

pub returns-clause-sends : goal.returns-clause-sends
returns-clause-sends g c = let h = rw c.in-Some.is at (c.value_mut.follows.holds c.send_oldest_without_waking.new.waiters) in let v = c.in-Some.waiters.now in let w = c.send_oldest_without_waking.new.waiters in let k = (sight c.args.cond.now).number in let e = c.send_oldest_without_waking.ensures in
    (v, w, (c.in-Some.ensures.value.1, h.0, e.follows k, same_count v w k e.follows), e.sends)

pub returns-clause-cond_woken : goal.returns-clause-cond_woken
returns-clause-cond_woken g c = let h = rw c.in-Some.is at (c.value_mut.follows.holds c.send_oldest_without_waking.new.waiters) in h.5
