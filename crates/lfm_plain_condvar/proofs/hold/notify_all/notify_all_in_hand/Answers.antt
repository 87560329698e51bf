use Rattle.std.proofs.Common.{◌≡◌}
use Rattle.lfm_mutex.specs.calls.Sight.{sight}
use Rattle.lfm_plain_condvar.proofs.Followed.{goes_on_taken}
use Rattle.lfm_plain_condvar.proofs.hold.notify_all.notify_all_in_hand.Goals as goal

pub returns-clause-belongs : goal.returns-clause-belongs
returns-clause-belongs c = let h = rw c.in-Some.is at (c.value_mut.follows.holds c.notify_all.new.waiters) in (cc, cc)

pub returns-clause-woken : goal.returns-clause-woken
returns-clause-woken c = let h = rw c.in-Some.is at (c.value_mut.follows.holds c.notify_all.new.waiters) in h.5

pub returns-clause-does : goal.returns-clause-does
returns-clause-does c = let h = rw c.in-Some.is at (c.value_mut.follows.holds c.notify_all.new.waiters) in let n = c.notify_all.ensures in
    (c.in-Some.waiters.now, c.notify_all.new.waiters, (c.in-Some.ensures.value.1, h.0, goes_on_taken (λ k. k ≡ (sight c.args.cond.now).number) c.in-Some.waiters.now.list.items c.in-Some.waiters.now c.notify_all.new.waiters n.takes), n.takes, n.count, n.notified)

pub returns-clause-parked : goal.returns-clause-parked
returns-clause-parked c = c.notify_all.ensures.parked
