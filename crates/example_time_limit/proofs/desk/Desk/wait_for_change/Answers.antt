use Rattle.lfm_mutex.specs.Belongs.{limits_of, tries_of}
use Rattle.lfm_mutex.specs.calls.Sight.{sight}
use Rattle.example_time_limit.proofs.Leaving.{out_after_wait}
use Rattle.example_time_limit.proofs.desk.Desk.wait_for_change.Goals as goal

pub returns-clause-out : goal.returns-clause-out
returns-clause-out g c = let mutex = c.args.self.now.request in let inner = c.args.self.now.changed.inner in let w = c.wait_for-waited in
    out_after_wait (limits_of mutex) (limits_of inner) (tries_of inner) (tries_of mutex) (sight c.args.party.now.waits.seat) (sight w.new.cond.seat) (sight c.lock_barging.new.seat) (sight w.new.seat) (sight c.unlock.new.seat)
    c.in_ok-unlock.field-0 w.result w.ensures.waits c.in_ok-unlock.ensures.unlocks
