use Rattle.lfm_mutex.specs.Belongs.{limits_of}
use Rattle.lfm_mutex.specs.calls.Sight.{sight}
use Rattle.lfm_plain_condvar.specs.Belongs.{parkers_of, seats_of}
use Rattle.lfm_plain_condvar.proofs.OneHold.{got}
use Rattle.lfm_plain_condvar.proofs.condvar.PlainCondvar.lock_list.Goals as goal

pub returns-clause-held : goal.returns-clause-held
returns-clause-held g c = let a = c.args in got (parkers_of a.self.now) (seats_of a.self.now) (limits_of a.self.now.inner).budget c.in-Held.field-0 (sight a.cond.now) (sight c.lock_barging.new.seat) c.requires.kept (rw c.in-Held.is at c.in-Ok.ensures.locks)
