use Rattle.lfm_mutex.specs.Belongs.{limits_of, tries_of}
use Rattle.lfm_plain_condvar.proofs.Ends.{one_ends}
use Rattle.lfm_plain_condvar.proofs.condvar.PlainCondvar.wake_one_with_number.Goals as goal

pub returns-in-Ok-Some-clause-wakes : goal.returns-in-Ok-Some-clause-wakes
returns-in-Ok-Some-clause-wakes g c = let a = c.args in let n = c.notify_now in
    one_ends (limits_of a.self.now.inner) (tries_of a.self.now.inner) a.cond.now c.wake_one_later.new.cond n.new.cond c.wake_one_later.result c.in-Ok-Some.owed n.result (let p = c.in-Ok-Some.is in let q = c.in-Ok-Some.field-0-is in let r = c.in-Ok-Some.owed-is in cc) c.wake_one_later.ensures.wakes n.ensures.same n.ensures.notifies n.ensures.number n.ensures.ticket
