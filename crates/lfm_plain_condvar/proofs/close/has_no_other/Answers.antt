use Rattle.lfm_plain_condvar.proofs.Closing.{was_not_there}
use Rattle.lfm_plain_condvar.proofs.close.has_no_other.Goals as goal

pub returns : goal.returns
returns c = was_not_there c.args.all.now.seat.me.0.wakers c.gather.new.all.seat.me.0.wakers c.args.waiter.waker.number c.gather.ensures.has (c.show_each_once.ensures c.args.waiter.waker.number)
