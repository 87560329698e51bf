use Rattle.std.proofs.Common.{◌≡◌, ◌++◌, List, length}
use Rattle.std.specs.VecDeque.{deque_len}
use Rattle.lfm_plain_condvar.specs.declared.waiters.Waiter.{Waiter}
use Rattle.lfm_plain_condvar.specs.Belongs.{numbers_of}
use Rattle.lfm_plain_condvar.specs.Holds.{IsOf}
use Rattle.lfm_plain_condvar.specs.Keeping.{TakesFirst}
use Rattle.lfm_plain_condvar.specs.Parked.{Gathers}
use Rattle.lfm_plain_condvar.proofs.hold.notify_all.notify_all.Given as goal

-- those that were taken out so far were notified in order
abbrev pub invariant-taken : goal.invariant-taken
invariant-taken l = record {
  gone : (gone : List Waiter) × TakesFirst gone l.fn.waiters l.waiters × (l.count ≡ length gone) × (l.log.seat.me.0.parkers ≡ l.fn.log.seat.me.0.parkers ++ numbers_of gone);
  of : IsOf l.parkers.table.shared.table_id l.parkers.seats l.waiters;
  parked : Gathers l.fn.parked l.parked l.fn.log.seat.me.0.parked l.log.seat.me.0.parked;
  log : l.log.seat.table_id ≡ l.parkers.table.shared.table_id;
}

abbrev pub decreases-taken : goal.decreases-taken
decreases-taken l = deque_len l.waiters.list
