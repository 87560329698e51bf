use Rattle.std.proofs.Common.{◌≡◌, ◌⊎◌, ◌<◌, List, true, false}
use Rattle.lfm_mutex.specs.calls.RunGoesOn.{RunGoesOnFrom}
use Rattle.lfm_mutex.specs.calls.Sight.{Sight, sight}
use Rattle.lfm_mutex.specs.calls.Trails.{FindNone}
use Rattle.lfm_mutex.specs.calls.Woken.{PollsAndWakesAsGranted}
use Rattle.lfm_mutex.proofs.mutex.Mutex.receive_lock_within.Given as goal

abbrev pub invariant-loop : goal.invariant-loop
invariant-loop g l = record {
  belongs : (l.seat.table_seat.place.table_id ≡ l.self.table.table_id) × (l.seat.table_seat.limits ≡ l.self.limits);
  beside : (l.seat.table_seat.place.table_id ≡ l.fn.seat.table_seat.place.table_id) × (l.seat.table_seat.limits ≡ l.fn.seat.table_seat.limits);
  woken : PollsAndWakesAsGranted l.fn.seat l.seat;
  run : RunGoesOnFrom l.fn.seat l.seat;
  seen : sight l.seat ≡ record (sight l.fn.seat) { trail = l.seat.table_seat.place.me.0.trail };
  received : (ms : List (Sight g.row.T.Denot)) × FindNone l.self.limits (sight l.fn.seat) ms (sight l.seat);
  first : (sight l.seat ≡ sight l.fn.seat) ⊎ (((sight l.fn.seat).asleep ≡ true) × ((sight l.fn.seat).in_call ≡ false));
  wake : l.wake < l.self.table.table_id.words;
}
