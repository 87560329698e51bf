use Rattle.std.proofs.Common.{◌≡◌, ◌≤◌, ◌-◌, None}
use Rattle.lfm_mutex.specs.calls.Barging.{TriesBy}
use Rattle.lfm_mutex.specs.calls.RunGoesOn.{RunGoesOnFrom}
use Rattle.lfm_mutex.specs.calls.Sight.{sight}
use Rattle.lfm_mutex.specs.calls.Woken.{PollsAndWakesNobody}
use Rattle.lfm_mutex.proofs.mutex.Mutex.spin.Given as goal

abbrev pub invariant-spins : goal.invariant-spins
invariant-spins g l = record {
  belongs : (l.seat.table_seat.place.table_id ≡ l.self.table.table_id) × (l.seat.table_seat.limits ≡ l.self.limits);
  beside : (l.seat.table_seat.place.table_id ≡ l.fn.seat.table_seat.place.table_id) × (l.seat.table_seat.limits ≡ l.fn.seat.table_seat.limits);
  woken : PollsAndWakesNobody l.fn.seat l.seat;
  run : RunGoesOnFrom l.fn.seat l.seat;
  after_the_first : (1 ≤ l.made) × (l.made - 1 ≤ l.self.pace.spins - 1);
  tries : TriesBy l.self.limits (l.made - 1) (sight l.fn.seat) (sight l.seat) None;
}
