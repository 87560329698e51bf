use Rattle.std.proofs.Common.{◌≡◌, ◌<◌, ℕ, None}
use Rattle.lfm_mutex.specs.calls.Barging.{TriesBy}
use Rattle.lfm_mutex.specs.calls.RunGoesOn.{RunGoesOnFrom}
use Rattle.lfm_mutex.specs.calls.Sight.{sight}
use Rattle.lfm_mutex.specs.calls.Woken.{PollsAndWakesNobody}
use Rattle.lfm_mutex.proofs.mutex.Mutex.try_until.Given as goal

abbrev pub invariant-tries : goal.invariant-tries
invariant-tries g l = record {
  belongs : (l.seat.table_seat.place.table_id ≡ l.self.table.table_id) × (l.seat.table_seat.limits ≡ l.self.limits);
  beside : (l.seat.table_seat.place.table_id ≡ l.fn.seat.table_seat.place.table_id) × (l.seat.table_seat.limits ≡ l.fn.seat.table_seat.limits);
  woken : PollsAndWakesNobody l.fn.seat l.seat;
  run : RunGoesOnFrom l.fn.seat l.seat;
  made : (n : ℕ) × TriesBy l.self.limits n (sight l.fn.seat) (sight l.seat) None;
  wake : l.wake < l.self.table.table_id.words;
}
