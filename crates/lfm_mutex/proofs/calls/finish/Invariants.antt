use Rattle.std.proofs.Common.{◌≡◌, ℕ, ◌+◌, ◌≤◌, length, Some, None}
use Rattle.std.specs.Prelude.{false}
use Rattle.lfm_protocol.specs.declared.answers.Turn.TheVariants.{Open}
use Rattle.lfm_mutex.specs.calls.Due.{due}
use Rattle.lfm_mutex.specs.calls.FailedPushes.{Spends}
use Rattle.lfm_mutex.specs.calls.Runs.{errand, is_release, Ran, opens, weight}
use Rattle.lfm_table.specs.Rule.{value_in, last_hold}
use Rattle.lfm_mutex.specs.calls.Sight.{Concludes, Stays}
use Rattle.lfm_model.specs.declared.answers.Unlocked.{Unlocked}
use Rattle.lfm_protocol.specs.declared.points.Point.TheVariants.{WaitWakeStore}
use Rattle.lfm_mutex.specs.calls.WakeUps.{Wakes, may_grant}
use Rattle.lfm_mutex.specs.calls.Woken.{WakesNobody}
use Rattle.lfm_mutex.proofs.calls.finish.Given as goal

abbrev pub invariant-loop-ended : goal.invariant-loop-ended
invariant-loop-ended g l = record {
  belongs : l.seat.table_seat.place.table_id ≡ l.mutex.table.table_id;
  same : (l.seat.table_seat.number ≡ l.fn.seat.table_seat.number) × (l.seat.table_seat.limits ≡ l.fn.seat.table_seat.limits) × (l.seat.table_seat.place.table_id ≡ l.fn.seat.table_seat.place.table_id);
  woken : WakesNobody l.fn.seat l.seat;
  call : errand l.seat.state.point ≡ errand l.fn.seat.state.point;
  keeps : is_release l.seat.state.point ≡ false;
  last : last_hold l.seat.table_seat.place.me.0 ≡ last_hold l.fn.seat.table_seat.place.me.0;
  ran : Ran l.fn.seat.table_seat.number (opens l.fn.seat.state) l.fn.seat.table_seat.place.me.0 Open l.seat.state l.seat.table_seat.place.me.0;
  concludes : Concludes l.fn.seat.state Open l.seat.state;
  bounded : length l.seat.table_seat.place.me.0.trail + weight l.seat.table_seat.limits.seats (length l.seat.table_seat.place.me.0.popped) l.seat.state.point ≤ length l.fn.seat.table_seat.place.me.0.trail + weight l.fn.seat.table_seat.limits.seats (length l.fn.seat.table_seat.place.me.0.popped) l.fn.seat.state.point;
  spends : Spends (due l.fn.seat.table_seat.limits.seats (length l.fn.seat.table_seat.place.me.0.popped) l.fn.seat.state.point) (due l.seat.table_seat.limits.seats (length l.seat.table_seat.place.me.0.popped) l.seat.state.point) l.fn.seat.table_seat.place.me.0.trail l.seat.table_seat.place.me.0.trail;
  wakes : Wakes l.fn.seat.table_seat.limits.seats l.owed l.fn.seat.table_seat.place.me.0.trail l.seat.table_seat.place.me.0.trail;
  once : (t : ℕ) → l.owed ≡ Some t → (r : Unlocked) × (l.seat.state.point ≡ WaitWakeStore r);
  none : may_grant (errand l.fn.seat.state.point) ≡ false → l.owed ≡ None;
  stays : Stays l.fn.seat.state.depth l.fn.seat.table_seat.place.me.0 (value_in l.fn.seat.table_seat.moving) l.seat.table_seat.place.me.0 (value_in l.seat.table_seat.moving);
}

abbrev pub decreases-loop-ended : goal.decreases-loop-ended
decreases-loop-ended g l = weight l.seat.table_seat.limits.seats (length l.seat.table_seat.place.me.0.popped) l.seat.state.point
