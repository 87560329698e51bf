use Rattle.std.proofs.Common.{◌≡◌, ◌≤◌, ℕ, List, length}
use Rattle.std.specs.VecDeque.{deque_len}
use Rattle.lfm_mutex.specs.Belongs.{Beside, OfMutex, limits_of}
use Rattle.lfm_mutex.specs.calls.RunGoesOn.{RunGoesOnFrom}
use Rattle.lfm_mutex.specs.calls.Sight.{Sight, sight}
use Rattle.lfm_condvar.specs.declared.waiters.Waiter.{Waiter}
use Rattle.lfm_condvar.specs.HeldBack.{HoldsLastBack}
use Rattle.lfm_condvar.specs.Keeping.{WaitersFollow, Taken}
use Rattle.lfm_condvar.specs.Wakes.{SendsInTurn, SentEach}
use Rattle.lfm_condvar.proofs.cond_seat.hold.send.send_all.Given as goal

abbrev pub invariant-sends : goal.invariant-sends
invariant-sends g l = record {
  belongs : OfMutex l.seat l.mutex × Beside l.fn.seat l.seat;
  run : RunGoesOnFrom l.fn.seat l.seat;
  wide : l.waiters.seats ≤ (limits_of l.mutex).seats;
  gone : (gone : List Waiter) × Taken gone l.fn.waiters l.waiters × SentEach gone (sight l.fn.seat) (sight l.seat) × (l.sent ≡ length gone);
  steps : (sent : List (ℕ × Sight _)) × SendsInTurn (limits_of l.mutex) (sight l.fn.seat) sent (sight l.seat);
  wakes : HoldsLastBack (limits_of l.mutex).seats l.held l.fn.seat l.seat;
  follows : (s : ℕ) → WaitersFollow s l.fn.waiters l.waiters;
}

abbrev pub decreases-sends : goal.decreases-sends
decreases-sends g l = deque_len l.waiters.list
