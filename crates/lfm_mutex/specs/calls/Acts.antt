-- What each call of a mutex keeps: the seat is still one of the mutex, the run of the table goes on, and no seat is woken but
-- those that the steps granted the mutex. A call that leaves the wake-up to its caller wakes none.
use Rattle.std.specs.Prelude.{ℕ, Option}
use Rattle.lfm_mutex.specs.declared.seat.Seat.{Seat}
use Rattle.lfm_mutex.specs.Belongs.{Beside}
use Rattle.lfm_mutex.specs.calls.RunGoesOn.{RunGoesOnFrom}
use Rattle.lfm_mutex.specs.calls.Sight.{sight}
use Rattle.lfm_mutex.specs.calls.WakeUps.{Wakes}
use Rattle.lfm_mutex.specs.calls.Woken.{PollsAndWakesNobody, WakesNobody, WokenAsGranted}

-- the seat s has acted as one of its mutex, is now t, and has woken no seat
pub record ActsWakingNobody {T : Type 0} (s t : Seat T) : Type 0 where
  pub belongs : Beside s t
  pub run : RunGoesOnFrom s t
  pub woken : WakesNobody s t

-- the seat s has acted as one of its mutex, is now t, and has woken no seat; polls may have been made
pub record PollsWakingNobody {T : Type 0} (s t : Seat T) : Type 0 where
  pub belongs : Beside s t
  pub run : RunGoesOnFrom s t
  pub woken : PollsAndWakesNobody s t

-- the seat s has acted as one of its mutex, is now t, and has woken the seats that it granted the mutex
pub record ActsWakingGranted {T : Type 0} (s t : Seat T) : Type 0 where
  pub belongs : Beside s t
  pub run : RunGoesOnFrom s t
  pub woken : WokenAsGranted s t

-- The seat s has acted as one of its mutex, which has this number of seats, is now t, and has woken no seat. If it granted
-- another seat the mutex, its wake-up is this one.
pub record ActsOwing {T : Type 0} (seats : ℕ) (wake_up : Option ℕ) (s t : Seat T) : Type 0 where
  pub belongs : Beside s t
  pub run : RunGoesOnFrom s t
  pub woken : WakesNobody s t
  pub wakes : Wakes seats wake_up (sight s).trail (sight t).trail
