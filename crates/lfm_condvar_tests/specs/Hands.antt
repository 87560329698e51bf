-- What belongs to a mutex and two condvars that one thread calls.
use Rattle.std.specs.Prelude.{◌≤◌, ℕ}
use Rattle.lfm_mutex.specs.declared.mutex.Mutex.{Mutex}
use Rattle.lfm_mutex.specs.Belongs.{OfMutex, limits_of}
use Rattle.lfm_condvar.specs.declared.condvar.Condvar.{Condvar}
use Rattle.lfm_condvar.specs.Belongs.{OfCondvar, cond_limits}
use Rattle.lfm_condvar_tests.specs.declared.in_hand.InHand.{InHand}

-- All seats in hand are seats of this mutex and of these condvars, which have no more seats than the mutex. This is a record,
-- so that a proof of many calls compares it by the seats in hand and what is called, and not by its fields.
pub record OfCalled (h : InHand) (m : Mutex ℕ) (c d : Condvar) : Type 0 where
  pub first : OfMutex h.first m
  pub second : OfMutex h.second m
  pub one : OfCondvar h.one c
  pub other : OfCondvar h.other d
  pub one_wide : (cond_limits c).seats ≤ (limits_of m).seats
  pub other_wide : (cond_limits d).seats ≤ (limits_of m).seats
