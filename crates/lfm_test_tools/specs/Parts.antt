-- What belongs to a mutex with two condvars.
use Rattle.std.specs.Prelude.{◌≤◌}
use Rattle.lfm_mutex.specs.Belongs.{OfMutex, limits_of}
use Rattle.lfm_condvar.specs.Belongs.{OfCondvar, cond_limits}
use Rattle.lfm_test_tools.specs.declared.two_condvars.parts.Part.{Part}
use Rattle.lfm_test_tools.specs.declared.two_condvars.parts.Shared.{Shared}

-- The part's seats are seats of this mutex and of its condvars, which have no more seats than the mutex. This is a record, so
-- that a proof of many calls compares it by the part and what it belongs to, and not by its fields.
pub record OfShared (p : Part) (s : Shared) : Type 0 where
  pub seat : OfMutex p.seat s.mutex
  pub first : OfCondvar p.first s.first
  pub second : OfCondvar p.second s.second
  pub first_wide : (cond_limits s.first).seats ≤ (limits_of s.mutex).seats
  pub second_wide : (cond_limits s.second).seats ≤ (limits_of s.mutex).seats
