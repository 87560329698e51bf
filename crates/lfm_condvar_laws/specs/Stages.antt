-- To which call on a condvar a stage belongs, and whether that call has the lock.
use Rattle.std.specs.Prelude.{ℕ, Bool, false, ◌&&◌, nat_eq}
use Rattle.lfm_condvar_laws.specs.Condvars.{Stage, starting, locking_to_wake, claiming, sending, unlocking}

-- the call has taken the lock of condvar v, and not yet released it
abbrev pub has_lock : ℕ → Stage → Bool
has_lock v (starting w ticket) = nat_eq w v
has_lock v (claiming w all oldest) = nat_eq w v
has_lock v (sending w all oldest) = nat_eq w v
has_lock v (unlocking w) = nat_eq w v
has_lock v _ = false

-- a wake of condvar v
abbrev pub is_wake : ℕ → Stage → Bool
is_wake v (locking_to_wake w all) = nat_eq w v
is_wake v (claiming w all oldest) = nat_eq w v
is_wake v (sending w all oldest) = nat_eq w v
is_wake v (unlocking w) = nat_eq w v
is_wake v _ = false

-- a wake of all waiters of condvar v that has not stopped sending
abbrev pub sends_all : ℕ → Stage → Bool
sends_all v (locking_to_wake w all) = all && nat_eq w v
sends_all v (claiming w all oldest) = all && nat_eq w v
sends_all v (sending w all oldest) = all && nat_eq w v
sends_all v _ = false
