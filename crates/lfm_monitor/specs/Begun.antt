-- What is true of a monitor and a pass when they are made.
use Rattle.std.specs.Prelude.{◌≡◌, ℕ, ◌*◌, ◌<◌, ◌≤◌, []}
use Rattle.lfm_protocol.specs.Limits.{max_seats}
use Rattle.lfm_mutex.specs.calls.Sight.{new_sight}
use Rattle.lfm_monitor.specs.declared.journaled.Journaled.{Journaled}
use Rattle.lfm_monitor.specs.declared.monitor.Monitor.{Monitor}
use Rattle.lfm_monitor.specs.declared.pass.Pass.{Pass}
use Rattle.lfm_monitor.specs.Belongs.{OfMonitor, cond_seats_of, mine_of, pass_sight, passes_of, plain_seats_of, seen_of}
use Rattle.lfm_monitor.specs.CondSeats.{AreNewSeats}
use Rattle.lfm_monitor.specs.PlainSeats.{AreNewPlainSeats}

-- the greatest number of entries of a journal
abbrev pub max_entries : ℕ
max_entries = 1048576

-- the greatest number of conditions of a monitor
abbrev pub max_conditions : ℕ
max_conditions = 16

-- 1 to 4,095 passes, each with 1 entry or more, at most 1,048,576 entries in all, and at most 16 conditions
abbrev pub InLimits : ℕ → ℕ → ℕ → Type 0
InLimits seats share conditions = (0 < seats) × (seats ≤ max_seats) × (0 < share) × (seats * share ≤ max_entries) × (conditions ≤ max_conditions)

module _ {O A R : Type 0} {K : _} where
  -- an object with an empty journal
  pub record IsEmpty (object : O) (seats share : ℕ) (v : Journaled O A R K) : Type 0 where
    pub nothing : v.journal.items ≡ []
    pub opening : v.opening.value ≡ object
    pub seats_are : v.seats ≡ seats
    pub share_is : v.share ≡ share

  -- the pass with this number has done nothing and seen nothing, and no pass has waited on the conditions
  pub record NewPass (m : Monitor O A R K) (number : ℕ) (p : Pass O A R K) : Type 0 where
    pub belongs : OfMonitor p m
    pub empty : Journaled O A R K
    pub nothing : empty.journal.items ≡ []
    pub sees : pass_sight p ≡ new_sight empty (passes_of m) number
    pub counts : (seen_of p ≡ 0) × (mine_of p ≡ 0)
    pub cond_seats : AreNewSeats (passes_of m) number (cond_seats_of p)
    pub plain_seats : AreNewPlainSeats (passes_of m) number (plain_seats_of p)
