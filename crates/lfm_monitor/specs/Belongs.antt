-- What belongs to a monitor. Contracts refer to a monitor and its passes only by these definitions.
use Rattle.std.specs.Prelude.{◌≡◌, ℕ, List, length}
use Rattle.lfm_protocol.specs.declared.limits.Limits.{Limits}
use Rattle.lfm_mutex.specs.Belongs.{OfMutex, limits_of, tries_of}
use Rattle.lfm_mutex.specs.calls.RunGoesOn.{Action, RunGoesOnFrom, past_of}
use Rattle.lfm_mutex.specs.calls.Sight.{Sight, sight}
use Rattle.lfm_mutex.specs.calls.Woken.{PollsAndWakesAsGranted, WokenAsGranted}
use Rattle.lfm_condvar.specs.declared.condvar.Condvar.{Condvar}
use Rattle.lfm_condvar.specs.declared.cond_seat.CondSeat.{CondSeat}
use Rattle.lfm_plain_condvar.specs.declared.condvar.PlainCondvar.{PlainCondvar}
use Rattle.lfm_plain_condvar.specs.declared.plain_seat.PlainSeat.{PlainSeat}
use Rattle.lfm_monitor.specs.declared.journaled.Journaled.{Journaled}
use Rattle.lfm_monitor.specs.declared.monitor.Monitor.{Monitor}
use Rattle.lfm_monitor.specs.declared.pass.Pass.{Pass}
use Rattle.lfm_monitor.specs.CondSeats.{OfConditions}
use Rattle.lfm_monitor.specs.PlainSeats.{OfPlainConditions}
use Rattle.lfm_monitor.specs.Passes.{Began}

-- these are seats of the conditions of both kinds
pub record OfAllConditions (cs : List CondSeat) (vs : List Condvar) (qs : List PlainSeat) (ws : List PlainCondvar) : Type 0 where
  pub morphing : OfConditions cs vs
  pub plain : OfPlainConditions qs ws

module _ {O A R : Type 0} {K : _} where
  -- the object that the monitor was made with
  abbrev pub opening_of : Monitor O A R K → O
  opening_of m = m.opening.value

  -- how many seats its mutex has, and how many takes each of them may make
  abbrev pub mutex_limits : Monitor O A R K → Limits
  mutex_limits m = limits_of m.mutex

  -- the greatest number of tries that a pass makes before it queues, for the monitor in a call that tries at all, and for the
  -- list of a condition
  abbrev pub tries_in : Monitor O A R K → ℕ
  tries_in m = tries_of m.mutex

  -- how many passes the monitor has
  abbrev pub passes_of : Monitor O A R K → ℕ
  passes_of m = (limits_of m.mutex).seats

  -- how many entries each pass may write
  abbrev pub share_of : Monitor O A R K → ℕ
  share_of m = m.share

  -- the conditions of the monitor that are not plain, in order
  abbrev pub conditions_in : Monitor O A R K → List Condvar
  conditions_in m = m.conditions.items

  -- how many conditions the monitor has that are not plain
  abbrev pub conditions_of : Monitor O A R K → ℕ
  conditions_of m = length (conditions_in m)

  -- the plain conditions of the monitor, in order
  abbrev pub plain_conditions_in : Monitor O A R K → List PlainCondvar
  plain_conditions_in m = m.plain_conditions.items

  -- how many plain conditions the monitor has. If it has one, all its conditions are plain
  abbrev pub plain_conditions_of : Monitor O A R K → ℕ
  plain_conditions_of m = length (plain_conditions_in m)

  -- the pass's cond seats, one of each condition that is not plain, in their order
  abbrev pub cond_seats_of : Pass O A R K → List CondSeat
  cond_seats_of p = p.cond_seats.items

  -- the pass's plain seats, one of each plain condition, in their order
  abbrev pub plain_seats_of : Pass O A R K → List PlainSeat
  plain_seats_of p = p.plain_seats.items

  -- the pass's seats of conditions have not changed
  abbrev pub SameCondSeats : Pass O A R K → Pass O A R K → Type 0
  SameCondSeats p q = (cond_seats_of q ≡ cond_seats_of p) × (plain_seats_of q ≡ plain_seats_of p)

  -- the pass belongs to the monitor
  abbrev pub OfMonitor : Pass O A R K → Monitor O A R K → Type 0
  OfMonitor p m = OfMutex p.seat m.mutex × Began (opening_of m) (passes_of m) (share_of m) (sight p.seat) × OfAllConditions (cond_seats_of p) (conditions_in m) (plain_seats_of p) (plain_conditions_in m)

  -- both are the same monitor
  abbrev pub SameMonitor : Monitor O A R K → Monitor O A R K → Type 0
  SameMonitor m n = (m.mutex ≡ n.mutex) × (m.opening ≡ n.opening) × (m.share ≡ n.share) × (m.conditions ≡ n.conditions) × (m.plain_conditions ≡ n.plain_conditions)

  -- the sight of the pass's seat
  abbrev pub pass_sight : Pass O A R K → Sight (Journaled O A R K)
  pass_sight p = sight p.seat

  -- the actions of all passes that it knows: the run of the mutex up to the pass's own last step or load of the owner word,
  -- after which only others have acted
  abbrev pub pass_past : Pass O A R K → List Action
  pass_past p = past_of p.seat

  -- from one to the other, the pass has woken exactly those that it granted the monitor, in order, and has made no poll
  abbrev pub PassWokenAsGranted : Pass O A R K → Pass O A R K → Type 0
  PassWokenAsGranted p q = WokenAsGranted p.seat q.seat

  -- from one to the other, the pass has woken exactly those that it granted the monitor, in order; it may have polled
  abbrev pub PassPollsAndWakesAsGranted : Pass O A R K → Pass O A R K → Type 0
  PassPollsAndWakesAsGranted p q = PollsAndWakesAsGranted p.seat q.seat

  -- the run of the monitor's mutex continues from what the pass knew to what it knows now
  abbrev pub PassRunGoesOnFrom : Pass O A R K → Pass O A R K → Type 0
  PassRunGoesOnFrom p q = RunGoesOnFrom p.seat q.seat

  -- the journal's length when the pass last left
  abbrev pub seen_of : Pass O A R K → ℕ
  seen_of p = p.seen

  -- how many entries are the pass's own
  abbrev pub mine_of : Pass O A R K → ℕ
  mine_of p = p.mine
