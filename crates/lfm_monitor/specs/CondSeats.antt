-- The conditions of a monitor, and the cond seats that a pass has of them: one of each, in their order.
use Rattle.std.specs.Prelude.{◌≡◌, ℕ, List, length}
use mathlib.Core.Option.{some}
use lib.ListN.{get_elem?}
use Rattle.lfm_protocol.specs.declared.limits.Limits.{Limits}
use Rattle.lfm_protocol.specs.Limits.{max_budget}
use Rattle.lfm_mutex.specs.declared.pace.Pace.{Pace}
use Rattle.lfm_mutex.specs.calls.Sight.{new_sight}
use Rattle.lfm_condvar.specs.declared.condvar.Condvar.{Condvar}
use Rattle.lfm_condvar.specs.declared.cond_seat.CondSeat.{CondSeat}
use Rattle.lfm_condvar.specs.declared.waiters.Waiters.{Waiters}
use Rattle.lfm_condvar.specs.Belongs.{CondWokenAsGranted, OfCondvar, cond_limits, cond_sight}
use Rattle.lfm_condvar.specs.Keeping.{IsNew}
use Rattle.lfm_monitor.specs.Pairs.{Pairwise}

-- the limits of a condition of a monitor with this number of passes: a seat for each, and the greatest budget of waits and
-- wakes
abbrev pub condition_limits : ℕ → Limits
condition_limits seats = record { seats = seats; budget = max_budget }

-- these are the conditions of a monitor with this number of passes
abbrev pub AreConditions : ℕ → List Condvar → Type 0
AreConditions seats conditions = (i : ℕ) (v : Condvar) → get_elem? conditions i ≡ some v → cond_limits v ≡ condition_limits seats

-- these conditions all have this pace
abbrev pub ArePaced : Pace → List Condvar → Type 0
ArePaced pace conditions = (i : ℕ) (v : Condvar) → get_elem? conditions i ≡ some v → v.inner.pace ≡ pace

-- both are the same condvar, with possibly different paces
pub record SameButPace (u v : Condvar) : Type 0 where
  pub table : v.inner.table ≡ u.inner.table
  pub limits : v.inner.limits ≡ u.inner.limits
  pub seats : v.seats ≡ u.seats

-- both are the same list of conditions, with possibly different paces
abbrev pub SameButPaces : List Condvar → List Condvar → Type 0
SameButPaces us vs = Pairwise (λ (u v : Condvar). SameButPace u v) us vs

-- there is a cond seat for each condition, at the same index
abbrev pub OfConditions : List CondSeat → List Condvar → Type 0
OfConditions seats conditions = Pairwise (λ (c : CondSeat) (v : Condvar). OfCondvar c v) seats conditions

-- from one list to the other, each cond seat has woken exactly those that it granted the list of its condition, in order
abbrev pub CondsWokenAsGranted : List CondSeat → List CondSeat → Type 0
CondsWokenAsGranted cs ds = Pairwise (λ (c d : CondSeat). CondWokenAsGranted c d) cs ds

-- the cond seat with this number, one of `passes`, has done nothing, and no pass has waited on its condition
abbrev pub IsNewSeat : ℕ → ℕ → CondSeat → Type 0
IsNewSeat passes number c = (nobody : Waiters) × IsNew nobody × (cond_sight c ≡ new_sight nobody passes number)

-- all these cond seats are new
abbrev pub AreNewSeats : ℕ → ℕ → List CondSeat → Type 0
AreNewSeats passes number seats = (i : ℕ) (c : CondSeat) → get_elem? seats i ≡ some c → IsNewSeat passes number c

-- the cond seats of a new pass with this number, one of `passes`
abbrev pub AreNewOf : ℕ → ℕ → List CondSeat → List Condvar → Type 0
AreNewOf passes number seats conditions = OfConditions seats conditions × AreNewSeats passes number seats
