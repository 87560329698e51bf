-- The plain conditions of a monitor, and the plain seats that a pass has of them: one of each, in their order.
use Rattle.std.specs.Prelude.{◌≡◌, ℕ, List, [], length}
use mathlib.Core.Option.{some}
use lib.ListN.{get_elem?}
use Rattle.lfm_mutex.specs.declared.pace.Pace.{Pace}
use Rattle.lfm_mutex.specs.Belongs.{limits_of}
use Rattle.lfm_mutex.specs.calls.Sight.{new_sight, sight}
use Rattle.lfm_mutex.specs.calls.Woken.{PollsAndWakesAsGranted}
use Rattle.lfm_plain_condvar.specs.declared.condvar.PlainCondvar.{PlainCondvar}
use Rattle.lfm_plain_condvar.specs.declared.plain_seat.PlainSeat.{PlainSeat}
use Rattle.lfm_plain_condvar.specs.declared.waiters.Waiters.{Waiters}
use Rattle.lfm_plain_condvar.specs.Belongs.{OfPlain, notified_by}
use Rattle.lfm_plain_condvar.specs.Keeping.{IsNew}
use Rattle.lfm_monitor.specs.CondSeats.{condition_limits}
use Rattle.lfm_monitor.specs.Pairs.{Each, Pairwise}

-- these are the plain conditions of a monitor with this number of passes
abbrev pub ArePlainConditions : ℕ → List PlainCondvar → Type 0
ArePlainConditions seats conditions = (i : ℕ) (v : PlainCondvar) → get_elem? conditions i ≡ some v → limits_of v.inner ≡ condition_limits seats

-- these conditions all have this pace
abbrev pub ArePlainPaced : Pace → List PlainCondvar → Type 0
ArePlainPaced pace conditions = (i : ℕ) (v : PlainCondvar) → get_elem? conditions i ≡ some v → v.inner.pace ≡ pace

-- both are the same condvar, with possibly different paces
pub record SamePlainButPace (u v : PlainCondvar) : Type 0 where
  pub table : v.inner.table ≡ u.inner.table
  pub limits : v.inner.limits ≡ u.inner.limits
  pub parkers : v.parkers ≡ u.parkers

-- both are the same list of conditions, with possibly different paces
abbrev pub SamePlainButPaces : List PlainCondvar → List PlainCondvar → Type 0
SamePlainButPaces us vs = Pairwise (λ (u v : PlainCondvar). SamePlainButPace u v) us vs

-- there is a plain seat for each condition, at the same index
abbrev pub OfPlainConditions : List PlainSeat → List PlainCondvar → Type 0
OfPlainConditions seats conditions = Pairwise (λ (c : PlainSeat) (v : PlainCondvar). OfPlain c v) seats conditions

-- from one to the other, the plain seat has woken exactly those that it granted the list of its condition, in order
abbrev pub PlainWokenAsGranted : PlainSeat → PlainSeat → Type 0
PlainWokenAsGranted c d = PollsAndWakesAsGranted c.seat d.seat

-- the same for each plain seat
abbrev pub PlainSeatsWokenAsGranted : List PlainSeat → List PlainSeat → Type 0
PlainSeatsWokenAsGranted cs ds = Pairwise (λ (c d : PlainSeat). PlainWokenAsGranted c d) cs ds

-- the plain seat with this number, one of `passes`, has done nothing and notified nobody, and no pass has waited on its
-- condition
abbrev pub IsNewPlainSeat : ℕ → ℕ → PlainSeat → Type 0
IsNewPlainSeat passes number c = (nobody : Waiters) × IsNew nobody × (sight c.seat ≡ new_sight nobody passes number) × (notified_by c ≡ [])

-- all these plain seats are new
abbrev pub AreNewPlainSeats : ℕ → ℕ → List PlainSeat → Type 0
AreNewPlainSeats passes number seats = (i : ℕ) (c : PlainSeat) → get_elem? seats i ≡ some c → IsNewPlainSeat passes number c

-- the plain seats of a new pass with this number, one of `passes`
abbrev pub AreNewPlainSeatsOf : ℕ → ℕ → List PlainSeat → List PlainCondvar → Type 0
AreNewPlainSeatsOf passes number seats conditions = OfPlainConditions seats conditions × AreNewPlainSeats passes number seats
