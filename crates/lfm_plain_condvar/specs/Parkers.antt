-- The rule of the parkers, and what a step on one of them tells.
use Rattle.std.specs.Prelude.{◌≡◌, ℕ, ◌+◌, ◌≤◌, ◌==◌, if◌then◌else◌, List, [], ◌∷◌, ◌++◌, slice_index}
use mathlib.Core.Option.{some}
use lib.ListN.{get_elem?}
use Rattle.atomic_table.specs.Table.{State, Me, Step, rest}
use Rattle.lfm_plain_condvar.specs.declared.parkers.Notices.{Notices}
use Rattle.lfm_plain_condvar.specs.declared.parkers.woken.Woken.{Woken}
use Rattle.lfm_plain_condvar.specs.WokenWords.{notified_word}

abbrev pub no_notices : Notices
no_notices = record { parkers = []; wakers = []; parked = [] }

-- one seat's notices, and then another's
abbrev pub with_those : Notices → Notices → Notices
with_those v w = record { parkers = v.parkers ++ w.parkers; wakers = v.wakers ++ w.wakers; parked = v.parked ++ w.parked }

-- how often this number is in the list
abbrev pub times : ℕ → List ℕ → ℕ
times k [] = 0
times k (x ∷ xs) = (if x == k then 1 else 0) + times k xs

-- how many seats of the table have the waker of parker k
abbrev pub owners : ℕ → List Notices → ℕ
owners k [] = 0
owners k (v ∷ vs) = times k v.wakers + owners k vs

-- the waker of a parker that was notified is in the table
abbrev pub AtHomeIfNotified : State (Unit {0}) Notices → Type 0
AtHomeIfNotified s = (k : ℕ) → 2 ≤ slice_index s.words k → get_elem? s.homes k ≡ some (some tt)

-- at most one seat has the waker of a parker, and none has that of a parker that was notified
abbrev pub OneOwner : State (Unit {0}) Notices → Type 0
OneOwner s = (k : ℕ) → (owners k s.views ≤ 1) × (2 ≤ slice_index s.words k → owners k s.views ≡ 0)

abbrev pub ParkersHold : State (Unit {0}) Notices → Type 0
ParkersHold s = AtHomeIfNotified s × OneOwner s

-- a seat with this view and these slots has the waker of parker k, and has notified nobody
abbrev pub IsWakerOf : ℕ → Me (Unit {0}) Notices → Type 0
IsWakerOf k me = (me.0 ≡ record { parkers = []; wakers = k ∷ []; parked = [] }) × (me.1 ≡ (k, tt) ∷ [])

-- who finds that the parker was notified takes its waker
abbrev pub TakesIfNotified : Step (Unit {0}) → Me (Unit {0}) Notices → ℕ → Me (Unit {0}) Notices → Type 0
TakesIfNotified x before found after = 2 ≤ found → IsWakerOf x.word after

-- parker k, if a swap found by its word that its thread is parked
abbrev pub if_parked : ℕ → ℕ → List ℕ
if_parked k found = (if found == 1 then k ∷ [] else [])

-- the parker's word now says that it was notified, its waker went back to the table, and the seat has notified this parker,
-- and knows whether it found its thread parked
abbrev pub Notifies : Step (Unit {0}) → Me (Unit {0}) Notices → ℕ → Me (Unit {0}) Notices → Type 0
Notifies x before found after = ((w : Woken) × (x.first ≡ notified_word w)) × (after.0 ≡ record { parkers = x.word ∷ []; wakers = []; parked = if_parked x.word found }) × (after.1 ≡ rest before.1)

-- the seat keeps its view, and gives its slot back
abbrev pub Retires : Step (Unit {0}) → Me (Unit {0}) Notices → ℕ → Me (Unit {0}) Notices → Type 0
Retires x before found after = after ≡ (before.0, rest before.1)

-- the seat has the waker of each parker at most once
abbrev pub HasEachOnce : Step (Unit {0}) → Me (Unit {0}) Notices → ℕ → Me (Unit {0}) Notices → Type 0
HasEachOnce x before found after = (k : ℕ) → times k before.0.wakers ≤ 1

-- the new seat has notified nobody
abbrev pub StartsWithNone : Step (Unit {0}) → Me (Unit {0}) Notices → ℕ → Me (Unit {0}) Notices → Type 0
StartsWithNone x before found after = after.0 ≡ no_notices
