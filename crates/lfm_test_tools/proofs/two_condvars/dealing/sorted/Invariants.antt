use Rattle.std.proofs.Common.{◌≡◌, ℕ}
use mathlib.Core.Option.{some}
use lib.ListN.{get_elem?}
use Rattle.lfm_mutex.specs.Belongs.{OfMutex}
use Rattle.lfm_condvar.specs.Belongs.{OfCondvar}
use Rattle.lfm_test_tools.proofs.two_condvars.dealing.sorted.Given as goal

abbrev pub invariant-sorting : goal.invariant-sorting
invariant-sorting l = record {
  seats : (j : ℕ) (s : _) → get_elem? l.room.seats.items j ≡ some s → OfMutex s l.shared.mutex;
  first : (j : ℕ) (s : _) → get_elem? l.room.first.items j ≡ some s → OfCondvar s l.shared.first;
  second : (j : ℕ) (s : _) → get_elem? l.room.second.items j ≡ some s → OfCondvar s l.shared.second;
}
