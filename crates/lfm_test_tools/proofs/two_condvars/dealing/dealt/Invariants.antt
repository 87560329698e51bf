use Rattle.std.proofs.Common.{◌≡◌, ℕ, All}
use mathlib.Core.Option.{some}
use lib.ListN.{get_elem?}
use Rattle.lfm_mutex.specs.Belongs.{OfMutex}
use Rattle.lfm_condvar.specs.Belongs.{OfCondvar}
use Rattle.lfm_test_tools.specs.Parts.{OfShared}
use Rattle.lfm_test_tools.proofs.two_condvars.dealing.dealt.Given as goal

abbrev pub invariant-dealing : goal.invariant-dealing
invariant-dealing l = record {
  seats : (j : ℕ) (s : _) → get_elem? l.user_seats.items j ≡ some s → OfMutex s l.shared.mutex;
  first : (j : ℕ) (s : _) → get_elem? l.first_seats.items j ≡ some s → OfCondvar s l.shared.first;
  second : (j : ℕ) (s : _) → get_elem? l.second_seats.items j ≡ some s → OfCondvar s l.shared.second;
  parts : All (λ p. OfShared p l.shared) l.parts.items;
}
