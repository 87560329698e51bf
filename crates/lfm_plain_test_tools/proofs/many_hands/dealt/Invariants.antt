use Rattle.std.proofs.Common.{◌≡◌, ℕ, All}
use mathlib.Core.Option.{some}
use lib.ListN.{get_elem?}
use Rattle.lfm_mutex.specs.Belongs.{OfMutex}
use Rattle.lfm_plain_condvar.specs.Belongs.{OfPlain}
use Rattle.lfm_plain_test_tools.specs.Hands.{IsHandOf}
use Rattle.lfm_plain_test_tools.proofs.many_hands.dealt.Given as goal

abbrev pub invariant-dealing : goal.invariant-dealing
invariant-dealing l = record {
  seats : (j : ℕ) (s : _) → get_elem? l.user_seats.items j ≡ some s → OfMutex s l.mutex;
  plain : (j : ℕ) (s : _) → get_elem? l.cond_seats.items j ≡ some s → OfPlain s l.condvar;
  hands : All (λ h. IsHandOf h l.mutex l.condvar) l.hands.items;
}
