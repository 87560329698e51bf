use Rattle.std.proofs.Common.{◌≡◌, ℕ}
use mathlib.Core.Option.{some}
use lib.ListN.{get_elem?}
use Rattle.lfm_plain_condvar.specs.Belongs.{OfPlain}
use Rattle.lfm_plain_test_tools.proofs.many_hands.plain_seats_of.Given as goal

abbrev pub invariant-sorting : goal.invariant-sorting
invariant-sorting l = (j : ℕ) (s : _) → get_elem? l.room.items j ≡ some s → OfPlain s l.condvar
