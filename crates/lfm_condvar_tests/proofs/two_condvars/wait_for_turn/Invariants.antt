use Rattle.lfm_test_tools.specs.Parts.{OfShared}
use Rattle.lfm_condvar_tests.proofs.two_condvars.wait_for_turn.Given as goal

abbrev pub invariant-waiting : goal.invariant-waiting
invariant-waiting g l = OfShared l.part l.shared
