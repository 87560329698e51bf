use Rattle.lfm_test_tools.specs.Parts.{OfShared}
use Rattle.lfm_condvar_tests.proofs.two_condvars.take_turns.Given as goal

abbrev pub invariant-turns : goal.invariant-turns
invariant-turns g l = OfShared l.part l.shared
