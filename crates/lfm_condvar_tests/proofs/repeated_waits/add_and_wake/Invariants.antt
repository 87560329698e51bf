use Rattle.lfm_test_tools.specs.Parts.{OfShared}
use Rattle.lfm_condvar_tests.proofs.repeated_waits.add_and_wake.Given as goal

abbrev pub invariant-adds : goal.invariant-adds
invariant-adds g l = OfShared l.part l.shared
