use Rattle.lfm_test_tools.specs.Parts.{OfShared}
use Rattle.lfm_stress.proofs.loads.broadcast.broadcast.Given as goal

-- the part stays one of the mutex and its condvars
abbrev pub invariant-turns : goal.invariant-turns
invariant-turns g l = OfShared l.part l.shared
