use Rattle.std.specs.Prelude.{All}
use Rattle.lfm_test_tools.specs.Parts.{OfShared}
use Rattle.lfm_stress.proofs.running.run_tenths.Given as goal

-- the parts stay those of the mutex and its condvars
abbrev pub invariant-tenths : goal.invariant-tenths
invariant-tenths g l = All (λ p. OfShared p l.shared) l.parts.items
