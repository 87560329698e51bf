use Rattle.std.specs.Prelude.{All}
use Rattle.lfm_plain_test_tools.specs.Hands.{IsHandOf}
use Rattle.lfm_stress.proofs.loads.limits.run_tenths.Given as goal

-- the hands stay those of the mutex and the condvar
abbrev pub invariant-tenths : goal.invariant-tenths
invariant-tenths g l = All (λ h. IsHandOf h l.mutex l.condvar) l.hands.items
