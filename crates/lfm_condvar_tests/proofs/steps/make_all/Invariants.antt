use Rattle.lfm_condvar_tests.specs.Hands.{OfCalled}
use Rattle.lfm_condvar_tests.proofs.steps.make_all.Given as goal

-- all seats in hand stay those of what is called
abbrev pub invariant-making : goal.invariant-making
invariant-making g l = OfCalled l.hand l.called.mutex.now l.called.one.now l.called.other.now
