use Rattle.std.proofs.Common.{ap}
use Rattle.lfm_monitor_tests.proofs.passes.opened.Goals as goal

pub returns : goal.returns
returns c = λ j p at. let new = c.in-Ok.ensures.passes.1 j p at in (new.belongs, (ap (λ s. s.depth) new.sees, ap (λ s. s.asleep) new.sees))
