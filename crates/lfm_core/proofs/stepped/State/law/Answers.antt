use Rattle.lfm_laws.proofs.lawful.states.StateLaws.{steady_is_lawful}
use Rattle.lfm_core.proofs.stepped.State.law.Goals as goal

pub returns : goal.returns
returns c = rw (← c.self.view_is) (steady_is_lawful c.self.inside.machine c.self.invariant.0)
