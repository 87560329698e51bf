use Rattle.lfm_laws.proofs.lawful.refusals.RefusedCalls.{refused_begins_change_nothing}
use Rattle.lfm_laws.proofs.refusals.refused_begins_change_nothing.Goals as goal

pub returns : goal.returns
returns c = refused_begins_change_nothing
