use Rattle.lfm_laws.proofs.lawful.calls.EffectsOwned.{changes_are_of_open_calls}
use Rattle.lfm_laws.proofs.effects.changes_are_of_open_calls.Goals as goal

pub returns : goal.returns
returns c = changes_are_of_open_calls
