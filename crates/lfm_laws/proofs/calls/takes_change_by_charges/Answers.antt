use Rattle.lfm_laws.proofs.lawful.calls.TakesCounted.{takes_change_by_charges}
use Rattle.lfm_laws.proofs.calls.takes_change_by_charges.Goals as goal

pub returns : goal.returns
returns c = takes_change_by_charges
