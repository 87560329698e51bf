use Rattle.lfm_laws.proofs.lawful.calls.TakesCounted.{takes_count_charges}
use Rattle.lfm_laws.proofs.calls.takes_count_charges.Goals as goal

pub returns : goal.returns
returns c = takes_count_charges
