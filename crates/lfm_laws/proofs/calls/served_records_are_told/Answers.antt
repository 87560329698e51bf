use Rattle.lfm_laws.proofs.lawful.calls.ReleasesTold.{served_records_are_told}
use Rattle.lfm_laws.proofs.calls.served_records_are_told.Goals as goal

pub returns : goal.returns
returns c = served_records_are_told
