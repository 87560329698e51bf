use Rattle.lfm_laws.proofs.lawful.calls.HeldTold.{holders_took_their_record}
use Rattle.lfm_laws.proofs.calls.holders_took_their_record.Goals as goal

pub returns : goal.returns
returns c = holders_took_their_record
