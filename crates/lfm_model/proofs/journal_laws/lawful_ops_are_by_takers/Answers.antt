use Rattle.lfm_model.proofs.LawfulJournals.{ops_by_takers}
use Rattle.lfm_model.proofs.journal_laws.lawful_ops_are_by_takers.Goals as goal

pub returns : goal.returns
returns g c = ops_by_takers
