use Rattle.lfm_model.proofs.LawfulJournals.{by_takers_lawful}
use Rattle.lfm_model.proofs.journal_laws.journals_by_takers_are_lawful.Goals as goal

pub returns : goal.returns
returns g c = by_takers_lawful
