use Rattle.lfm_model.proofs.LawfulJournals.{lawful_grows}
use Rattle.lfm_model.proofs.journal_laws.lawful_journals_grow_by_what_may_come.Goals as goal

pub returns : goal.returns
returns g c = lawful_grows
