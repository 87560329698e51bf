use Rattle.std.proofs.Common.{None, ◌∙◌, zero-add}
use Rattle.lfm_model.proofs.JournalLists.{lawful_stamps}
use Rattle.lfm_model.proofs.LawfulJournals.{queued_stamps}
use Rattle.lfm_model.proofs.journal_laws.lawful_stamps_are_consecutive.Goals as goal

pub returns-clause-counted : goal.returns-clause-counted
returns-clause-counted g c = λ es. queued_stamps 0 es ∙ zero-add _

pub returns-clause-stamps : goal.returns-clause-stamps
returns-clause-stamps g c = λ es h. lawful_stamps None 0 es h
