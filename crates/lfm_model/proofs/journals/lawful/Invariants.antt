use Rattle.std.proofs.Common.{◌≤◌, drop}
use Rattle.lfm_model.specs.Journals.{LawfulFrom, LawfulJournal}
use Rattle.lfm_model.proofs.journals.lawful.Given as goal

abbrev pub invariant-loop-entry : goal.invariant-loop-entry
invariant-loop-entry g l = (l.stamp ≤ l.entry-index) × ((LawfulJournal l.entries → LawfulFrom l.taker l.stamp (drop l.entry-index l.entries)) × (LawfulFrom l.taker l.stamp (drop l.entry-index l.entries) → LawfulJournal l.entries))
