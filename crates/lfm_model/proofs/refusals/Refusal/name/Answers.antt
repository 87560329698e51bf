use Rattle.std.proofs.Common.{rules}
use Rattle.lfm_model.proofs.refusals.Refusal.name.Goals as goal

pub returns-in-Nested : goal.returns-in-Nested
returns-in-Nested c = search rules
