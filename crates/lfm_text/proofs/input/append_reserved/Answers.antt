use Rattle.std.proofs.Common.{rules}
use Rattle.lfm_text.proofs.input.append_reserved.Goals as goal

pub returns-clause-items : goal.returns-clause-items
returns-clause-items c = search rules
