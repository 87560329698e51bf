use Rattle.std.proofs.Common.{rules}
use Rattle.lfm_script.proofs.rows.Row.count_entry.Goals as goal

pub returns-in-Did-Add : goal.returns-in-Did-Add
returns-in-Did-Add c = search rules
