use Rattle.std.proofs.Common.{rules}
use Rattle.lfm_text.proofs.output.write_number.Goals as goal

pub returns : goal.returns
returns g c = search rules
