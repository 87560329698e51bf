use Rattle.std.proofs.Common.{rules}
use Rattle.lfm_script.proofs.script.reading.read_header.Goals as goal

pub returns : goal.returns
returns c = search rules
