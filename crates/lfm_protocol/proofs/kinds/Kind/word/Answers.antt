use Rattle.std.proofs.Common.{rules}
use Rattle.lfm_protocol.proofs.kinds.Kind.word.Goals as goal

pub returns-in-WakeLoad : goal.returns-in-WakeLoad
returns-in-WakeLoad c = search rules
