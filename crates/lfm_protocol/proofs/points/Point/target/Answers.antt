use Rattle.std.proofs.Common.{rules}
use Rattle.lfm_protocol.proofs.points.Point.target.Goals as goal

pub returns-in-GrantWakeStore : goal.returns-in-GrantWakeStore
returns-in-GrantWakeStore c = search rules
