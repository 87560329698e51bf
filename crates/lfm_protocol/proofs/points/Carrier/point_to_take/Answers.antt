use Rattle.std.proofs.Common.{rules}
use Rattle.lfm_protocol.proofs.points.Carrier.point_to_take.Goals as goal

pub returns-in-Some : goal.returns-in-Some
returns-in-Some c = search rules
