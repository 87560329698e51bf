use Rattle.std.proofs.Common.{rules}
use Rattle.lfm_protocol.proofs.points.Carrier.point_after_clear.Goals as goal

pub returns-in-Releaser : goal.returns-in-Releaser
returns-in-Releaser c = search rules
