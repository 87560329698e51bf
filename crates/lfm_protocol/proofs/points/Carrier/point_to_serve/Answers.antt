use Rattle.std.proofs.Common.{rules}
use Rattle.lfm_protocol.proofs.points.Carrier.point_to_serve.Goals as goal

pub returns-in-Locker : goal.returns-in-Locker
returns-in-Locker c = search rules
