use Rattle.std.proofs.Common.{rules}
use Rattle.lfm_protocol.proofs.points.Pusher.point_at_post.Goals as goal

pub returns-in-Sender : goal.returns-in-Sender
returns-in-Sender c = search rules
