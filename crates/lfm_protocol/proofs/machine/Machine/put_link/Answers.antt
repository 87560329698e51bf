use Rattle.lfm_protocol.proofs.SeatLaws.{with_entry_at}
use Rattle.lfm_protocol.proofs.machine.Machine.put_link.Goals as goal

pub returns : goal.returns
returns c = rw (← c.self.view_is, ← with_entry_at c.self.inside.links.items c.args.t c.args.x c.requires.above)
