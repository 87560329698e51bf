use Rattle.lfm_protocol.specs.Seats.{absent}
use Rattle.lfm_protocol.proofs.SeatLaws.{entry_read}
use Rattle.lfm_protocol.proofs.machine.Machine.seat.Goals as goal

pub returns : goal.returns
returns c =
    let is = rw (← c.self.view_is) at c.requires in
    rw (← c.self.view_is) (entry_read absent c.self.inside.seats.items c.args.s c.index.result.now is.above is.within c.index.ensures)
