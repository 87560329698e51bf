use Rattle.lfm_words.specs.declared.wakes.Wake.TheVariants.{Quiet}
use Rattle.std.proofs.Common.{arith}
use Rattle.lfm_protocol.proofs.SeatLaws.{entry_read}
use Rattle.lfm_protocol.proofs.machine.Machine.wake.Goals as goal

pub returns : goal.returns
returns c =
    let is = rw (← c.self.view_is) at c.requires in
    rw (← c.self.view_is) (entry_read Quiet c.self.inside.wakes.items c.args.t c.index.result.now is.above (omega (arith, is.within, c.self.invariant)) c.index.ensures)
