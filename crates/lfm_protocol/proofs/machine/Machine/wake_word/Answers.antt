use Rattle.std.proofs.Common.{sym, ◌∙◌}
use Rattle.lfm_words.specs.declared.wakes.Wake.TheVariants.{Quiet}
use Rattle.lfm_protocol.proofs.SeatLaws.{entry_absent}
use Rattle.lfm_protocol.proofs.machine.Machine.wake_word.Goals as goal

pub returns-else-is_seat : goal.returns-else-is_seat
returns-else-is_seat c =
    let none = rw (← c.self.view_is) at (sym c.is_seat.ensures ∙ c.if-is_seat.false) in
    rw (← c.self.view_is) (entry_absent Quiet c.self.inside.wakes.items c.args.t (rw c.self.invariant.woken none))
