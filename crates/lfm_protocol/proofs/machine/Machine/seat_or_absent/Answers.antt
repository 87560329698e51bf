use Rattle.std.proofs.Common.{rules, tests}
use Rattle.lfm_protocol.specs.Seats.{absent}
use Rattle.lfm_protocol.proofs.SeatLaws.{entry_absent}
use Rattle.lfm_protocol.proofs.machine.Machine.seat_or_absent.Goals as goal

pub returns-else-is_seat : goal.returns-else-is_seat
returns-else-is_seat c = entry_absent absent c.args.self.now.seats c.args.s (search (rules, tests))
