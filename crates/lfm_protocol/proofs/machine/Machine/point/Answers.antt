use Rattle.std.proofs.Common.{rules, tests, ap}
use Rattle.lfm_protocol.specs.Seats.{absent}
use Rattle.lfm_protocol.proofs.SeatLaws.{entry_absent}
use Rattle.lfm_protocol.proofs.machine.Machine.point.Goals as goal

pub returns-else-is_seat : goal.returns-else-is_seat
returns-else-is_seat c = ap (λ x. x.point) (entry_absent absent c.args.self.now.seats c.args.s (search (rules, tests)))
