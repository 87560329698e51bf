use Rattle.std.proofs.Common.{◌≡◌, drop}
use Rattle.lfm_protocol.specs.Queue.{unwalked}
use Rattle.lfm_protocol.proofs.machine.Machine.unwalked.Given as goal

abbrev pub invariant-loop-seat : goal.invariant-loop-seat
invariant-loop-seat l = unwalked (drop l.seat-index l.seat-items) ≡ unwalked l.self.seats
