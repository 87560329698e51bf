use Rattle.std.proofs.Common.{◌≡◌, drop}
use Rattle.lfm_protocol.specs.Queue.{chain}
use Rattle.lfm_protocol.proofs.machine.Machine.chained.Given as goal

abbrev pub invariant-loop : goal.invariant-loop
invariant-loop l = l.chain ≡ drop l.counter (chain l.self.links l.from)
