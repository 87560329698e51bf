use Rattle.std.proofs.Common.{◌≡◌, ◌+◌, ◌≤◌, length}
use Rattle.lfm_protocol.specs.Limits.{max_seats}
use Rattle.lfm_protocol.specs.Queue.{chain}
use Rattle.lfm_protocol.proofs.machine.Machine.chain_len.Given as goal

abbrev pub invariant-walking : goal.invariant-walking
invariant-walking l = record {
  met : l.length + length l.chain ≡ length (chain l.self.links l.from);
  few : l.length + length l.chain ≤ max_seats;
}

abbrev pub decreases-walking : goal.decreases-walking
decreases-walking l = length l.chain
