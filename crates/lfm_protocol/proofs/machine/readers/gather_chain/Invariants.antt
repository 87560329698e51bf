use Rattle.std.proofs.Common.{◌≡◌, ◌++◌, length, vec_capacity}
use Rattle.lfm_protocol.proofs.machine.readers.gather_chain.Given as goal

abbrev pub invariant-walking : goal.invariant-walking
invariant-walking l = record {
  gathered : l.room.items ++ l.chain ≡ l.fn.room.items ++ l.fn.chain;
  room : vec_capacity l.room ≡ vec_capacity l.fn.room;
}

abbrev pub decreases-walking : goal.decreases-walking
decreases-walking l = length l.chain
