use Rattle.std.proofs.Common.{◌≡◌, ◌++◌, take, vec_capacity}
use Rattle.lfm_protocol.proofs.machine.readers.gather_popped.Given as goal

abbrev pub invariant-loop-record : goal.invariant-loop-record
invariant-loop-record l = record {
  gathered : l.room.items ≡ l.fn.room.items ++ take l.record-index l.records;
  room : vec_capacity l.room ≡ vec_capacity l.fn.room;
}
