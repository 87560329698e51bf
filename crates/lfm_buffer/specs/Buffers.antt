-- A bounded buffer and its ops. Its numbers are in the slots from `taken` to `put`, modulo the room.
use Rattle.std.specs.Prelude.{ℕ, ◌+◌, ◌-◌, ◌%◌, ◌^◌, nat_lt, nat_eq, if◌then◌else◌, slice_set, slice_index}
use Rattle.lfm_buffer.specs.declared.Buffer.{Buffer}
use Rattle.lfm_buffer.specs.declared.BufferOp.{BufferOp}
use Rattle.lfm_buffer.specs.declared.BufferOp.TheVariants.{Put, Take}
use Rattle.lfm_buffer.specs.declared.BufferReply.{BufferReply}

-- how many numbers it has room for
abbrev pub room : ℕ
room = 4

abbrev pub buffer_after : Buffer → BufferOp → Buffer
buffer_after b (Put x) = if nat_lt (b.put - b.taken) room then record b { slots = slice_set b.slots (b.put % room) x; put = (b.put + 1) % 2 ^ 64 } else b
buffer_after b Take = if nat_eq b.put b.taken then b else record b { taken = (b.taken + 1) % 2 ^ 64 }

abbrev pub buffer_reply : Buffer → BufferOp → BufferReply
buffer_reply b (Put x) = if nat_lt (b.put - b.taken) room then BufferReply.Stored else BufferReply.Full
buffer_reply b Take = if nat_eq b.put b.taken then BufferReply.Empty else BufferReply.Taken (slice_index b.slots (b.taken % room))
