use Rattle.std.proofs.Common.{◌≡◌, ◌<◌, ℕ, [], length, vec_len, vec_capacity, slice_index_or}
use Rattle.lfm_script.proofs.script.commands.reserve_commands.Given as goal

-- the lists so far are empty, with the room that was asked for
abbrev pub invariant-reserving : goal.invariant-reserving
invariant-reserving l = record {
  count : vec_len l.commands ≡ l.count-index;
  space : vec_capacity l.commands ≡ length l.counts;
  empty : (i : ℕ) (d : _) → i < l.count-index → (slice_index_or l.commands.items i d).items ≡ [];
  room : (i : ℕ) (d : _) (n : ℕ) → i < l.count-index → vec_capacity (slice_index_or l.commands.items i d) ≡ slice_index_or l.counts i n;
}
