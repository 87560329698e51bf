use Rattle.std.proofs.Common.{◌≡◌, ℕ, ◌+◌, ◌<◌, [], length, get_or, vec_len, vec_capacity}
use Rattle.lfm_script.specs.Rows.{row_of, refusal_at}
use Rattle.lfm_script.proofs.counted_rows.rows_of.Given as goal

-- the workers so far have a row, in which nothing is counted yet
abbrev pub invariant-making : goal.invariant-making
invariant-making l = record {
  room : vec_capacity l.rows ≡ length l.refusals;
  made : vec_len l.rows ≡ l.index;
  each : (i : ℕ) (d : _) → i < l.index → get_or l.rows.items i d ≡ row_of (i + 1) [] (refusal_at l.refusals (i + 1));
}
