use Rattle.std.proofs.Common.{◌≡◌, ◌==◌, ◌≤◌, ◌+◌, ◌-◌, false, count_by, length, take, vec_len, vec_capacity}
use Rattle.std.specs.Io.KnownBytes.{Consumes}
use Rattle.lfm_text.specs.Text.{is_past_limit, max_bytes}
use Rattle.lfm_text.proofs.input.read_input.Given as goal

abbrev pub invariant-reading : goal.invariant-reading
invariant-reading g l = record {
  taken : Consumes (g.R.Read.remaining l.fn.reader) (g.R.Read.remaining l.reader) l.input.items;
  most : length l.input.items ≤ max_bytes + 1;
  first : is_past_limit (take (length l.input.items - 1) l.input.items) ≡ false;
  counted : l.line_feeds ≡ count_by (λ b. b == 10) l.input.items;
  room : max_bytes + 1 ≤ vec_capacity l.input;
}

abbrev pub decreases-reading : goal.decreases-reading
decreases-reading g l = max_bytes + 1 - vec_len l.input
