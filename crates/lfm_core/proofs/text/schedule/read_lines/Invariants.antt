use Rattle.std.proofs.Common.{◌≡◌, ◌+◌, length, vec_capacity}
use Rattle.lfm_text.specs.Text.{lines_of}
use Rattle.lfm_text.specs.Grammar.{lines_from}
use Rattle.lfm_core.specs.text.Grammar.{schedules}
use Rattle.lfm_text.proofs.Reading.{after_prefix}
use Rattle.lfm_core.proofs.text.schedule.read_lines.Given as goal

abbrev pub invariant-reading : goal.invariant-reading
invariant-reading l = record {
  said : after_prefix l.lines.items (lines_from schedules l.number (lines_of l.rest)) ≡ lines_from schedules 2 (lines_of l.text);
  counted : length l.lines.items + length (lines_of l.rest) ≡ l.count;
  numbered : l.number ≡ 2 + length l.lines.items;
  room : vec_capacity l.lines ≡ l.count;
}

abbrev pub decreases-reading : goal.decreases-reading
decreases-reading l = length l.rest
