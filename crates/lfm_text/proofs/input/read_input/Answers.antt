use Rattle.std.proofs.Common.{rules, arith, sym, ◌∙◌, ap}
use Rattle.std.proofs.lemmas.Grind.{common_steps}
use Rattle.lfm_text.specs.Text.{is_past_limit}
use Rattle.lfm_text.proofs.LineCount.{few_bytes, few_line_feeds}
use Rattle.lfm_text.proofs.Taking.{taken_more, none_after_first, line_feeds_after}
use Rattle.lfm_text.proofs.input.read_input.Goals as goal

pub next_room-room-requires-clause-bytes_within : goal.next_room-room-requires-clause-bytes_within
next_room-room-requires-clause-bytes_within g c = omega (arith, few_bytes c.reading.input.items (sym (c.reading-test.ensures ∙ ap is_past_limit c.deref.ensures.value)))

pub next_room-room-requires-clause-lines_within : goal.next_room-room-requires-clause-lines_within
next_room-room-requires-clause-lines_within g c = omega (arith, few_line_feeds c.reading.input.items (sym (c.reading-test.ensures ∙ ap is_past_limit c.deref.ensures.value)))

pub reading-preserved : goal.reading-preserved
reading-preserved g c =
    let before = c.reading.input.items in
    let given = c.read_once.new.buffer in
    record {
      taken = taken_more _ _ _ before given _ _ c.in_ok-count.count (omega (arith, c.in_ok-count.ensures.bound)) c.reading.invariant.taken c.in_ok-count.ensures.bytes.0 c.append_reserved.ensures.items;
      most = grind (arith, common_steps);
      first = none_after_first before given _ _ c.in_ok-count.count (sym (c.reading-test.ensures ∙ ap is_past_limit c.deref.ensures.value)) (omega (arith, c.in_ok-count.ensures.bound)) (grind (arith, common_steps)) (grind (arith, common_steps)) (grind (arith, common_steps)) c.append_reserved.ensures.items;
      counted = omega (arith, line_feeds_after before _ _ c.append_reserved.ensures.items);
      room = omega (arith, c.append_reserved.ensures.room);
    }

pub returns-in_err-count-clause-ok : goal.returns-in_err-count-clause-ok
returns-in_err-count-clause-ok g c = search rules
