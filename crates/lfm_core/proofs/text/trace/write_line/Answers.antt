use Rattle.lfm_text.proofs.Writes.{part_one, part_two, part_three, part_four, wrote_four}
use Rattle.lfm_core.proofs.text.trace.write_line.Goals as goal

pub returns-in_err-write_outcome-clause-text : goal.returns-in_err-write_outcome-clause-text
returns-in_err-write_outcome-clause-text g c = part_one _ _ _ _ _ _ c.in_err-write_outcome.ensures c.from_residual.ensures.1

pub returns-in_err-write_text-clause-text : goal.returns-in_err-write_text-clause-text
returns-in_err-write_text-clause-text g c =
    part_two _ _ _ _ _ _ _ _ c.in_ok-write_outcome.ensures c.in_err-write_text.ensures c.from_residual-in_err-write_text.ensures.1

pub returns-in_err-write_state-clause-text : goal.returns-in_err-write_state-clause-text
returns-in_err-write_state-clause-text g c =
    part_three _ _ _ _ _ _ _ _ _ _ c.in_ok-write_outcome.ensures c.in_ok-write_text.ensures c.in_err-write_state.ensures.text
    c.from_residual-in_err-write_state.ensures.1

pub returns-in_err-write_line_feed-clause-text : goal.returns-in_err-write_line_feed-clause-text
returns-in_err-write_line_feed-clause-text g c =
    part_four _ _ _ _ _ _ _ _ _ _ _ _ c.in_ok-write_outcome.ensures c.in_ok-write_text.ensures c.in_ok-write_state.ensures.text
    c.in_err-write_line_feed.ensures c.from_residual-in_err-write_line_feed.ensures.1

pub returns-clause-text : goal.returns-clause-text
returns-clause-text g c =
    wrote_four _ _ _ _ _ _ _ _ _ c.in_ok-write_outcome.ensures c.in_ok-write_text.ensures c.in_ok-write_state.ensures.text c.in_ok-write_line_feed.ensures
