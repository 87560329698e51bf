use Rattle.lfm_text.proofs.Writes.{part_one, part_two, part_three, wrote_three}
use Rattle.lfm_text.proofs.fault_lines.write_syntax_line.Goals as goal

pub returns-in_err-write_text : goal.returns-in_err-write_text
returns-in_err-write_text g c = part_one _ _ _ _ _ _ c.in_err-write_text.ensures c.from_residual.ensures.1

pub returns-in_err-write_number : goal.returns-in_err-write_number
returns-in_err-write_number g c = part_two _ _ _ _ _ _ _ _ c.in_ok-write_text.ensures c.in_err-write_number.ensures c.from_residual-in_err-write_number.ensures.1

pub returns-in_err-write_line_feed : goal.returns-in_err-write_line_feed
returns-in_err-write_line_feed g c =
    part_three _ _ _ _ _ _ _ _ _ _ c.in_ok-write_text.ensures c.in_ok-write_number.ensures c.in_err-write_line_feed.ensures c.from_residual-in_err-write_line_feed.ensures.1

pub returns : goal.returns
returns g c = wrote_three _ _ _ _ _ _ _ c.in_ok-write_text.ensures c.in_ok-write_number.ensures c.in_ok-write_line_feed.ensures
