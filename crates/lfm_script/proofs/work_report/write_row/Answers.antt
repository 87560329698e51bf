use Rattle.lfm_text.proofs.Writes.{part_one, part_two, part_three, part_four, part_five, wrote_five}
use Rattle.lfm_script.proofs.work_report.write_row.Goals as goal

pub returns-in_err-write_count : goal.returns-in_err-write_count
returns-in_err-write_count g c =
    part_one _ _ _ _ _ _ c.in_err-write_count.ensures c.from_residual.ensures.1

pub returns-in_err-write_text : goal.returns-in_err-write_text
returns-in_err-write_text g c =
    part_two _ _ _ _ _ _ _ _ c.in_ok-write_count.ensures c.in_err-write_text.ensures c.from_residual-in_err-write_text.ensures.1

pub returns-in_err-write_number : goal.returns-in_err-write_number
returns-in_err-write_number g c =
    part_three _ _ _ _ _ _ _ _ _ _ c.in_ok-write_count.ensures c.in_ok-write_text.ensures c.in_err-write_number.ensures c.from_residual-in_err-write_number.ensures.1

pub returns-in_err-write_refused : goal.returns-in_err-write_refused
returns-in_err-write_refused g c =
    part_four _ _ _ _ _ _ _ _ _ _ _ _ c.in_ok-write_count.ensures c.in_ok-write_text.ensures c.in_ok-write_number.ensures c.in_err-write_refused.ensures c.from_residual-in_err-write_refused.ensures.1

pub returns-in_err-write_line_feed : goal.returns-in_err-write_line_feed
returns-in_err-write_line_feed g c =
    part_five _ _ _ _ _ _ _ _ _ _ _ _ _ _ c.in_ok-write_count.ensures c.in_ok-write_text.ensures c.in_ok-write_number.ensures c.in_ok-write_refused.ensures c.in_err-write_line_feed.ensures c.from_residual-in_err-write_line_feed.ensures.1

pub returns : goal.returns
returns g c = wrote_five _ _ _ _ _ _ _ _ _ _ _ c.in_ok-write_count.ensures c.in_ok-write_text.ensures c.in_ok-write_number.ensures c.in_ok-write_refused.ensures c.in_ok-write_line_feed.ensures
