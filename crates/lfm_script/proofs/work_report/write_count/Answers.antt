use Rattle.lfm_text.proofs.Writes.{part_one, part_two, part_three, part_four, wrote_four}
use Rattle.lfm_script.proofs.work_report.write_count.Goals as goal

pub returns-in_err-write_text : goal.returns-in_err-write_text
returns-in_err-write_text g c =
    part_one _ _ _ _ _ _ c.in_err-write_text.ensures c.from_residual.ensures.1

pub returns-in_err-write_number : goal.returns-in_err-write_number
returns-in_err-write_number g c =
    part_two _ _ _ _ _ _ _ _ c.in_ok-write_text.ensures c.in_err-write_number.ensures c.from_residual-in_err-write_number.ensures.1

pub returns-in_err-write_text-2 : goal.returns-in_err-write_text-2
returns-in_err-write_text-2 g c =
    part_three _ _ _ _ _ _ _ _ _ _ c.in_ok-write_text.ensures c.in_ok-write_number.ensures c.in_err-write_text-2.ensures c.from_residual-in_err-write_text-2.ensures.1

pub returns-in_err-write_number-2 : goal.returns-in_err-write_number-2
returns-in_err-write_number-2 g c =
    part_four _ _ _ _ _ _ _ _ _ _ _ _ c.in_ok-write_text.ensures c.in_ok-write_number.ensures c.in_ok-write_text-2.ensures c.in_err-write_number-2.ensures c.from_residual-in_err-write_number-2.ensures.1

pub returns : goal.returns
returns g c = wrote_four _ _ _ _ _ _ _ _ _ c.in_ok-write_text.ensures c.in_ok-write_number.ensures c.in_ok-write_text-2.ensures c.in_ok-write_number-2.ensures
