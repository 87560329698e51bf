use Rattle.lfm_text.proofs.Writes.{part_one, part_two, part_three, wrote_three}
use Rattle.lfm_shown.proofs.next_steps.write_record.Goals as goal

pub returns-in_err-write_number : goal.returns-in_err-write_number
returns-in_err-write_number g c = part_one _ _ _ _ _ _ (rw c.get.ensures.value at c.in_err-write_number.ensures) c.from_residual.ensures.1

pub returns-in_err-write_text : goal.returns-in_err-write_text
returns-in_err-write_text g c =
    part_two _ _ _ _ _ _ _ _ (rw c.get.ensures.value at c.in_ok-write_number.ensures) c.in_err-write_text.ensures
    c.from_residual-in_err-write_text.ensures.1

pub returns-in_err-write_number-2 : goal.returns-in_err-write_number-2
returns-in_err-write_number-2 g c =
    part_three _ _ _ _ _ _ _ _ _ _ (rw c.get.ensures.value at c.in_ok-write_number.ensures) c.in_ok-write_text.ensures c.in_err-write_number-2.ensures
    c.from_residual-in_err-write_number-2.ensures.1

pub returns : goal.returns
returns g c = wrote_three _ _ _ _ _ _ _ (rw c.get.ensures.value at c.in_ok-write_number.ensures) c.in_ok-write_text.ensures c.in_ok-write_number-2.ensures
