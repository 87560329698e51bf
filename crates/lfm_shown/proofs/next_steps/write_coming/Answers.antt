use Rattle.lfm_text.proofs.Writes.{part_one, part_two, part_three, part_four, wrote_four}
use Rattle.lfm_shown.proofs.next_steps.write_coming.Goals as goal

pub returns-in_err-write_step_name : goal.returns-in_err-write_step_name
returns-in_err-write_step_name g c = part_one _ _ _ _ _ _ c.in_err-write_step_name.ensures c.from_residual.ensures.1

pub returns-in_err-write_text : goal.returns-in_err-write_text
returns-in_err-write_text g c =
    part_two _ _ _ _ _ _ _ _ c.in_ok-write_step_name.ensures c.in_err-write_text.ensures
    c.from_residual-in_err-write_text.ensures.1

pub returns-in_err-write_operation : goal.returns-in_err-write_operation
returns-in_err-write_operation g c =
    part_three _ _ _ _ _ _ _ _ _ _ c.in_ok-write_step_name.ensures c.in_ok-write_text.ensures c.in_err-write_operation.ensures
    c.from_residual-in_err-write_operation.ensures.1

pub returns-in_err-write_memory : goal.returns-in_err-write_memory
returns-in_err-write_memory g c =
    part_four _ _ _ _ _ _ _ _ _ _ _ _ c.in_ok-write_step_name.ensures c.in_ok-write_text.ensures c.in_ok-write_operation.ensures (rw c.point.ensures at c.in_err-write_memory.ensures)
    c.from_residual-in_err-write_memory.ensures.1

pub returns : goal.returns
returns g c =
    wrote_four _ _ _ _ _ _ _ _ _ c.in_ok-write_step_name.ensures c.in_ok-write_text.ensures c.in_ok-write_operation.ensures (rw c.point.ensures at c.in_ok-write_memory.ensures)
