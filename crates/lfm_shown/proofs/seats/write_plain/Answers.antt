use Rattle.lfm_text.proofs.Writes.{part_one, part_two, part_three, part_four, part_five, wrote_five}
use Rattle.lfm_shown.proofs.seats.write_plain.Goals as goal

pub returns-in_err-write_number : goal.returns-in_err-write_number
returns-in_err-write_number g c =
    part_one _ _ _ _ _ _ (rw c.depth.ensures at c.in_err-write_number.ensures)
    c.from_residual.ensures.1

pub returns-in_err-write_text : goal.returns-in_err-write_text
returns-in_err-write_text g c =
    part_two _ _ _ _ _ _ _ _ (rw c.depth.ensures at c.in_ok-write_number.ensures) c.in_err-write_text.ensures
    c.from_residual-in_err-write_text.ensures.1

pub returns-in_err-write_number-2 : goal.returns-in_err-write_number-2
returns-in_err-write_number-2 g c =
    part_three _ _ _ _ _ _ _ _ _ _ (rw c.depth.ensures at c.in_ok-write_number.ensures) c.in_ok-write_text.ensures (rw c.takes.ensures at c.in_err-write_number-2.ensures)
    c.from_residual-in_err-write_number-2.ensures.1

pub returns-in_err-write_text-2 : goal.returns-in_err-write_text-2
returns-in_err-write_text-2 g c =
    part_four _ _ _ _ _ _ _ _ _ _ _ _ (rw c.depth.ensures at c.in_ok-write_number.ensures) c.in_ok-write_text.ensures (rw c.takes.ensures at c.in_ok-write_number-2.ensures) c.in_err-write_text-2.ensures
    c.from_residual-in_err-write_text-2.ensures.1

pub returns-in_err-write_number-3 : goal.returns-in_err-write_number-3
returns-in_err-write_number-3 g c =
    part_five _ _ _ _ _ _ _ _ _ _ _ _ _ _ (rw c.depth.ensures at c.in_ok-write_number.ensures) c.in_ok-write_text.ensures (rw c.takes.ensures at c.in_ok-write_number-2.ensures) c.in_ok-write_text-2.ensures (rw c.posts.ensures at c.in_err-write_number-3.ensures)
    c.from_residual-in_err-write_number-3.ensures.1

pub returns : goal.returns
returns g c =
    wrote_five _ _ _ _ _ _ _ _ _ _ _ (rw c.depth.ensures at c.in_ok-write_number.ensures) c.in_ok-write_text.ensures (rw c.takes.ensures at c.in_ok-write_number-2.ensures) c.in_ok-write_text-2.ensures (rw c.posts.ensures at c.in_ok-write_number-3.ensures)
