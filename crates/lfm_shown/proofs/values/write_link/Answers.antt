use Rattle.lfm_text.proofs.Writes.{part_one, part_two, part_three, part_four, wrote_four}
use Rattle.lfm_shown.proofs.values.write_link.Goals as goal

pub returns-in_err-write_numbered : goal.returns-in_err-write_numbered
returns-in_err-write_numbered g c = part_one _ _ _ _ _ _ c.in_err-write_numbered.ensures c.from_residual.ensures.1

pub returns-in_err-write_text : goal.returns-in_err-write_text
returns-in_err-write_text g c =
    part_two _ _ _ _ _ _ _ _ c.in_ok-write_numbered.ensures c.in_err-write_text.ensures
    c.from_residual-in_err-write_text.ensures.1

pub returns-in_err-write_next_seat : goal.returns-in_err-write_next_seat
returns-in_err-write_next_seat g c =
    part_three _ _ _ _ _ _ _ _ _ _ c.in_ok-write_numbered.ensures c.in_ok-write_text.ensures c.in_err-write_next_seat.ensures
    c.from_residual-in_err-write_next_seat.ensures.1

pub returns-in_err-write_text-2 : goal.returns-in_err-write_text-2
returns-in_err-write_text-2 g c =
    part_four _ _ _ _ _ _ _ _ _ _ _ _ c.in_ok-write_numbered.ensures c.in_ok-write_text.ensures c.in_ok-write_next_seat.ensures c.in_err-write_text-2.ensures
    c.from_residual-in_err-write_text-2.ensures.1

pub returns : goal.returns
returns g c =
    wrote_four _ _ _ _ _ _ _ _ _ c.in_ok-write_numbered.ensures c.in_ok-write_text.ensures c.in_ok-write_next_seat.ensures c.in_ok-write_text-2.ensures
