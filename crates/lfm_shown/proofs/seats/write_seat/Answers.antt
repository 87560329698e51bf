use Rattle.lfm_text.proofs.Writes.{part_one, part_two, part_three, part_four, part_five, wrote_five}
use Rattle.lfm_shown.proofs.seats.write_seat.Goals as goal

pub returns-in_err-write_plain : goal.returns-in_err-write_plain
returns-in_err-write_plain g c = part_one _ _ _ _ _ _ c.in_err-write_plain.ensures c.from_residual.ensures.1

pub returns-in_err-write_text : goal.returns-in_err-write_text
returns-in_err-write_text g c =
    part_two _ _ _ _ _ _ _ _ c.in_ok-write_plain.ensures c.in_err-write_text.ensures
    c.from_residual-in_err-write_text.ensures.1

pub returns-in_err-write_seat_words : goal.returns-in_err-write_seat_words
returns-in_err-write_seat_words g c =
    part_three _ _ _ _ _ _ _ _ _ _ c.in_ok-write_plain.ensures c.in_ok-write_text.ensures c.in_err-write_seat_words.ensures
    c.from_residual-in_err-write_seat_words.ensures.1

pub returns-in_err-write_text-2 : goal.returns-in_err-write_text-2
returns-in_err-write_text-2 g c =
    part_four _ _ _ _ _ _ _ _ _ _ _ _ c.in_ok-write_plain.ensures c.in_ok-write_text.ensures c.in_ok-write_seat_words.ensures c.in_err-write_text-2.ensures
    c.from_residual-in_err-write_text-2.ensures.1

pub returns-in_err-write_next : goal.returns-in_err-write_next
returns-in_err-write_next g c =
    part_five _ _ _ _ _ _ _ _ _ _ _ _ _ _ c.in_ok-write_plain.ensures c.in_ok-write_text.ensures c.in_ok-write_seat_words.ensures c.in_ok-write_text-2.ensures c.in_err-write_next.ensures
    c.from_residual-in_err-write_next.ensures.1

pub returns : goal.returns
returns g c =
    wrote_five _ _ _ _ _ _ _ _ _ _ _ c.in_ok-write_plain.ensures c.in_ok-write_text.ensures c.in_ok-write_seat_words.ensures c.in_ok-write_text-2.ensures c.in_ok-write_next.ensures
