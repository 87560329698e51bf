use Rattle.lfm_text.proofs.Writes.{part_one, part_two, part_three, wrote_three}
use Rattle.lfm_shown.proofs.seats.write_seat_words.Goals as goal

pub returns-in_err-write_wake : goal.returns-in_err-write_wake
returns-in_err-write_wake g c =
    part_one _ _ _ _ _ _ (rw c.wake_word.ensures at c.in_err-write_wake.ensures)
    c.from_residual.ensures.1

pub returns-in_err-write_text : goal.returns-in_err-write_text
returns-in_err-write_text g c =
    part_two _ _ _ _ _ _ _ _ (rw c.wake_word.ensures at c.in_ok-write_wake.ensures) c.in_err-write_text.ensures
    c.from_residual-in_err-write_text.ensures.1

pub returns-in_err-write_link : goal.returns-in_err-write_link
returns-in_err-write_link g c =
    part_three _ _ _ _ _ _ _ _ _ _ (rw c.wake_word.ensures at c.in_ok-write_wake.ensures) c.in_ok-write_text.ensures (rw c.link_word.ensures at c.in_err-write_link.ensures)
    c.from_residual-in_err-write_link.ensures.1

pub returns : goal.returns
returns g c =
    wrote_three _ _ _ _ _ _ _ (rw c.wake_word.ensures at c.in_ok-write_wake.ensures) c.in_ok-write_text.ensures (rw c.link_word.ensures at c.in_ok-write_link.ensures)
