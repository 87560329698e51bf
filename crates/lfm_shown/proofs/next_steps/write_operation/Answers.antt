use Rattle.lfm_text.proofs.Writes.{part_one, part_two, part_three, wrote_three}
use Rattle.lfm_shown.proofs.next_steps.write_operation.Goals as goal

pub returns-in_err-write_word : goal.returns-in_err-write_word
returns-in_err-write_word g c =
    part_one _ _ _ _ _ _ (rw (c.word-word.ensures, c.target.ensures, c.point.ensures) at c.in_err-write_word.ensures)
    c.from_residual.ensures.1

pub returns-in_err-write_text : goal.returns-in_err-write_text
returns-in_err-write_text g c =
    part_two _ _ _ _ _ _ _ _ (rw (c.word-word.ensures, c.target.ensures, c.point.ensures) at c.in_ok-write_word.ensures) c.in_err-write_text.ensures
    c.from_residual-in_err-write_text.ensures.1

pub returns-in_err-write_kind_name : goal.returns-in_err-write_kind_name
returns-in_err-write_kind_name g c =
    part_three _ _ _ _ _ _ _ _ _ _ (rw (c.word-word.ensures, c.target.ensures, c.point.ensures) at c.in_ok-write_word.ensures) c.in_ok-write_text.ensures c.in_err-write_kind_name.ensures
    c.from_residual-in_err-write_kind_name.ensures.1

pub returns : goal.returns
returns g c =
    wrote_three _ _ _ _ _ _ _ (rw (c.word-word.ensures, c.target.ensures, c.point.ensures) at c.in_ok-write_word.ensures) c.in_ok-write_text.ensures c.in_ok-write_kind_name.ensures
