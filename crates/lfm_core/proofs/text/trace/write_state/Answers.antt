use Rattle.lfm_text.proofs.Writes.{part_one, part_two, part_three, part_four, part_five, wrote_five}
use Rattle.lfm_core.proofs.text.trace.write_state.Goals as goal

pub returns-in_err-write_words-clause-text : goal.returns-in_err-write_words-clause-text
returns-in_err-write_words-clause-text g c = part_one _ _ _ _ _ _ c.in_err-write_words.ensures c.from_residual.ensures.1

pub returns-in_err-write_text-clause-text : goal.returns-in_err-write_text-clause-text
returns-in_err-write_text-clause-text g c =
    part_two _ _ _ _ _ _ _ _ c.in_ok-write_words.ensures c.in_err-write_text.ensures c.from_residual-in_err-write_text.ensures.1

pub returns-in_err-write_place-clause-text : goal.returns-in_err-write_place-clause-text
returns-in_err-write_place-clause-text g c =
    part_three _ _ _ _ _ _ _ _ _ _ c.in_ok-write_words.ensures c.in_ok-write_text.ensures (rw c.place.ensures at c.in_err-write_place.ensures)
    c.from_residual-in_err-write_place.ensures.1

pub returns-in_err-write_text-2-clause-text : goal.returns-in_err-write_text-2-clause-text
returns-in_err-write_text-2-clause-text g c =
    part_four _ _ _ _ _ _ _ _ _ _ _ _ c.in_ok-write_words.ensures c.in_ok-write_text.ensures (rw c.place.ensures at c.in_ok-write_place.ensures)
    c.in_err-write_text-2.ensures c.from_residual-in_err-write_text-2.ensures.1

pub returns-in_err-write_queue-clause-text : goal.returns-in_err-write_queue-clause-text
returns-in_err-write_queue-clause-text g c =
    part_five _ _ _ _ _ _ _ _ _ _ _ _ _ _ c.in_ok-write_words.ensures c.in_ok-write_text.ensures (rw c.place.ensures at c.in_ok-write_place.ensures)
    c.in_ok-write_text-2.ensures (rw c.gather.ensures.gathered at c.in_err-write_queue.ensures.text) c.from_residual-in_err-write_queue.ensures.1

pub returns-clause-text : goal.returns-clause-text
returns-clause-text g c =
    wrote_five _ _ _ _ _ _ _ _ _ _ _ c.in_ok-write_words.ensures c.in_ok-write_text.ensures (rw c.place.ensures at c.in_ok-write_place.ensures)
    c.in_ok-write_text-2.ensures (rw c.gather.ensures.gathered at c.in_ok-write_queue.ensures.text)
