use Rattle.lfm_text.proofs.Writes.{part_one, part_two, wrote_two}
use Rattle.lfm_shown.proofs.events.write_refused.Goals as goal

pub returns-in_err-write_text : goal.returns-in_err-write_text
returns-in_err-write_text g c = part_one _ _ _ _ _ _ c.in_err-write_text.ensures c.from_residual.ensures.1

pub returns-in_err-write_why : goal.returns-in_err-write_why
returns-in_err-write_why g c = part_two _ _ _ _ _ _ _ _ c.in_ok-write_text.ensures c.in_err-write_why.ensures c.from_residual-in_err-write_why.ensures.1

pub returns : goal.returns
returns g c = wrote_two _ _ _ _ _ c.in_ok-write_text.ensures c.in_ok-write_why.ensures
