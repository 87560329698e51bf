use Rattle.std.proofs.Common.{◌∙◌}
use Rattle.lfm_text.proofs.Writes.{part_one, part_two, wrote_two}
use Rattle.lfm_script.proofs.work_report.write_refusal.Goals as goal

pub returns-in_err-write_text : goal.returns-in_err-write_text
returns-in_err-write_text g c =
    part_one _ _ _ _ _ _ c.in_err-write_text.ensures c.from_residual.ensures.1

pub returns-in_err-write_text-2 : goal.returns-in_err-write_text-2
returns-in_err-write_text-2 g c =
    part_two _ _ _ _ _ _ _ _ c.in_ok-write_text.ensures (rw (c.as_bytes.ensures.value ∙ c.name.ensures) at c.in_err-write_text-2.ensures) c.from_residual-in_err-write_text-2.ensures.1

pub returns : goal.returns
returns g c = wrote_two _ _ _ _ _ c.in_ok-write_text.ensures (rw (c.as_bytes.ensures.value ∙ c.name.ensures) at c.in_ok-write_text-2.ensures)
