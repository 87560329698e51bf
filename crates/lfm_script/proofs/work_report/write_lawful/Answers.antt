use Rattle.lfm_script.proofs.work_report.write_lawful.Goals as goal

pub returns-then-lawful : goal.returns-then-lawful
returns-then-lawful g c = rw c.if-lawful.true c.write_text.ensures

pub returns-else-lawful : goal.returns-else-lawful
returns-else-lawful g c = rw c.if-lawful.false c.write_text-else-lawful.ensures
