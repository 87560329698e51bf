use Rattle.std.proofs.Common.{rules}
use Rattle.lfm_script.proofs.work_report.write_refused.Goals as goal

pub returns-in-None : goal.returns-in-None
returns-in-None g c = rw c.in-None.is c.write_text.ensures

pub returns-in-Some : goal.returns-in-Some
returns-in-Some g c = search rules
