use Rattle.std.proofs.Common.{rules}
use Rattle.lfm_script.proofs.work_report.write_fault.Goals as goal

pub returns-in-Syntax : goal.returns-in-Syntax
returns-in-Syntax g c = rw c.in-Syntax.is c.write_syntax_line.ensures

pub returns-in-Limit : goal.returns-in-Limit
returns-in-Limit g c = rw c.in-Limit.is c.write_limit_line.ensures

pub returns-in-Read : goal.returns-in-Read
returns-in-Read g c = search rules
