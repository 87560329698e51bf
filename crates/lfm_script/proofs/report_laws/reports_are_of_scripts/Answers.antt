use Rattle.lfm_script.proofs.RunReports.{total_told, text_told}
use Rattle.lfm_script.proofs.report_laws.reports_are_of_scripts.Goals as goal

pub returns-clause-total : goal.returns-clause-total
returns-clause-total c = total_told

pub returns-clause-text : goal.returns-clause-text
returns-clause-text c = text_told
