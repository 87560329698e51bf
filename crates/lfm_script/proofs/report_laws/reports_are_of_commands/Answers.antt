use Rattle.lfm_script.proofs.RunReports.{made_text_told, script_told}
use Rattle.lfm_script.proofs.report_laws.reports_are_of_commands.Goals as goal

pub returns-clause-made : goal.returns-clause-made
returns-clause-made c = made_text_told

pub returns-clause-whole : goal.returns-clause-whole
returns-clause-whole c = script_told
