use Rattle.lfm_script.specs.script.Grammar.{scripts}
use Rattle.lfm_text.proofs.FirstFaults.{first_fault_only, first_fault_all}
use Rattle.lfm_script.proofs.scripts.Plans.{apart}
use Rattle.lfm_script.proofs.script.grammar_laws.first_script_faults_are_named.Goals as goal

pub returns-clause-only : goal.returns-clause-only
returns-clause-only c = first_fault_only scripts apart

pub returns-clause-all : goal.returns-clause-all
returns-clause-all c = first_fault_all scripts
