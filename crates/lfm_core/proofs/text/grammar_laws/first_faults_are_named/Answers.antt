use Rattle.lfm_core.specs.text.Grammar.{schedules}
use Rattle.lfm_text.proofs.FirstFaults.{first_fault_only, first_fault_all}
use Rattle.lfm_core.proofs.texts.Plans.{apart}
use Rattle.lfm_core.proofs.text.grammar_laws.first_faults_are_named.Goals as goal

pub returns-clause-only : goal.returns-clause-only
returns-clause-only c = first_fault_only schedules apart

pub returns-clause-all : goal.returns-clause-all
returns-clause-all c = first_fault_all schedules
