use Rattle.lfm_script.proofs.scripts.Plans.{plan_is_spelled, plan_only, plan_all}
use Rattle.lfm_script.proofs.script.grammar_laws.scripts_are_spelled.Goals as goal

pub returns-clause-only : goal.returns-clause-only
returns-clause-only c = plan_only

pub returns-clause-all : goal.returns-clause-all
returns-clause-all c = plan_all

pub returns-clause-written : goal.returns-clause-written
returns-clause-written c = plan_is_spelled
