use Rattle.lfm_core.proofs.texts.Plans.{plan_only, plan_all, plan_decodes}
use Rattle.lfm_core.proofs.text.grammar_laws.plans_are_spelled.Goals as goal

pub returns-clause-only : goal.returns-clause-only
returns-clause-only c = plan_only

pub returns-clause-all : goal.returns-clause-all
returns-clause-all c = plan_all

pub returns-clause-written : goal.returns-clause-written
returns-clause-written c = plan_decodes
