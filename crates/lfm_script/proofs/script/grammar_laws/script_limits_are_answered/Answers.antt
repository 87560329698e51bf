use Rattle.lfm_script.specs.script.Grammar.{scripts}
use Rattle.lfm_text.proofs.FirstFaults.{past_all}
use Rattle.lfm_script.proofs.scripts.Plans.{plan_limit, plan_range}
use Rattle.lfm_script.proofs.script.grammar_laws.script_limits_are_answered.Goals as goal

pub returns-clause-only : goal.returns-clause-only
returns-clause-only c = plan_limit

pub returns-clause-past : goal.returns-clause-past
returns-clause-past c = past_all scripts

pub returns-clause-range : goal.returns-clause-range
returns-clause-range c = plan_range
