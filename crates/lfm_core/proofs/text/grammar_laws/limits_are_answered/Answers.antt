use Rattle.lfm_core.specs.text.Grammar.{schedules}
use Rattle.lfm_text.proofs.FirstFaults.{past_all}
use Rattle.lfm_core.proofs.texts.Plans.{plan_limit, plan_range}
use Rattle.lfm_core.proofs.text.grammar_laws.limits_are_answered.Goals as goal

pub returns-clause-only : goal.returns-clause-only
returns-clause-only c = plan_limit

pub returns-clause-past : goal.returns-clause-past
returns-clause-past c = past_all schedules

pub returns-clause-range : goal.returns-clause-range
returns-clause-range c = plan_range
