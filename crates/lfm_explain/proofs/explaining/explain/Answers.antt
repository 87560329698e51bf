use Rattle.lfm_explain.proofs.Verdicts.{judged}
use Rattle.lfm_explain.proofs.explaining.explain.Goals as goal

pub returns-clause-verdict : goal.returns-clause-verdict
returns-clause-verdict g c =
    judged _ c.in_ok-schedule.schedule _ _ _ _ c.in_ok-schedule.ensures.exact c.in_ok-schedule.ensures.unwritten c.explain_schedule.ensures
