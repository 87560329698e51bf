use Rattle.std.proofs.Common.{◌∙◌}
use Rattle.lfm_core.proofs.texts.Runs.{verdict_next}
use Rattle.lfm_explain.proofs.passing.Path.follow_all.Goals as goal

pub running-preserved : goal.running-preserved
running-preserved g c = record {
  verdict = verdict_next c.running.line-index c.running.state _ _ _ _ c.running-test.true c.in_ok-turn.ensures.core c.in_ok-turn.ensures.turn _ _ c.is_refused.ensures
      ∙ c.running.invariant.verdict;
}
