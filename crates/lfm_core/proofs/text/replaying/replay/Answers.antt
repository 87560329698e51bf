use Rattle.lfm_core.proofs.texts.Replays.{some_replayed, exact_replayed}
use Rattle.lfm_core.proofs.text.replaying.replay.Goals as goal

pub returns-clause-some : goal.returns-clause-some
returns-clause-some g c =
    some_replayed c.in_ok-schedule.schedule _ _ _ _ _ _ c.replay_schedule.ensures.no_read c.in_ok-schedule.ensures.some c.in_ok-schedule.ensures.unwritten c.replay_schedule.ensures.told

pub returns-clause-exact : goal.returns-clause-exact
returns-clause-exact g c =
    exact_replayed c.in_ok-schedule.schedule _ _ _ _ _ c.in_ok-schedule.ensures.exact c.in_ok-schedule.ensures.unwritten c.replay_schedule.ensures.told
