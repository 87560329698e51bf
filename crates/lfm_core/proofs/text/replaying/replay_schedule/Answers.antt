use Rattle.std.proofs.Common.{refl}
use Rattle.lfm_core.specs.text.Grammar.{plan_of}
use Rattle.lfm_core.proofs.texts.Replays.{run_told, write_failed}
use Rattle.lfm_core.proofs.text.replaying.replay_schedule.Goals as goal

pub returns-in_err-write_run-clause-told : goal.returns-in_err-write_run-clause-told
returns-in_err-write_run-clause-told g c =
    write_failed _ _ _ _ _ c.from_residual-in_err-write_run.ensures.1
    (run_told _ (plan_of c.args.schedule.now) c.in_ok-state.state (plan_of c.args.schedule.now).lines _ _ c.in_ok-state.ensures.starts refl c.in_err-write_run.ensures.text c.in_err-write_run.ensures.verdict)

pub returns-clause-told : goal.returns-clause-told
returns-clause-told g c =
    run_told _ (plan_of c.args.schedule.now) c.in_ok-state.state (plan_of c.args.schedule.now).lines _ _ c.in_ok-state.ensures.starts refl c.in_ok-write_run.ensures.text c.in_ok-write_run.ensures.verdict
