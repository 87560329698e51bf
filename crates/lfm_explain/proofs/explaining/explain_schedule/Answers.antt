use Rattle.lfm_core.specs.text.Grammar.{plan_of}
use Rattle.lfm_explain.proofs.Verdicts.{write_failed, run_judged}
use Rattle.lfm_explain.proofs.explaining.explain_schedule.Goals as goal

pub returns-in_err-explain_run : goal.returns-in_err-explain_run
returns-in_err-explain_run g c = write_failed _ _ _ _ c.from_residual-in_err-explain_run.ensures.1

pub returns : goal.returns
returns g c = run_judged _ (plan_of c.args.schedule.now) c.in_ok-state.state c.in_ok-state.ensures.starts c.in_ok-explain_run.ensures.verdict
