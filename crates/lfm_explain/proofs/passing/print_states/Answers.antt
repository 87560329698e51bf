use Rattle.lfm_explain.proofs.Verdicts.{said}
use Rattle.lfm_explain.proofs.passing.print_states.Goals as goal

pub returns : goal.returns
returns g c = record {
  verdict = said _ c.in_ok-schedule.schedule _ c.in_ok-schedule.ensures.exact c.print_schedule.ensures;
}
