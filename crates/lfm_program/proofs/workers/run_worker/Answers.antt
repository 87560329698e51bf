use Rattle.std.proofs.Common.{refl, subst}
use Rattle.lfm_monitor.specs.Belongs.{pass_sight}
use Rattle.lfm_program.specs.declared.performed.Performed.{Performed}
use Rattle.lfm_program.specs.Causes.{RefusedForCause}
use Rattle.lfm_program.specs.Performs.{own_adds}
use Rattle.lfm_program.proofs.WorkerEnds.{called_off_ends, let_go}
use Rattle.lfm_program.proofs.workers.run_worker.Goals as goal

pub returns : goal.returns
returns g c = record {
  belongs = c.perform-performed.ensures.belongs;
  idle = c.perform-performed.ensures.idle;
  number = c.perform-performed.ensures.number;
  done = λ is. c.perform-performed.ensures.done (let_go _ _ is);
  refused = λ r is. subst (λ (x : Performed). RefusedForCause c.args.monitor.now c.args.commands.now (own_adds (pass_sight c.args.pass)) c.perform-performed.new.pass x) (let_go _ r is) c.perform-performed.ensures.refused;
  stopped = λ is. c.perform-performed.ensures.stopped (let_go _ _ is);
}

pub returns-then-not-wait : goal.returns-then-not-wait
returns-then-not-wait g c = record {
  belongs = c.requires.ready.0;
  idle = c.requires.ready.1;
  number = refl;
  done = λ is. absurd (called_off_ends _ is);
  refused = λ r is. absurd (called_off_ends r is);
  stopped = λ is. absurd (called_off_ends _ is);
}
