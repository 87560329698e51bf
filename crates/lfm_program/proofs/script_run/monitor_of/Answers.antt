use Rattle.std.proofs.Common.{rules}
use Rattle.lfm_program.specs.ScriptRuns.{MadeReady}
use Rattle.lfm_program.proofs.script_run.monitor_of.Goals as goal

pub returns-in-Ok-clause-ready : goal.returns-in-Ok-clause-ready
returns-in-Ok-clause-ready g c = let script = c.args.script.now in let made : MadeReady script.workers script.conditions c.in-Ok.monitor c.in-Ok.passes.items = search rules in
    c.set_pace.ensures script.workers script.conditions c.in-Ok.passes.items made
