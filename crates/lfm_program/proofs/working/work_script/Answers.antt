use Rattle.std.proofs.Common.{None}
use Rattle.lfm_script.specs.script.Grammar.{script_of}
use Rattle.lfm_program.proofs.Telling.{run_failed, run_told, report_failed}
use Rattle.lfm_program.proofs.working.work_script.Goals as goal

pub returns-in_err-run-clause-told : goal.returns-in_err-run-clause-told
returns-in_err-run-clause-told g c = (run_failed (g.G.Gate.stops c.args.gate.now) _ _ (script_of c.args.script.now) (g.W.Write.contents c.args.writer.now) c.from_residual.ensures.1 c.in_err-run.ensures.fault).0

pub returns-in_err-run-clause-no_read : goal.returns-in_err-run-clause-no_read
returns-in_err-run-clause-no_read g c = (run_failed (g.G.Gate.stops c.args.gate.now) _ _ (script_of c.args.script.now) None c.from_residual.ensures.1 c.in_err-run.ensures.fault).1

pub returns-in_err-write_run-clause-told : goal.returns-in_err-write_run-clause-told
returns-in_err-write_run-clause-told g c =
    report_failed (g.G.Gate.stops c.args.gate.now) _ _ (script_of c.args.script.now) _ _ _ _ c.from_residual-in_err-write_run.ensures.1 c.in_ok-run.ensures.report c.in_err-write_run.ensures

pub returns-clause-told : goal.returns-clause-told
returns-clause-told g c = run_told (g.G.Gate.stops c.args.gate.now) (script_of c.args.script.now) _ _ _ _ c.in_ok-run.ensures.report c.in_ok-write_run.ensures
