use Rattle.std.proofs.Common.{arith, length, rules, subst, ◌<◌}
use Rattle.lfm_monitor.proofs.Places.{in_range, stands}
use Rattle.lfm_program.specs.declared.workers.Worked.{Worked}
use Rattle.lfm_program.specs.Workers.{WorksAs}
use Rattle.lfm_program.proofs.Threads.{read_here}
use Rattle.lfm_program.proofs.workers.join_all.Goals as goal

pub returns-in-Ok-clause-each : goal.returns-in-Ok-clause-each
returns-in-Ok-clause-each g c j w at = let rs = c.in-Ok.results in let hs = c.args.handles in let long : j < length rs.items = in_range rs.items j w at in
    let within : j < hs.len = (let a = rs.ok in let b = hs.ok in let e = c.in-Ok.ensures.len in omega arith) in let kept = (c.in-Ok.ensures.each j w within).1 in let h = kept.handle in (
      h,
      stands hs.items j h (let b = hs.ok in omega arith) kept.handle_is,
      subst (λ (r : Worked). WorksAs h.promise.monitor.value (g.G.Gate.stops h.promise.gate.value) h.promise.commands.value.items h.promise.pass.value r.pass r.end) (read_here rs.items j w w at) kept.kept,
    )

pub returns-in-Ok-clause-count : goal.returns-in-Ok-clause-count
returns-in-Ok-clause-count g c = search rules
