use Rattle.lfm_program.proofs.Telling.{some, exact, script, stuck_by}
use Rattle.lfm_program.proofs.working.work.Goals as goal

pub returns-clause-some : goal.returns-clause-some
returns-clause-some g c =
    some (g.G.Gate.stops c.args.gate.now) _ c.in_ok-input.input.items _ _ _ _ c.work_input.ensures.no_read c.in_ok-input.ensures.ok (rw c.deref.ensures.value at c.work_input.ensures.told)

pub returns-clause-exact : goal.returns-clause-exact
returns-clause-exact g c = exact (g.G.Gate.stops c.args.gate.now) _ _ _ _ (g.W.Write.contents c.args.writer.now) (g.W.Write.contents c.work_input.new.writer) c.in_ok-input.ensures.ok (rw c.deref.ensures.value at c.work_input.ensures.told)

pub returns-clause-script : goal.returns-clause-script
returns-clause-script g c = script (g.G.Gate.stops c.args.gate.now) _ _ _ _ _ _ c.in_ok-input.ensures.ok (rw c.deref.ensures.value at c.work_input.ensures.told)

pub returns-clause-stuck : goal.returns-clause-stuck
returns-clause-stuck g c = stuck_by (g.G.Gate.stops c.args.gate.now) _ _ (g.W.Write.contents c.args.writer.now) (g.W.Write.contents c.work_input.new.writer) c.work_input.ensures.told
