use Rattle.lfm_pool.specs.Tables.{part}
use Rattle.lfm_pool.specs.Steps.{begun_at, call_of}
use Rattle.lfm_pool.proofs.Parts.{can_step, sits_after, stepped}
use Rattle.lfm_pool.proofs.step.first_at.Goals as goal

pub step_at-requires-clause-can : goal.step_at-requires-clause-can
step_at-requires-clause-can g c =
    let s = c.args.seat.now in can_step s.number s.place.id c.args.pool.now.limits (begun_at c.args.seat.now.place.me.0 c.args.mutex g.C.OneCall.depth c.args.pool.now.limits (call_of c.args.access.access)) (part s.place.me.0 c.args.mutex) c.requires.sits

pub returns-clause-step : goal.returns-clause-step
returns-clause-step g c =
    let s = c.args.seat.now in let l = c.args.pool.now.limits in let d = c.step_at.ensures.step in (
      d.0,
      d.3,
      sits_after s.number s.place.id l (begun_at c.args.seat.now.place.me.0 c.args.mutex g.C.OneCall.depth c.args.pool.now.limits (call_of c.args.access.access)) (part s.place.me.0 c.args.mutex) c.requires.sits c.step_at.result d.0 d.1 d.2 d.4,
      stepped s.number s.place.id l (begun_at c.args.seat.now.place.me.0 c.args.mutex g.C.OneCall.depth c.args.pool.now.limits (call_of c.args.access.access)) (part s.place.me.0 c.args.mutex) c.requires.sits c.step_at.result d.0 d.1 d.2 d.4,
    )
