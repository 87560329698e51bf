use Rattle.std.proofs.Common.{sym, ◌∙◌}
use Rattle.lfm_pool.specs.Tables.{part}
use Rattle.lfm_pool.specs.Steps.{state_in}
use Rattle.lfm_pool.proofs.Parts.{can_step, sits_after, stepped}
use Rattle.lfm_pool.proofs.step.next_at.Goals as goal

pub step_at-requires-clause-can : goal.step_at-requires-clause-can
step_at-requires-clause-can c =
    let s = c.args.seat.now in can_step s.number s.place.id c.args.pool.now.limits (state_in c.args.seat.now.place.me.0 c.args.mutex) (part s.place.me.0 c.args.mutex) c.requires.sits

pub returns-clause-step : goal.returns-clause-step
returns-clause-step c =
    let s = c.args.seat.now in let l = c.args.pool.now.limits in let d = c.step_at.ensures.step in (
      d.0,
      d.3,
      sits_after s.number s.place.id l (state_in c.args.seat.now.place.me.0 c.args.mutex) (part s.place.me.0 c.args.mutex) c.requires.sits c.step_at.result d.0 d.1 d.2 d.4,
      stepped s.number s.place.id l (state_in c.args.seat.now.place.me.0 c.args.mutex) (part s.place.me.0 c.args.mutex) c.requires.sits c.step_at.result d.0 d.1 d.2 d.4,
    )

pub returns-clause-finds : goal.returns-clause-finds
returns-clause-finds c =
    let d = c.step_at.ensures.step in
    record { owner = λ is same. (d.2.owner is).0 (same ∙ sym c.requires.sits.seated.named); sees = d.2.sees }
