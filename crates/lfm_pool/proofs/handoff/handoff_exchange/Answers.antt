use Rattle.lfm_pool.specs.Seats.{state_of}
use Rattle.lfm_pool.specs.Tables.{part}
use Rattle.lfm_pool.proofs.Parts.{can_step}
use Rattle.lfm_pool.proofs.HandoffSteps.{tried_may, tried_same, tried_word}
use Rattle.lfm_pool.proofs.handoff.handoff_exchange.Goals as goal

pub exchange_at-requires-clause-table : goal.exchange_at-requires-clause-table
exchange_at-requires-clause-table c = c.requires.may.belongs.table

pub exchange_at-requires-clause-inside : goal.exchange_at-requires-clause-inside
exchange_at-requires-clause-inside c = (c.requires.may.mutex, c.requires.may.belongs.parts)

pub exchange_at-requires-clause-can : goal.exchange_at-requires-clause-can
exchange_at-requires-clause-can c =
    let s = c.args.seat.now in can_step s.number s.place.id c.args.pool.now.limits (state_of s c.args.mutex) (part s.place.me.0 c.args.mutex) c.requires.may.sits

pub exchange_at-requires-clause-elsewhere : goal.exchange_at-requires-clause-elsewhere
exchange_at-requires-clause-elsewhere c = c.requires.may.elsewhere

pub returns-clause-belongs : goal.returns-clause-belongs
returns-clause-belongs c = let d = c.exchange_at in tried_same c.args.pool.now c.args.seat.now d.new.seat c.args.mutex c.requires.may d.ensures.table c.args.post d.result d.ensures.step

pub returns-clause-may : goal.returns-clause-may
returns-clause-may c = let d = c.exchange_at in tried_may c.args.pool.now c.args.seat.now d.new.seat c.args.mutex c.requires.may d.ensures.table c.args.post d.result d.ensures.step

pub returns-clause-step : goal.returns-clause-step
returns-clause-step c = let d = c.exchange_at in tried_word c.args.pool.now c.args.seat.now d.new.seat c.args.mutex c.requires.may d.ensures.table c.args.post d.result d.ensures.step
