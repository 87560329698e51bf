use Rattle.lfm_pool.specs.Seats.{state_of}
use Rattle.lfm_pool.specs.Tables.{part}
use Rattle.lfm_pool.proofs.Parts.{can_step}
use Rattle.lfm_pool.proofs.HandoffSteps.{stored_may, stored_same, stored_word}
use Rattle.lfm_pool.proofs.handoff.handoff_store.Goals as goal

pub store_at-requires-clause-table : goal.store_at-requires-clause-table
store_at-requires-clause-table c = c.requires.may.belongs.table

pub store_at-requires-clause-inside : goal.store_at-requires-clause-inside
store_at-requires-clause-inside c = (c.requires.may.mutex, c.requires.may.belongs.parts)

pub store_at-requires-clause-can : goal.store_at-requires-clause-can
store_at-requires-clause-can c =
    let s = c.args.seat.now in can_step s.number s.place.id c.args.pool.now.limits (state_of s c.args.mutex) (part s.place.me.0 c.args.mutex) c.requires.may.sits

pub store_at-requires-clause-elsewhere : goal.store_at-requires-clause-elsewhere
store_at-requires-clause-elsewhere c = c.requires.may.elsewhere

pub returns-clause-belongs : goal.returns-clause-belongs
returns-clause-belongs c = let d = c.store_at in stored_same c.args.pool.now c.args.seat.now d.new.seat c.args.mutex c.requires.may d.ensures.table d.ensures.step c.requires.at

pub returns-clause-may : goal.returns-clause-may
returns-clause-may c = let d = c.store_at in stored_may c.args.pool.now c.args.seat.now d.new.seat c.args.mutex c.requires.may d.ensures.table d.ensures.step c.requires.at

pub returns-clause-step : goal.returns-clause-step
returns-clause-step c = let d = c.store_at in stored_word c.args.pool.now c.args.seat.now d.new.seat c.args.mutex c.requires.may d.ensures.table d.ensures.step c.requires.at
