use Rattle.lfm_pool.specs.Seats.{state_of}
use Rattle.lfm_pool.specs.Tables.{part}
use Rattle.lfm_pool.proofs.Parts.{can_step}
use Rattle.lfm_pool.proofs.HandoffSteps.{loaded_may, loaded_same, loaded_word}
use Rattle.lfm_pool.proofs.handoff.handoff_load.Goals as goal

pub load_at-requires-clause-table : goal.load_at-requires-clause-table
load_at-requires-clause-table c = c.requires.may.belongs.table

pub load_at-requires-clause-inside : goal.load_at-requires-clause-inside
load_at-requires-clause-inside c = (c.requires.may.mutex, c.requires.may.belongs.parts)

pub load_at-requires-clause-can : goal.load_at-requires-clause-can
load_at-requires-clause-can c =
    let s = c.args.seat.now in can_step s.number s.place.id c.args.pool.now.limits (state_of s c.args.mutex) (part s.place.me.0 c.args.mutex) c.requires.may.sits

pub load_at-requires-clause-elsewhere : goal.load_at-requires-clause-elsewhere
load_at-requires-clause-elsewhere c = c.requires.may.elsewhere

pub returns-clause-belongs : goal.returns-clause-belongs
returns-clause-belongs c = let d = c.load_at in loaded_same c.args.pool.now c.args.seat.now d.new.seat c.args.mutex c.requires.may d.ensures.table d.result d.ensures.step

pub returns-clause-may : goal.returns-clause-may
returns-clause-may c = let d = c.load_at in loaded_may c.args.pool.now c.args.seat.now d.new.seat c.args.mutex c.requires.may d.ensures.table d.result d.ensures.step

pub returns-clause-step : goal.returns-clause-step
returns-clause-step c = let d = c.load_at in loaded_word c.args.pool.now c.args.seat.now d.new.seat c.args.mutex c.requires.may d.ensures.table d.result d.ensures.step
