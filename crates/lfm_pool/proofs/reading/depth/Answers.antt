use Rattle.std.proofs.Common.{rules, ◌≢◌, refl, Some}
use Rattle.lfm_pool.proofs.BetweenCalls.{belongs_between, between_then, depth_between}
use Rattle.lfm_pool.proofs.reading.depth.Goals as goal

pub depth-requires-clause-belongs : goal.depth-requires-clause-belongs
depth-requires-clause-belongs c = belongs_between c.args.seat.now c.args.pool.now c.requires.between

pub depth-requires-clause-rests : goal.depth-requires-clause-rests
depth-requires-clause-rests c =
    let other : c.args.seat.now.asleep_in ≢ Some c.args.mutex = search rules in
    depth_between c.args.seat.now c.args.pool.now c.requires.between c.args.mutex c.requires.mutex other

pub returns-clause-between : goal.returns-clause-between
returns-clause-between c =
    let s = c.args.seat.now in let f = c.depth in
    between_then s (record s { table_seat = f.new.seat }) c.args.pool.now f.ensures.belongs f.ensures.knows refl refl c.requires.between
