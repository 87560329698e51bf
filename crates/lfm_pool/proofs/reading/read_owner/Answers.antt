use Rattle.std.proofs.Common.{refl}
use Rattle.lfm_pool.proofs.BetweenCalls.{belongs_between, between_then}
use Rattle.lfm_pool.proofs.reading.read_owner.Goals as goal

pub read_owner-requires-clause-belongs : goal.read_owner-requires-clause-belongs
read_owner-requires-clause-belongs c = belongs_between c.args.seat.now c.args.pool.now c.requires.between

pub returns-clause-between : goal.returns-clause-between
returns-clause-between c =
    let s = c.args.seat.now in let f = c.read_owner in
    between_then s (record s { table_seat = f.new.seat }) c.args.pool.now f.ensures.belongs f.ensures.knows refl refl c.requires.between
