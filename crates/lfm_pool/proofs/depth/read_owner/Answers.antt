use Rattle.std.proofs.Common.{refl, arith}
use Rattle.lfm_pool.proofs.CarrierWords.{same_known}
use Rattle.lfm_pool.proofs.Owners.{reads_owner}
use Rattle.lfm_pool.proofs.depth.read_owner.Goals as goal

pub own_at-index-requires : goal.own_at-index-requires
own_at-index-requires c = let less = c.requires.mutex in let few = c.args.pool.now.few.1 in omega (arith, less, few)

pub load_owner-requires-clause-table : goal.load_owner-requires-clause-table
load_owner-requires-clause-table c = c.requires.belongs.table

pub load_owner-requires-clause-inside : goal.load_owner-requires-clause-inside
load_owner-requires-clause-inside c = let i = c.own_at-index.ensures in let less = c.requires.mutex in let wide = c.args.pool.now.wide in omega (arith, i, less, wide)

pub load_owner-requires-clause-may : goal.load_owner-requires-clause-may
load_owner-requires-clause-may c =
    let r = c.requires in
    reads_owner c.args.pool.now c.args.seat.now c.args.mutex r.belongs r.mutex c.args.pool.now.table.shared.table_id.slots c.own_at-index.result c.args.mutex refl c.own_at-index.ensures

pub returns-clause-belongs : goal.returns-clause-belongs
returns-clause-belongs c = same_known c.args.seat.now c.load_owner.new.seat c.load_owner.ensures.same c.load_owner.ensures.knows
