use Rattle.std.proofs.Common.{arith}
use Rattle.lfm_pool.proofs.CarrierWords.{loads_carried, same_known}
use Rattle.lfm_pool.proofs.chain.carried_load.Goals as goal

pub own_at-index-requires : goal.own_at-index-requires
own_at-index-requires c = let less = c.requires.mutex in let few = c.args.pool.now.few.1 in omega (arith, less, few)

pub load_word-requires-clause-table : goal.load_word-requires-clause-table
load_word-requires-clause-table c = c.requires.belongs.table

pub load_word-requires-clause-inside : goal.load_word-requires-clause-inside
load_word-requires-clause-inside c = let i = c.own_at-index.ensures in let less = c.requires.mutex in let wide = c.args.pool.now.wide in omega (arith, i, less, wide)

pub load_word-requires-clause-may : goal.load_word-requires-clause-may
load_word-requires-clause-may c =
    let r = c.requires in loads_carried c.args.pool.now c.args.seat.now c.args.mutex r.belongs r.mutex r.carries c.own_at-index.result c.own_at-index.ensures

pub returns-clause-belongs : goal.returns-clause-belongs
returns-clause-belongs c = same_known c.args.seat.now c.load_word.new.seat c.load_word.ensures.same c.load_word.ensures.knows
