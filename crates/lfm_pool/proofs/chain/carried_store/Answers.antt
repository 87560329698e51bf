use Rattle.std.proofs.Common.{arith}
use Rattle.lfm_pool.specs.Seats.{note_of}
use Rattle.lfm_pool.proofs.CarrierWords.{same_noted, writes_carried}
use Rattle.lfm_pool.proofs.chain.carried_store.Goals as goal

pub own_at-index-requires : goal.own_at-index-requires
own_at-index-requires c = let less = c.requires.mutex in let few = c.args.pool.now.few.1 in omega (arith, less, few)

pub store_word-requires-clause-table : goal.store_word-requires-clause-table
store_word-requires-clause-table c = c.requires.belongs.table

pub store_word-requires-clause-inside : goal.store_word-requires-clause-inside
store_word-requires-clause-inside c = let i = c.own_at-index.ensures in let less = c.requires.mutex in let wide = c.args.pool.now.wide in omega (arith, i, less, wide)

pub store_word-requires-clause-may : goal.store_word-requires-clause-may
store_word-requires-clause-may c =
    let r = c.requires in writes_carried c.args.pool.now c.args.seat.now c.args.mutex r.belongs r.mutex r.carries c.own_at-index.result c.args.number c.own_at-index.ensures

pub returns-clause-belongs : goal.returns-clause-belongs
returns-clause-belongs c =
    same_noted c.args.seat.now c.store_word.new.seat c.args.mutex (record (note_of c.args.seat.now c.args.mutex) { carried = c.args.number }) c.store_word.ensures.same c.store_word.ensures.knows
