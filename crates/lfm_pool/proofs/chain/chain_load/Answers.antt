use Rattle.std.proofs.Common.{arith}
use Rattle.lfm_pool.proofs.CarrierWords.{loads_chain, same_known}
use Rattle.lfm_pool.proofs.chain.chain_load.Goals as goal

pub link_at-index-requires-clause-many : goal.link_at-index-requires-clause-many
link_at-index-requires-clause-many c = c.args.pool.now.few.1

pub link_at-index-requires-clause-number : goal.link_at-index-requires-clause-number
link_at-index-requires-clause-number c = let t = c.requires.inside in let few = c.args.pool.now.few.0 in (t.0, omega (arith, t.1, few))

pub load_word-requires-clause-table : goal.load_word-requires-clause-table
load_word-requires-clause-table c = c.requires.belongs.table

pub load_word-requires-clause-inside : goal.load_word-requires-clause-inside
load_word-requires-clause-inside c = let i = c.link_at-index.ensures in let t = c.requires.inside in let wide = c.args.pool.now.wide in omega (arith, i, t.0, t.1, wide)

pub load_word-requires-clause-may : goal.load_word-requires-clause-may
load_word-requires-clause-may c =
    let r = c.requires in
    loads_chain c.args.pool.now c.args.seat.now c.args.mutex r.belongs r.mutex r.carries c.link_at-index.result c.args.oldest r.oldest r.inside.0 c.link_at-index.ensures r.due

pub returns-clause-belongs : goal.returns-clause-belongs
returns-clause-belongs c = same_known c.args.seat.now c.load_word.new.seat c.load_word.ensures.same c.load_word.ensures.knows
