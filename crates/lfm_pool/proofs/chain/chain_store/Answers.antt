use Rattle.std.proofs.Common.{◌∙◌, arith}
use Rattle.lfm_pool.specs.Seats.{note_of}
use Rattle.lfm_pool.proofs.CarrierWords.{same_noted, writes_chain}
use Rattle.lfm_pool.proofs.chain.chain_store.Goals as goal

pub link_at-index-requires-clause-many : goal.link_at-index-requires-clause-many
link_at-index-requires-clause-many c = c.args.pool.now.few.1

pub link_at-index-requires-clause-number : goal.link_at-index-requires-clause-number
link_at-index-requires-clause-number c = let t = c.requires.inside in let few = c.args.pool.now.few.0 in (t.0, omega (arith, t.1, few))

pub store_word-requires-clause-table : goal.store_word-requires-clause-table
store_word-requires-clause-table c = c.requires.belongs.table

pub store_word-requires-clause-inside : goal.store_word-requires-clause-inside
store_word-requires-clause-inside c = let i = c.link_at-index.ensures in let t = c.requires.inside in let wide = c.args.pool.now.wide in omega (arith, i, t.0, t.1, wide)

pub store_word-requires-clause-may : goal.store_word-requires-clause-may
store_word-requires-clause-may c =
    let r = c.requires in
    writes_chain c.args.pool.now c.args.seat.now c.args.mutex r.belongs r.mutex r.carries c.link_at-index.result c.args.chained.seat c.pack_link-link.result r.oldest.0 r.inside.0 c.link_at-index.ensures r.due
    (c.pack_link-link.ensures ∙ r.oldest.1)

pub returns-clause-belongs : goal.returns-clause-belongs
returns-clause-belongs c = same_noted c.args.seat.now c.store_word.new.seat c.args.mutex (record (note_of c.args.seat.now c.args.mutex) { due = 0 }) c.store_word.ensures.same c.store_word.ensures.knows
