use Rattle.std.proofs.Common.{refl, ap, arith, nat_lt}
use Rattle.lfm_words.specs.declared.links.Link.{Link}
use Rattle.lfm_pool.specs.Admissions.{most_stamps}
use Rattle.lfm_pool.proofs.Admitted.{same_loaded}
use Rattle.lfm_pool.proofs.PushLoads.{loads_push}
use Rattle.lfm_pool.proofs.admission.has_stamp.Goals as goal

pub own_at-index-requires : goal.own_at-index-requires
own_at-index-requires c = let less = c.requires.mutex in let few = c.args.pool.now.few.1 in omega (arith, less, few)

pub load_push_word-word-requires-clause-table : goal.load_push_word-word-requires-clause-table
load_push_word-word-requires-clause-table c = c.requires.belongs.table

pub load_push_word-word-requires-clause-inside : goal.load_push_word-word-requires-clause-inside
load_push_word-word-requires-clause-inside c = let i = c.own_at-index.ensures in let less = c.requires.mutex in let wide = c.args.pool.now.wide in omega (arith, i, less, wide)

pub load_push_word-word-requires-clause-may : goal.load_push_word-word-requires-clause-may
load_push_word-word-requires-clause-may c =
    let r = c.requires in
    loads_push c.args.pool.now c.args.seat.now c.args.mutex r.belongs r.mutex c.args.pool.now.table.shared.table_id.slots c.own_at-index.result c.args.mutex refl c.own_at-index.ensures

pub returns-clause-belongs : goal.returns-clause-belongs
returns-clause-belongs c =
    let f = c.load_push_word-word in same_loaded c.args.seat.now f.new.seat c.args.mutex f.result f.ensures.knows f.ensures.same

pub returns-clause-loads : goal.returns-clause-loads
returns-clause-loads c =
    let f = c.load_push_word-word in (f.result, f.ensures.knows, ap (λ (l : Link). nat_lt l.stamp most_stamps) c.unpack_link.ensures.holds)
