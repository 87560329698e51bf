use Rattle.std.proofs.Common.{ap, sym, subst, ◌∙◌}
use Rattle.lfm_words.specs.declared.links.Link.{Link}
use Rattle.lfm_words.specs.Words.{link_word}
use Rattle.lfm_pool.specs.Chain.{first_link, first_seat}
use Rattle.lfm_pool.specs.Collecting.{CollectsOneIn}
use Rattle.lfm_pool.specs.Seats.{state_of}
use Rattle.lfm_pool.proofs.CollectedRecords.{collected, collected_carries, collected_due, collected_popped}
use Rattle.lfm_pool.proofs.SeatWords.{target_of_load}
use Rattle.lfm_pool.proofs.collect.collect_one.Goals as goal

pub chain_store-requires-clause-belongs : goal.chain_store-requires-clause-belongs
chain_store-requires-clause-belongs c =
    let a = c.link_load-word.ensures.belongs in record { table = a.table ∙ c.requires.belongs.table; parts = a.parts ∙ c.requires.belongs.parts }

pub chain_store-requires-clause-carries : goal.chain_store-requires-clause-carries
chain_store-requires-clause-carries c =
    let l = c.link_load-word in collected_carries c.args.pool.now c.args.seat.now l.new.seat c.args.mutex c.args.walk.target l.result c.requires.mutex c.requires.belongs c.requires.at l.ensures.step

pub chain_store-requires-clause-due : goal.chain_store-requires-clause-due
chain_store-requires-clause-due c =
    let l = c.link_load-word in collected_due c.args.pool.now c.args.seat.now l.new.seat c.args.mutex c.args.walk.target l.result c.requires.mutex c.requires.belongs c.requires.at l.ensures.step c.requires.whole

pub chain_store-requires-clause-oldest : goal.chain_store-requires-clause-oldest
chain_store-requires-clause-oldest c =
    let l = c.link_load-word in let u = c.unpack_link-found in
    let popped = collected_popped c.args.pool.now c.args.seat.now l.new.seat c.args.mutex c.args.walk.target l.result c.requires.mutex c.requires.belongs c.requires.at l.ensures.step in (
      ap first_seat (sym popped),
      (λ i. link_word (record { stamp = (ap (λ (x : Link). x.stamp) u.ensures.holds) i; next = c.requires.newer.0 i })) ∙ ap first_link (sym popped),
    )

pub chain_store-requires-clause-inside : goal.chain_store-requires-clause-inside
chain_store-requires-clause-inside c =
    target_of_load c.args.pool.now.mutexes c.args.pool.now.limits.seats c.args.mutex c.args.seat.now.number 0 0 (state_of c.args.seat.now c.args.mutex) c.requires.sits.ready c.args.walk.target c.requires.at

pub chain_store-requires-clause-packs : goal.chain_store-requires-clause-packs
chain_store-requires-clause-packs c = (c.unpack_link-found.ensures.stamp, c.requires.newer.1)

pub returns-clause-belongs : goal.returns-clause-belongs
returns-clause-belongs c =
    let a = c.link_load-word.ensures.belongs in let b = c.chain_store.ensures.belongs in
    record { table = b.table ∙ a.table; id = b.id ∙ a.id; number = b.number ∙ a.number; parts = b.parts ∙ a.parts }

pub returns-clause-packs : goal.returns-clause-packs
returns-clause-packs c = (c.unpack_link-found.ensures.stamp, c.unpack_link-found.ensures.next)

pub returns-clause-collects : goal.returns-clause-collects
returns-clause-collects c =
    let s = c.args.seat.now in let l = c.link_load-word in let w = c.chain_store in
    subst (λ n. CollectsOneIn s w.new.seat c.args.pool.now c.args.mutex n) (sym c.unpack_link-found.ensures.packs)
    (collected c.args.pool.now s l.new.seat c.args.mutex c.args.walk.target l.result c.requires.mutex c.requires.belongs c.requires.at l.ensures.step w.new.seat c.requires.whole w.ensures.notes)
