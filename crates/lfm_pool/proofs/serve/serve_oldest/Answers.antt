use Rattle.std.proofs.Common.{ℕ, ◌∷◌, sym, ap, ◌∙◌, subst, arith}
use Rattle.atomic_table.specs.Table.{Me}
use Rattle.lfm_laws.specs.table.Carried.{carries_value}
use Rattle.lfm_pool.specs.declared.view.Note.{Note}
use Rattle.lfm_pool.specs.declared.view.PoolView.{PoolView}
use Rattle.lfm_words.specs.declared.links.Link.{Link}
use Rattle.lfm_words.specs.declared.pop_lists.Record.{Record}
use Rattle.lfm_pool.specs.Chain.{first_seat}
use Rattle.lfm_pool.specs.Seats.{popped_of}
use Rattle.lfm_pool.specs.Serving.{GrantsIn, IsOldest}
use Rattle.lfm_pool.specs.Tables.{part}
use Rattle.lfm_pool.proofs.ServingRecords.{granted, served_elsewhere, served_grants, served_sits, served_whole, serves_carries, serves_link, serves_seat}
use Rattle.lfm_pool.proofs.serve.serve_oldest.Goals as goal

pub chain_load-word-requires-clause-carries : goal.chain_load-word-requires-clause-carries
chain_load-word-requires-clause-carries c = serves_carries c.args.pool.now c.args.seat.now c.args.mutex c.requires.sits c.requires.at

pub chain_load-word-requires-clause-due : goal.chain_load-word-requires-clause-due
chain_load-word-requires-clause-due c = ap (λ (n : Note). n.due) c.requires.whole

pub chain_load-word-requires-clause-inside : goal.chain_load-word-requires-clause-inside
chain_load-word-requires-clause-inside c = serves_seat c.args.pool.now c.args.seat.now c.args.mutex c.requires.sits c.requires.at c.args.oldest c.requires.oldest

pub carried_store-requires-clause-belongs : goal.carried_store-requires-clause-belongs
carried_store-requires-clause-belongs c =
    let a = c.chain_load-word.ensures.belongs in record { table = a.table ∙ c.requires.belongs.table; parts = a.parts ∙ c.requires.belongs.parts }

pub carried_store-requires-clause-carries : goal.carried_store-requires-clause-carries
carried_store-requires-clause-carries c =
    ap (λ (z : Me ℕ PoolView). carries_value (part z.0 c.args.mutex).state) c.chain_load-word.ensures.knows
    ∙ serves_carries c.args.pool.now c.args.seat.now c.args.mutex c.requires.sits c.requires.at

pub known-number-requires-clause-above : goal.known-number-requires-clause-above
known-number-requires-clause-above c = (serves_seat c.args.pool.now c.args.seat.now c.args.mutex c.requires.sits c.requires.at c.args.oldest c.requires.oldest).0

pub known-number-requires-clause-within : goal.known-number-requires-clause-within
known-number-requires-clause-within c =
    let t = (serves_seat c.args.pool.now c.args.seat.now c.args.mutex c.requires.sits c.requires.at c.args.oldest c.requires.oldest).1 in let few = c.args.pool.now.few.0 in omega (arith, t, few)

pub grant-requires-clause-belongs : goal.grant-requires-clause-belongs
grant-requires-clause-belongs c =
    let a = c.chain_load-word.ensures.belongs in let b = c.carried_store.ensures.belongs in
    record { table = b.table ∙ a.table ∙ c.requires.belongs.table; parts = b.parts ∙ a.parts ∙ c.requires.belongs.parts }

pub grant-requires-clause-sits : goal.grant-requires-clause-sits
grant-requires-clause-sits c =
    let l = c.chain_load-word in let w = c.carried_store in
    served_sits c.args.pool.now c.args.seat.now c.args.mutex c.requires.sits c.requires.at c.requires.mutex c.requires.belongs l.new.seat w.new.seat l.ensures.knows l.ensures.belongs w.ensures.belongs c.unpack_link-link.result.next w.ensures.notes

pub grant-requires-clause-elsewhere : goal.grant-requires-clause-elsewhere
grant-requires-clause-elsewhere c =
    let l = c.chain_load-word in let w = c.carried_store in
    served_elsewhere c.args.pool.now c.args.seat.now c.args.mutex c.requires.sits c.requires.at c.requires.mutex c.requires.belongs l.new.seat w.new.seat l.ensures.knows l.ensures.belongs w.ensures.belongs c.unpack_link-link.result.next w.ensures.notes
    c.requires.elsewhere

pub grant-requires-clause-at : goal.grant-requires-clause-at
grant-requires-clause-at c =
    let l = c.chain_load-word in let w = c.carried_store in let u = c.unpack_link-link in
    let link = serves_link c.args.pool.now c.args.seat.now c.args.mutex c.requires.sits c.requires.at u.result l.result u.ensures.packs u.ensures.next l.ensures.finds l.ensures.within in
    served_grants c.args.pool.now c.args.seat.now c.args.mutex c.requires.sits c.requires.at c.requires.mutex c.requires.belongs l.new.seat w.new.seat l.ensures.knows l.ensures.belongs w.ensures.belongs c.unpack_link-link.result.next w.ensures.notes
    _ (λ i. record { seat = (c.known-number.ensures ∙ c.requires.oldest ∙ ap first_seat c.requires.at.3.1) i; stamp = (link i).stamp })

pub grant-requires-clause-whole : goal.grant-requires-clause-whole
grant-requires-clause-whole c =
    let l = c.chain_load-word in let w = c.carried_store in let u = c.unpack_link-link in
    let link = serves_link c.args.pool.now c.args.seat.now c.args.mutex c.requires.sits c.requires.at u.result l.result u.ensures.packs u.ensures.next l.ensures.finds l.ensures.within in
    served_whole c.args.pool.now c.args.seat.now c.args.mutex c.requires.sits c.requires.at c.requires.mutex c.requires.belongs l.new.seat w.new.seat l.ensures.knows l.ensures.belongs w.ensures.belongs c.unpack_link-link.result.next w.ensures.notes
    c.requires.whole (ap (λ (x : Link). x.next) link)

pub returns-clause-belongs : goal.returns-clause-belongs
returns-clause-belongs c =
    let a = c.chain_load-word.ensures.belongs in let b = c.carried_store.ensures.belongs in let d = c.grant.ensures.belongs in
    record { table = d.table ∙ b.table ∙ a.table; id = d.id ∙ b.id ∙ a.id; number = d.number ∙ b.number ∙ a.number; parts = d.parts ∙ b.parts ∙ a.parts }

pub returns-clause-oldest : goal.returns-clause-oldest
returns-clause-oldest c =
    let l = c.chain_load-word in let u = c.unpack_link-link in
    let link = serves_link c.args.pool.now c.args.seat.now c.args.mutex c.requires.sits c.requires.at u.result l.result u.ensures.packs u.ensures.next l.ensures.finds l.ensures.within in subst (λ (r : Record). IsOldest r (popped_of c.args.seat.now c.args.mutex)) (sym c.grant.ensures.owes) (
      c.requires.at.3.0,
      c.requires.at.3.1 ∙ (λ i. record { seat = (sym (c.known-number.ensures ∙ c.requires.oldest ∙ ap first_seat c.requires.at.3.1)) i; stamp = (sym link i).stamp } ∷ c.requires.at.3.0),
    )

pub returns-clause-grants : goal.returns-clause-grants
returns-clause-grants c =
    let l = c.chain_load-word in let w = c.carried_store in
    subst (λ (r : Record). GrantsIn c.args.seat.now c.grant.new.seat c.args.pool.now c.args.mutex r) (sym c.grant.ensures.owes)
    (granted c.args.pool.now c.args.seat.now c.args.mutex c.requires.sits c.requires.at c.requires.mutex c.requires.belongs l.new.seat w.new.seat l.ensures.knows l.ensures.belongs w.ensures.belongs c.unpack_link-link.result.next w.ensures.notes
    c.grant.new.seat (record { seat = c.known-number.result; stamp = c.unpack_link-link.result.stamp }) c.grant.ensures.step)
