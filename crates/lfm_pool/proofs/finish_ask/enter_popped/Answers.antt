use Rattle.std.proofs.Common.{ℕ, refl, ap, ◌∙◌}
use Rattle.atomic_table.specs.Table.{Me}
use Rattle.lfm_laws.specs.table.Carried.{carries_value}
use Rattle.lfm_pool.specs.declared.view.Note.{Note}
use Rattle.lfm_pool.specs.declared.view.PoolView.{PoolView}
use Rattle.lfm_pool.specs.Tables.{part}
use Rattle.lfm_pool.proofs.Finishing.{enter_access, enter_carries, enter_keeps, enter_next, enter_oldest, enter_stamp, entered, may_enter, may_too, same_both}
use Rattle.lfm_pool.specs.Seats.{state_of}
use Rattle.lfm_pool.proofs.SeatWords.{same_after}
use Rattle.lfm_pool.proofs.SeveralSteps.{same_then}
use Rattle.lfm_pool.proofs.finish_ask.enter_popped.Goals as goal

pub chain_load-word-requires-clause-carries : goal.chain_load-word-requires-clause-carries
chain_load-word-requires-clause-carries c = enter_carries c.args.seat.now c.args.pool.now c.args.mutex c.requires.may c.requires.own c.requires.whole

pub chain_load-word-requires-clause-due : goal.chain_load-word-requires-clause-due
chain_load-word-requires-clause-due c = ap (λ (k : Note). k.due) c.requires.whole

pub chain_load-word-requires-clause-oldest : goal.chain_load-word-requires-clause-oldest
chain_load-word-requires-clause-oldest c = enter_oldest c.args.seat.now c.args.pool.now c.args.mutex c.requires.may c.requires.own c.requires.whole

pub chain_load-word-requires-clause-inside : goal.chain_load-word-requires-clause-inside
chain_load-word-requires-clause-inside c = (c.requires.may.sits.rooted.low, c.requires.may.sits.rooted.high)

pub carried_store-requires-clause-belongs : goal.carried_store-requires-clause-belongs
carried_store-requires-clause-belongs c = let s = c.args.seat.now in let p = c.args.pool.now in let m = c.args.mutex in let may = c.requires.may in let own = c.requires.own in let whole = c.requires.whole in let f = c.chain_load-word in (may_too s f.new.seat p m f.ensures.belongs f.ensures.knows may).belongs

pub carried_store-requires-clause-carries : goal.carried_store-requires-clause-carries
carried_store-requires-clause-carries c = let s = c.args.seat.now in let p = c.args.pool.now in let m = c.args.mutex in let may = c.requires.may in let own = c.requires.own in let whole = c.requires.whole in let f = c.chain_load-word in ap (λ (z : Me ℕ PoolView). carries_value (part z.0 m).state) f.ensures.knows ∙ enter_carries s p m may own whole

pub next_step-requires-clause-table : goal.next_step-requires-clause-table
next_step-requires-clause-table c = let s = c.args.seat.now in let p = c.args.pool.now in let m = c.args.mutex in let may = c.requires.may in let own = c.requires.own in let whole = c.requires.whole in let f = c.chain_load-word in let g = c.carried_store in let l = c.unpack_link-link in (may_enter s p m may own whole f.new.seat g.new.seat f.ensures.knows f.ensures.belongs g.ensures.belongs l.result.next g.ensures.notes (enter_next s p m may own whole l.result f.result l.ensures.packs l.ensures.next f.ensures.finds f.ensures.within)).belongs.table

pub next_step-requires-clause-inside : goal.next_step-requires-clause-inside
next_step-requires-clause-inside c = let s = c.args.seat.now in let p = c.args.pool.now in let m = c.args.mutex in let may = c.requires.may in let own = c.requires.own in let whole = c.requires.whole in let f = c.chain_load-word in let g = c.carried_store in let l = c.unpack_link-link in ((may_enter s p m may own whole f.new.seat g.new.seat f.ensures.knows f.ensures.belongs g.ensures.belongs l.result.next g.ensures.notes (enter_next s p m may own whole l.result f.result l.ensures.packs l.ensures.next f.ensures.finds f.ensures.within)).mutex, (may_enter s p m may own whole f.new.seat g.new.seat f.ensures.knows f.ensures.belongs g.ensures.belongs l.result.next g.ensures.notes (enter_next s p m may own whole l.result f.result l.ensures.packs l.ensures.next f.ensures.finds f.ensures.within)).belongs.parts)

pub next_step-requires-clause-sits : goal.next_step-requires-clause-sits
next_step-requires-clause-sits c = let s = c.args.seat.now in let p = c.args.pool.now in let m = c.args.mutex in let may = c.requires.may in let own = c.requires.own in let whole = c.requires.whole in let f = c.chain_load-word in let g = c.carried_store in let l = c.unpack_link-link in (may_enter s p m may own whole f.new.seat g.new.seat f.ensures.knows f.ensures.belongs g.ensures.belongs l.result.next g.ensures.notes (enter_next s p m may own whole l.result f.result l.ensures.packs l.ensures.next f.ensures.finds f.ensures.within)).sits

pub next_step-requires-clause-elsewhere : goal.next_step-requires-clause-elsewhere
next_step-requires-clause-elsewhere c = let s = c.args.seat.now in let p = c.args.pool.now in let m = c.args.mutex in let may = c.requires.may in let own = c.requires.own in let whole = c.requires.whole in let f = c.chain_load-word in let g = c.carried_store in let l = c.unpack_link-link in (may_enter s p m may own whole f.new.seat g.new.seat f.ensures.knows f.ensures.belongs g.ensures.belongs l.result.next g.ensures.notes (enter_next s p m may own whole l.result f.result l.ensures.packs l.ensures.next f.ensures.finds f.ensures.within)).elsewhere

pub next_step-requires-clause-is_next : goal.next_step-requires-clause-is_next
next_step-requires-clause-is_next c = let s = c.args.seat.now in let p = c.args.pool.now in let m = c.args.mutex in let may = c.requires.may in let own = c.requires.own in let whole = c.requires.whole in let f = c.chain_load-word in let g = c.carried_store in let l = c.unpack_link-link in enter_access s p m may own whole f.new.seat g.new.seat f.ensures.knows f.ensures.belongs g.ensures.belongs l.result.next g.ensures.notes (enter_next s p m may own whole l.result f.result l.ensures.packs l.ensures.next f.ensures.finds f.ensures.within) s.number refl

pub next_step-requires-clause-chained : goal.next_step-requires-clause-chained
next_step-requires-clause-chained c = let s = c.args.seat.now in let p = c.args.pool.now in let m = c.args.mutex in let may = c.requires.may in let own = c.requires.own in let whole = c.requires.whole in let f = c.chain_load-word in let g = c.carried_store in let l = c.unpack_link-link in enter_keeps s p m may own whole f.new.seat g.new.seat f.ensures.knows f.ensures.belongs g.ensures.belongs l.result.next g.ensures.notes (enter_next s p m may own whole l.result f.result l.ensures.packs l.ensures.next f.ensures.finds f.ensures.within)

pub returns-clause-belongs : goal.returns-clause-belongs
returns-clause-belongs c = let s = c.args.seat.now in let p = c.args.pool.now in let m = c.args.mutex in let may = c.requires.may in let own = c.requires.own in let whole = c.requires.whole in let f = c.chain_load-word in let g = c.carried_store in let l = c.unpack_link-link in let h = c.next_step in same_then s g.new.seat h.new.seat (same_both s p m may own whole f.new.seat g.new.seat f.ensures.knows f.ensures.belongs g.ensures.belongs l.result.next g.ensures.notes (enter_next s p m may own whole l.result f.result l.ensures.packs l.ensures.next f.ensures.finds f.ensures.within)) (same_after g.new.seat h.new.seat p.limits m h.result (state_of g.new.seat m) h.ensures.table h.ensures.step)

pub returns-clause-finishes : goal.returns-clause-finishes
returns-clause-finishes c = let s = c.args.seat.now in let p = c.args.pool.now in let m = c.args.mutex in let may = c.requires.may in let own = c.requires.own in let whole = c.requires.whole in let f = c.chain_load-word in let g = c.carried_store in let l = c.unpack_link-link in let h = c.next_step in entered s p m may own whole f.new.seat g.new.seat f.ensures.knows f.ensures.belongs g.ensures.belongs l.result.next g.ensures.notes (enter_next s p m may own whole l.result f.result l.ensures.packs l.ensures.next f.ensures.finds f.ensures.within) l.result.stamp (enter_stamp s p m may own whole l.result f.result l.ensures.packs l.ensures.next f.ensures.finds f.ensures.within) h.new.seat h.result h.ensures.step h.ensures.told
