use Rattle.std.proofs.Common.{sym, ap, ◌∙◌, subst}
use Rattle.atomic_table.specs.Table.{Me}
use Rattle.lfm_laws.specs.table.Carried.{carries_value}
use Rattle.lfm_pool.specs.declared.view.PoolView.{PoolView}
use Rattle.lfm_pool.specs.Chain.{first_seat}
use Rattle.lfm_pool.specs.Seats.{popped_of}
use Rattle.lfm_pool.specs.Steps.{state_in}
use Rattle.std.specs.Prelude.{ℕ, ◌≡◌, ◌+◌, ◌-◌, ◌*◌, true}
use Rattle.lfm_pool.proofs.DeepCalls.{first_below, kept_first, noted_deep}
use Rattle.lfm_pool.proofs.SeveralSteps.{same_then}
use Rattle.lfm_pool.proofs.deepen.note_depth.Goals as goal

pub carried_store-requires-clause-belongs : goal.carried_store-requires-clause-belongs
carried_store-requires-clause-belongs c =
    let f = c.carried_load-carried in record { table = f.ensures.belongs.table ∙ c.requires.belongs.table; parts = f.ensures.belongs.parts ∙ c.requires.belongs.parts }

pub carried_store-requires-clause-carries : goal.carried_store-requires-clause-carries
carried_store-requires-clause-carries c =
    subst (λ (z : Me ℕ PoolView). carries_value (state_in z.0 c.args.mutex) ≡ true) (sym c.carried_load-carried.ensures.knows) c.requires.carries

pub returns-clause-belongs : goal.returns-clause-belongs
returns-clause-belongs c = same_then c.args.seat.now c.carried_load-carried.new.seat c.carried_store.new.seat c.carried_load-carried.ensures.belongs c.carried_store.ensures.belongs

pub returns-clause-notes : goal.returns-clause-notes
returns-clause-notes c =
    let s = c.args.seat.now in let m = c.args.mutex in let f = c.carried_load-carried in
    noted_deep s f.new.seat c.carried_store.new.seat m c.requires.noted.0 c.args.depth c.pack_link-number.result f.ensures.knows c.requires.noted.1
    (c.pack_link-number.ensures
    ∙ (λ i. (c.args.depth - 1) * 65536 + (c.unpack_link-oldest.ensures.holds i).next)
    ∙ kept_first c.requires.noted.0 f.result (first_seat (popped_of s m)) c.args.depth (f.ensures.finds ∙ ap (λ k. k.carried) c.requires.noted.1) (first_below (popped_of s m) f.ensures.within))
    c.carried_store.ensures.notes
