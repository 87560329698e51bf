use Rattle.std.proofs.Common.{ℕ, ap, sym, ◌∙◌}
use Rattle.atomic_table.specs.Table.{Me}
use Rattle.lfm_pool.specs.declared.finish_ask.Finished.{Finished}
use Rattle.lfm_pool.specs.declared.view.PoolView.{PoolView}
use Rattle.lfm_pool.specs.Tables.{note}
use Rattle.lfm_pool.proofs.Finishing.{clears_next, enters_own, finish_bounded, finishes_from, granted_other, grants_other, may_finished, may_too, none_popped, ready_finished, takes_too, taking_carries, taking_oldest, whole_too}
use Rattle.lfm_pool.proofs.SeveralSteps.{same_then}
use Rattle.lfm_pool.proofs.finish_ask.finish_ask.Goals as goal

pub carried_load-oldest-requires-clause-carries : goal.carried_load-oldest-requires-clause-carries
carried_load-oldest-requires-clause-carries c = taking_carries c.args.seat.now c.args.pool.now c.args.mutex c.requires.may c.requires.takes c.requires.whole

pub serve_pushed-requires-clause-may : goal.serve_pushed-requires-clause-may
serve_pushed-requires-clause-may c = let s = c.args.seat.now in let p = c.args.pool.now in let m = c.args.mutex in let r = c.requires in let f = c.carried_load-oldest in let t = f.new.seat in let may = may_too s t p m f.ensures.belongs f.ensures.knows r.may in let takes = takes_too s t p m f.ensures.belongs f.ensures.knows r.takes in let whole = whole_too s t p m f.ensures.belongs f.ensures.knows r.whole in let e = f.ensures.finds ∙ ap (λ (z : Me ℕ PoolView). (note z.0 m).carried) (sym f.ensures.knows) in may

pub serve_pushed-requires-clause-clears : goal.serve_pushed-requires-clause-clears
serve_pushed-requires-clause-clears c = let s = c.args.seat.now in let p = c.args.pool.now in let m = c.args.mutex in let r = c.requires in let f = c.carried_load-oldest in let t = f.new.seat in let may = may_too s t p m f.ensures.belongs f.ensures.knows r.may in let takes = takes_too s t p m f.ensures.belongs f.ensures.knows r.takes in let whole = whole_too s t p m f.ensures.belongs f.ensures.knows r.whole in let e = f.ensures.finds ∙ ap (λ (z : Me ℕ PoolView). (note z.0 m).carried) (sym f.ensures.knows) in clears_next t p m may takes whole (none_popped t p m may takes whole f.result e c.if-oldest-eq0.true)

pub serve_pushed-requires-clause-none : goal.serve_pushed-requires-clause-none
serve_pushed-requires-clause-none c = let s = c.args.seat.now in let p = c.args.pool.now in let m = c.args.mutex in let r = c.requires in let f = c.carried_load-oldest in let t = f.new.seat in let may = may_too s t p m f.ensures.belongs f.ensures.knows r.may in let takes = takes_too s t p m f.ensures.belongs f.ensures.knows r.takes in let whole = whole_too s t p m f.ensures.belongs f.ensures.knows r.whole in let e = f.ensures.finds ∙ ap (λ (z : Me ℕ PoolView). (note z.0 m).carried) (sym f.ensures.knows) in none_popped t p m may takes whole f.result e c.if-oldest-eq0.true

pub serve_pushed-requires-clause-whole : goal.serve_pushed-requires-clause-whole
serve_pushed-requires-clause-whole c = let s = c.args.seat.now in let p = c.args.pool.now in let m = c.args.mutex in let r = c.requires in let f = c.carried_load-oldest in let t = f.new.seat in let may = may_too s t p m f.ensures.belongs f.ensures.knows r.may in let takes = takes_too s t p m f.ensures.belongs f.ensures.knows r.takes in let whole = whole_too s t p m f.ensures.belongs f.ensures.knows r.whole in let e = f.ensures.finds ∙ ap (λ (z : Me ℕ PoolView). (note z.0 m).carried) (sym f.ensures.knows) in whole

pub enter_popped-stamp-requires-clause-may : goal.enter_popped-stamp-requires-clause-may
enter_popped-stamp-requires-clause-may c = let s = c.args.seat.now in let p = c.args.pool.now in let m = c.args.mutex in let r = c.requires in let f = c.carried_load-oldest in let t = f.new.seat in let may = may_too s t p m f.ensures.belongs f.ensures.knows r.may in let takes = takes_too s t p m f.ensures.belongs f.ensures.knows r.takes in let whole = whole_too s t p m f.ensures.belongs f.ensures.knows r.whole in let e = f.ensures.finds ∙ ap (λ (z : Me ℕ PoolView). (note z.0 m).carried) (sym f.ensures.knows) in may

pub enter_popped-stamp-requires-clause-own : goal.enter_popped-stamp-requires-clause-own
enter_popped-stamp-requires-clause-own c = let s = c.args.seat.now in let p = c.args.pool.now in let m = c.args.mutex in let r = c.requires in let f = c.carried_load-oldest in let t = f.new.seat in let may = may_too s t p m f.ensures.belongs f.ensures.knows r.may in let takes = takes_too s t p m f.ensures.belongs f.ensures.knows r.takes in let whole = whole_too s t p m f.ensures.belongs f.ensures.knows r.whole in let e = f.ensures.finds ∙ ap (λ (z : Me ℕ PoolView). (note z.0 m).carried) (sym f.ensures.knows) in enters_own t p m may takes whole f.result e c.if-oldest-eq0.false c.if-oldest-number.true

pub enter_popped-stamp-requires-clause-whole : goal.enter_popped-stamp-requires-clause-whole
enter_popped-stamp-requires-clause-whole c = let s = c.args.seat.now in let p = c.args.pool.now in let m = c.args.mutex in let r = c.requires in let f = c.carried_load-oldest in let t = f.new.seat in let may = may_too s t p m f.ensures.belongs f.ensures.knows r.may in let takes = takes_too s t p m f.ensures.belongs f.ensures.knows r.takes in let whole = whole_too s t p m f.ensures.belongs f.ensures.knows r.whole in let e = f.ensures.finds ∙ ap (λ (z : Me ℕ PoolView). (note z.0 m).carried) (sym f.ensures.knows) in whole

pub serve_oldest-requires-clause-belongs : goal.serve_oldest-requires-clause-belongs
serve_oldest-requires-clause-belongs c = let s = c.args.seat.now in let p = c.args.pool.now in let m = c.args.mutex in let r = c.requires in let f = c.carried_load-oldest in let t = f.new.seat in let may = may_too s t p m f.ensures.belongs f.ensures.knows r.may in let takes = takes_too s t p m f.ensures.belongs f.ensures.knows r.takes in let whole = whole_too s t p m f.ensures.belongs f.ensures.knows r.whole in let e = f.ensures.finds ∙ ap (λ (z : Me ℕ PoolView). (note z.0 m).carried) (sym f.ensures.knows) in may.belongs

pub serve_oldest-requires-clause-sits : goal.serve_oldest-requires-clause-sits
serve_oldest-requires-clause-sits c = let s = c.args.seat.now in let p = c.args.pool.now in let m = c.args.mutex in let r = c.requires in let f = c.carried_load-oldest in let t = f.new.seat in let may = may_too s t p m f.ensures.belongs f.ensures.knows r.may in let takes = takes_too s t p m f.ensures.belongs f.ensures.knows r.takes in let whole = whole_too s t p m f.ensures.belongs f.ensures.knows r.whole in let e = f.ensures.finds ∙ ap (λ (z : Me ℕ PoolView). (note z.0 m).carried) (sym f.ensures.knows) in may.sits

pub serve_oldest-requires-clause-elsewhere : goal.serve_oldest-requires-clause-elsewhere
serve_oldest-requires-clause-elsewhere c = let s = c.args.seat.now in let p = c.args.pool.now in let m = c.args.mutex in let r = c.requires in let f = c.carried_load-oldest in let t = f.new.seat in let may = may_too s t p m f.ensures.belongs f.ensures.knows r.may in let takes = takes_too s t p m f.ensures.belongs f.ensures.knows r.takes in let whole = whole_too s t p m f.ensures.belongs f.ensures.knows r.whole in let e = f.ensures.finds ∙ ap (λ (z : Me ℕ PoolView). (note z.0 m).carried) (sym f.ensures.knows) in may.elsewhere

pub serve_oldest-requires-clause-at : goal.serve_oldest-requires-clause-at
serve_oldest-requires-clause-at c = let s = c.args.seat.now in let p = c.args.pool.now in let m = c.args.mutex in let r = c.requires in let f = c.carried_load-oldest in let t = f.new.seat in let may = may_too s t p m f.ensures.belongs f.ensures.knows r.may in let takes = takes_too s t p m f.ensures.belongs f.ensures.knows r.takes in let whole = whole_too s t p m f.ensures.belongs f.ensures.knows r.whole in let e = f.ensures.finds ∙ ap (λ (z : Me ℕ PoolView). (note z.0 m).carried) (sym f.ensures.knows) in grants_other t p m may takes whole f.result e c.if-oldest-eq0.false c.if-oldest-number.false

pub serve_oldest-requires-clause-whole : goal.serve_oldest-requires-clause-whole
serve_oldest-requires-clause-whole c = let s = c.args.seat.now in let p = c.args.pool.now in let m = c.args.mutex in let r = c.requires in let f = c.carried_load-oldest in let t = f.new.seat in let may = may_too s t p m f.ensures.belongs f.ensures.knows r.may in let takes = takes_too s t p m f.ensures.belongs f.ensures.knows r.takes in let whole = whole_too s t p m f.ensures.belongs f.ensures.knows r.whole in let e = f.ensures.finds ∙ ap (λ (z : Me ℕ PoolView). (note z.0 m).carried) (sym f.ensures.knows) in whole

pub serve_oldest-requires-clause-oldest : goal.serve_oldest-requires-clause-oldest
serve_oldest-requires-clause-oldest c = let s = c.args.seat.now in let p = c.args.pool.now in let m = c.args.mutex in let r = c.requires in let f = c.carried_load-oldest in let t = f.new.seat in let may = may_too s t p m f.ensures.belongs f.ensures.knows r.may in let takes = takes_too s t p m f.ensures.belongs f.ensures.knows r.takes in let whole = whole_too s t p m f.ensures.belongs f.ensures.knows r.whole in let e = f.ensures.finds ∙ ap (λ (z : Me ℕ PoolView). (note z.0 m).carried) (sym f.ensures.knows) in taking_oldest t p m may takes whole f.result e

pub returns-then-oldest-eq0-clause-belongs : goal.returns-then-oldest-eq0-clause-belongs
returns-then-oldest-eq0-clause-belongs c = let s = c.args.seat.now in let p = c.args.pool.now in let m = c.args.mutex in let f = c.carried_load-oldest in let u = c.serve_pushed.new.seat in let same = same_then s f.new.seat u f.ensures.belongs c.serve_pushed.ensures.belongs in same

pub returns-then-oldest-eq0-clause-finishes : goal.returns-then-oldest-eq0-clause-finishes
returns-then-oldest-eq0-clause-finishes c = let s = c.args.seat.now in let p = c.args.pool.now in let m = c.args.mutex in let r = c.requires in let f = c.carried_load-oldest in let t = f.new.seat in let may = may_too s t p m f.ensures.belongs f.ensures.knows r.may in let takes = takes_too s t p m f.ensures.belongs f.ensures.knows r.takes in let whole = whole_too s t p m f.ensures.belongs f.ensures.knows r.whole in let e = f.ensures.finds ∙ ap (λ (z : Me ℕ PoolView). (note z.0 m).carried) (sym f.ensures.knows) in finishes_from s t p m f.ensures.belongs f.ensures.knows c.serve_pushed.new.seat c.serve_pushed.result c.serve_pushed.ensures.finishes

pub returns-then-oldest-eq0-clause-may : goal.returns-then-oldest-eq0-clause-may
returns-then-oldest-eq0-clause-may c = let s = c.args.seat.now in let p = c.args.pool.now in let m = c.args.mutex in let f = c.carried_load-oldest in let u = c.serve_pushed.new.seat in let same = same_then s f.new.seat u f.ensures.belongs c.serve_pushed.ensures.belongs in may_finished s u p m c.requires.may same c.serve_pushed.result (returns-then-oldest-eq0-clause-finishes c)

pub returns-then-oldest-eq0-clause-ready : goal.returns-then-oldest-eq0-clause-ready
returns-then-oldest-eq0-clause-ready c = let s = c.args.seat.now in let p = c.args.pool.now in let m = c.args.mutex in let f = c.carried_load-oldest in let u = c.serve_pushed.new.seat in let same = same_then s f.new.seat u f.ensures.belongs c.serve_pushed.ensures.belongs in ready_finished s u p m c.requires.may same c.serve_pushed.result (returns-then-oldest-eq0-clause-finishes c)

pub returns-then-oldest-eq0-clause-bounded : goal.returns-then-oldest-eq0-clause-bounded
returns-then-oldest-eq0-clause-bounded c = let s = c.args.seat.now in let p = c.args.pool.now in let m = c.args.mutex in let f = c.carried_load-oldest in let u = c.serve_pushed.new.seat in let same = same_then s f.new.seat u f.ensures.belongs c.serve_pushed.ensures.belongs in finish_bounded s u p m c.requires.may c.serve_pushed.result (returns-then-oldest-eq0-clause-finishes c)

pub returns-then-oldest-number-clause-belongs : goal.returns-then-oldest-number-clause-belongs
returns-then-oldest-number-clause-belongs c = let s = c.args.seat.now in let p = c.args.pool.now in let m = c.args.mutex in let f = c.carried_load-oldest in let u = c.enter_popped-stamp.new.seat in let same = same_then s f.new.seat u f.ensures.belongs c.enter_popped-stamp.ensures.belongs in same

pub returns-then-oldest-number-clause-finishes : goal.returns-then-oldest-number-clause-finishes
returns-then-oldest-number-clause-finishes c = let s = c.args.seat.now in let p = c.args.pool.now in let m = c.args.mutex in let r = c.requires in let f = c.carried_load-oldest in let t = f.new.seat in let may = may_too s t p m f.ensures.belongs f.ensures.knows r.may in let takes = takes_too s t p m f.ensures.belongs f.ensures.knows r.takes in let whole = whole_too s t p m f.ensures.belongs f.ensures.knows r.whole in let e = f.ensures.finds ∙ ap (λ (z : Me ℕ PoolView). (note z.0 m).carried) (sym f.ensures.knows) in finishes_from s t p m f.ensures.belongs f.ensures.knows c.enter_popped-stamp.new.seat (Finished.Held c.enter_popped-stamp.result) c.enter_popped-stamp.ensures.finishes

pub returns-then-oldest-number-clause-may : goal.returns-then-oldest-number-clause-may
returns-then-oldest-number-clause-may c = let s = c.args.seat.now in let p = c.args.pool.now in let m = c.args.mutex in let f = c.carried_load-oldest in let u = c.enter_popped-stamp.new.seat in let same = same_then s f.new.seat u f.ensures.belongs c.enter_popped-stamp.ensures.belongs in may_finished s u p m c.requires.may same (Finished.Held c.enter_popped-stamp.result) (returns-then-oldest-number-clause-finishes c)

pub returns-then-oldest-number-clause-ready : goal.returns-then-oldest-number-clause-ready
returns-then-oldest-number-clause-ready c = let s = c.args.seat.now in let p = c.args.pool.now in let m = c.args.mutex in let f = c.carried_load-oldest in let u = c.enter_popped-stamp.new.seat in let same = same_then s f.new.seat u f.ensures.belongs c.enter_popped-stamp.ensures.belongs in ready_finished s u p m c.requires.may same (Finished.Held c.enter_popped-stamp.result) (returns-then-oldest-number-clause-finishes c)

pub returns-then-oldest-number-clause-bounded : goal.returns-then-oldest-number-clause-bounded
returns-then-oldest-number-clause-bounded c = let s = c.args.seat.now in let p = c.args.pool.now in let m = c.args.mutex in let f = c.carried_load-oldest in let u = c.enter_popped-stamp.new.seat in let same = same_then s f.new.seat u f.ensures.belongs c.enter_popped-stamp.ensures.belongs in finish_bounded s u p m c.requires.may (Finished.Held c.enter_popped-stamp.result) (returns-then-oldest-number-clause-finishes c)

pub returns-clause-belongs : goal.returns-clause-belongs
returns-clause-belongs c = let s = c.args.seat.now in let p = c.args.pool.now in let m = c.args.mutex in let f = c.carried_load-oldest in let u = c.serve_oldest.new.seat in let same = same_then s f.new.seat u f.ensures.belongs c.serve_oldest.ensures.belongs in same

pub returns-clause-finishes : goal.returns-clause-finishes
returns-clause-finishes c = let s = c.args.seat.now in let p = c.args.pool.now in let m = c.args.mutex in let r = c.requires in let f = c.carried_load-oldest in let t = f.new.seat in let may = may_too s t p m f.ensures.belongs f.ensures.knows r.may in let takes = takes_too s t p m f.ensures.belongs f.ensures.knows r.takes in let whole = whole_too s t p m f.ensures.belongs f.ensures.knows r.whole in let e = f.ensures.finds ∙ ap (λ (z : Me ℕ PoolView). (note z.0 m).carried) (sym f.ensures.knows) in finishes_from s t p m f.ensures.belongs f.ensures.knows c.serve_oldest.new.seat (Finished.Granted c.serve_oldest.result) (granted_other t p m may takes whole f.result e c.if-oldest-eq0.false c.if-oldest-number.false c.serve_oldest.new.seat c.serve_oldest.result c.serve_oldest.ensures.oldest c.serve_oldest.ensures.grants)

pub returns-clause-may : goal.returns-clause-may
returns-clause-may c = let s = c.args.seat.now in let p = c.args.pool.now in let m = c.args.mutex in let f = c.carried_load-oldest in let u = c.serve_oldest.new.seat in let same = same_then s f.new.seat u f.ensures.belongs c.serve_oldest.ensures.belongs in may_finished s u p m c.requires.may same (Finished.Granted c.serve_oldest.result) (returns-clause-finishes c)

pub returns-clause-ready : goal.returns-clause-ready
returns-clause-ready c = let s = c.args.seat.now in let p = c.args.pool.now in let m = c.args.mutex in let f = c.carried_load-oldest in let u = c.serve_oldest.new.seat in let same = same_then s f.new.seat u f.ensures.belongs c.serve_oldest.ensures.belongs in ready_finished s u p m c.requires.may same (Finished.Granted c.serve_oldest.result) (returns-clause-finishes c)

pub returns-clause-bounded : goal.returns-clause-bounded
returns-clause-bounded c = let s = c.args.seat.now in let p = c.args.pool.now in let m = c.args.mutex in let f = c.carried_load-oldest in let u = c.serve_oldest.new.seat in let same = same_then s f.new.seat u f.ensures.belongs c.serve_oldest.ensures.belongs in finish_bounded s u p m c.requires.may (Finished.Granted c.serve_oldest.result) (returns-clause-finishes c)
