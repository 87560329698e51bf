use Rattle.std.proofs.Common.{ap, sym, ◌∙◌, subst}
use Rattle.lfm_words.specs.declared.pop_lists.Record.{Record}
use Rattle.lfm_pool.specs.Belongs.{OfPool}
use Rattle.lfm_pool.specs.Releasing.{GrantsNextIn}
use Rattle.lfm_pool.specs.Tables.{note}
use Rattle.lfm_pool.proofs.Unlocking.{cleared_elsewhere, cleared_loads, cleared_none, cleared_sits, cleared_whole, clears, collected_elsewhere, collected_grants, collected_rest, collected_sits, found_none, granted_collected, granted_popped, grants_from, none_from, none_popped, rests_too, serves_popped, serving_carries, serving_oldest, serving_too, sits_too, whole_too}
use Rattle.lfm_pool.proofs.serve.serve.Goals as goal

pub carried_load-oldest-requires-clause-carries : goal.carried_load-oldest-requires-clause-carries
carried_load-oldest-requires-clause-carries c =
    serving_carries c.args.pool.now c.args.seat.now c.args.mutex c.args.carrier c.requires.unlocks c.requires.sits c.requires.at c.requires.whole

pub serve_oldest-requires-clause-belongs : goal.serve_oldest-requires-clause-belongs
serve_oldest-requires-clause-belongs c =
    let l = c.carried_load-oldest in let p = c.args.pool.now in let s = c.args.seat.now in let t = l.new.seat in let m = c.args.mutex in
    record { table = l.ensures.belongs.table ∙ c.requires.belongs.table; parts = l.ensures.belongs.parts ∙ c.requires.belongs.parts }

pub serve_oldest-requires-clause-sits : goal.serve_oldest-requires-clause-sits
serve_oldest-requires-clause-sits c =
    let l = c.carried_load-oldest in let p = c.args.pool.now in let s = c.args.seat.now in let t = l.new.seat in let m = c.args.mutex in
    sits_too p s t m l.ensures.belongs l.ensures.knows c.requires.sits

pub serve_oldest-requires-clause-elsewhere : goal.serve_oldest-requires-clause-elsewhere
serve_oldest-requires-clause-elsewhere c =
    let l = c.carried_load-oldest in let p = c.args.pool.now in let s = c.args.seat.now in let t = l.new.seat in let m = c.args.mutex in
    rests_too p s t m l.ensures.belongs l.ensures.knows c.requires.elsewhere

pub clear_head-word-requires-clause-belongs : goal.clear_head-word-requires-clause-belongs
clear_head-word-requires-clause-belongs c =
    let l = c.carried_load-oldest in let p = c.args.pool.now in let s = c.args.seat.now in let t = l.new.seat in let m = c.args.mutex in
    record { table = l.ensures.belongs.table ∙ c.requires.belongs.table; parts = l.ensures.belongs.parts ∙ c.requires.belongs.parts }

pub clear_head-word-requires-clause-sits : goal.clear_head-word-requires-clause-sits
clear_head-word-requires-clause-sits c =
    let l = c.carried_load-oldest in let p = c.args.pool.now in let s = c.args.seat.now in let t = l.new.seat in let m = c.args.mutex in
    sits_too p s t m l.ensures.belongs l.ensures.knows c.requires.sits

pub clear_head-word-requires-clause-elsewhere : goal.clear_head-word-requires-clause-elsewhere
clear_head-word-requires-clause-elsewhere c =
    let l = c.carried_load-oldest in let p = c.args.pool.now in let s = c.args.seat.now in let t = l.new.seat in let m = c.args.mutex in
    rests_too p s t m l.ensures.belongs l.ensures.knows c.requires.elsewhere

pub serve_oldest-requires-clause-at : goal.serve_oldest-requires-clause-at
serve_oldest-requires-clause-at c =
    let l = c.carried_load-oldest in let p = c.args.pool.now in let s = c.args.seat.now in let t = l.new.seat in let m = c.args.mutex in
    let sits = sits_too p s t m l.ensures.belongs l.ensures.knows c.requires.sits in let at = serving_too p s t m l.ensures.belongs l.ensures.knows c.args.carrier c.requires.at in let whole = whole_too p s t m l.ensures.belongs l.ensures.knows c.requires.whole in
    let found = l.ensures.finds ∙ ap (λ z. (note z.0 m).carried) (sym l.ensures.knows) in
    serves_popped p t m c.args.carrier c.requires.unlocks sits at whole l.result found c.if-oldest-ne0.true

pub serve_oldest-requires-clause-whole : goal.serve_oldest-requires-clause-whole
serve_oldest-requires-clause-whole c =
    let l = c.carried_load-oldest in let p = c.args.pool.now in let s = c.args.seat.now in let t = l.new.seat in let m = c.args.mutex in
    whole_too p s t m l.ensures.belongs l.ensures.knows c.requires.whole

pub serve_oldest-requires-clause-oldest : goal.serve_oldest-requires-clause-oldest
serve_oldest-requires-clause-oldest c =
    let l = c.carried_load-oldest in let p = c.args.pool.now in let s = c.args.seat.now in let t = l.new.seat in let m = c.args.mutex in
    let sits = sits_too p s t m l.ensures.belongs l.ensures.knows c.requires.sits in let at = serving_too p s t m l.ensures.belongs l.ensures.knows c.args.carrier c.requires.at in let whole = whole_too p s t m l.ensures.belongs l.ensures.knows c.requires.whole in
    let found = l.ensures.finds ∙ ap (λ z. (note z.0 m).carried) (sym l.ensures.knows) in
    serving_oldest p t m c.args.carrier c.requires.unlocks sits at whole l.result found

pub returns-then-oldest-ne0-clause-belongs : goal.returns-then-oldest-ne0-clause-belongs
returns-then-oldest-ne0-clause-belongs c =
    let a = c.carried_load-oldest.ensures.belongs in let b = c.serve_oldest.ensures.belongs in
    record { table = b.table ∙ a.table; id = b.id ∙ a.id; number = b.number ∙ a.number; parts = b.parts ∙ a.parts }

pub returns-then-oldest-ne0-clause-grants : goal.returns-then-oldest-ne0-clause-grants
returns-then-oldest-ne0-clause-grants c =
    let l = c.carried_load-oldest in let p = c.args.pool.now in let s = c.args.seat.now in let t = l.new.seat in let m = c.args.mutex in
    let sits = sits_too p s t m l.ensures.belongs l.ensures.knows c.requires.sits in let at = serving_too p s t m l.ensures.belongs l.ensures.knows c.args.carrier c.requires.at in let whole = whole_too p s t m l.ensures.belongs l.ensures.knows c.requires.whole in
    let d = c.serve_oldest in
    grants_from p s t m l.ensures.belongs l.ensures.knows c.args.carrier d.new.seat d.result (granted_popped p t m c.args.carrier c.requires.unlocks sits at whole d.new.seat d.result d.ensures.oldest d.ensures.grants)

pub clear_head-word-requires-clause-at : goal.clear_head-word-requires-clause-at
clear_head-word-requires-clause-at c =
    let l = c.carried_load-oldest in let p = c.args.pool.now in let s = c.args.seat.now in let t = l.new.seat in let m = c.args.mutex in
    let sits = sits_too p s t m l.ensures.belongs l.ensures.knows c.requires.sits in let at = serving_too p s t m l.ensures.belongs l.ensures.knows c.args.carrier c.requires.at in let whole = whole_too p s t m l.ensures.belongs l.ensures.knows c.requires.whole in
    let found = l.ensures.finds ∙ ap (λ z. (note z.0 m).carried) (sym l.ensures.knows) in
    let zero = none_popped p t m c.args.carrier c.requires.unlocks sits at whole l.result found c.if-oldest-ne0.false in
    clears p t m c.args.carrier c.requires.unlocks sits at whole zero

pub returns-then-head-eq0-clause-belongs : goal.returns-then-head-eq0-clause-belongs
returns-then-head-eq0-clause-belongs c =
    let a = c.carried_load-oldest.ensures.belongs in let b = c.clear_head-word.ensures.belongs in
    record { table = b.table ∙ a.table; id = b.id ∙ a.id; number = b.number ∙ a.number; parts = b.parts ∙ a.parts }

pub returns-then-head-eq0-clause-none : goal.returns-then-head-eq0-clause-none
returns-then-head-eq0-clause-none c =
    let l = c.carried_load-oldest in let p = c.args.pool.now in let s = c.args.seat.now in let t = l.new.seat in let m = c.args.mutex in
    let sits = sits_too p s t m l.ensures.belongs l.ensures.knows c.requires.sits in let at = serving_too p s t m l.ensures.belongs l.ensures.knows c.args.carrier c.requires.at in let whole = whole_too p s t m l.ensures.belongs l.ensures.knows c.requires.whole in
    let found = l.ensures.finds ∙ ap (λ z. (note z.0 m).carried) (sym l.ensures.knows) in
    let belongs : OfPool t p = record { table = l.ensures.belongs.table ∙ c.requires.belongs.table; parts = l.ensures.belongs.parts ∙ c.requires.belongs.parts } in
    let zero = none_popped p t m c.args.carrier c.requires.unlocks sits at whole l.result found c.if-oldest-ne0.false in
    let w = c.clear_head-word in
    let u = c.unpack_link-cleared in let head_is = ap (λ x. x.next) u.ensures.holds in
    λ e. none_from p s t m l.ensures.belongs l.ensures.knows c.args.carrier w.new.seat (found_none p t m c.args.carrier c.requires.unlocks sits at whole c.requires.mutex belongs zero w.new.seat w.result w.ensures.belongs w.ensures.step (sym head_is ∙ c.if-head-eq0.true))

pub collect-record-requires-clause-belongs : goal.collect-record-requires-clause-belongs
collect-record-requires-clause-belongs c =
    let a = c.carried_load-oldest.ensures.belongs in let b = c.clear_head-word.ensures.belongs in
    record { table = b.table ∙ a.table ∙ c.requires.belongs.table; parts = b.parts ∙ a.parts ∙ c.requires.belongs.parts }

pub collect-record-requires-clause-sits : goal.collect-record-requires-clause-sits
collect-record-requires-clause-sits c =
    let l = c.carried_load-oldest in let p = c.args.pool.now in let s = c.args.seat.now in let t = l.new.seat in let m = c.args.mutex in
    let sits = sits_too p s t m l.ensures.belongs l.ensures.knows c.requires.sits in let at = serving_too p s t m l.ensures.belongs l.ensures.knows c.args.carrier c.requires.at in let whole = whole_too p s t m l.ensures.belongs l.ensures.knows c.requires.whole in
    let found = l.ensures.finds ∙ ap (λ z. (note z.0 m).carried) (sym l.ensures.knows) in
    let belongs : OfPool t p = record { table = l.ensures.belongs.table ∙ c.requires.belongs.table; parts = l.ensures.belongs.parts ∙ c.requires.belongs.parts } in
    let zero = none_popped p t m c.args.carrier c.requires.unlocks sits at whole l.result found c.if-oldest-ne0.false in
    let w = c.clear_head-word in
    cleared_sits p t m c.args.carrier c.requires.unlocks sits at whole c.requires.mutex belongs zero w.new.seat w.result w.ensures.belongs w.ensures.step

pub collect-record-requires-clause-elsewhere : goal.collect-record-requires-clause-elsewhere
collect-record-requires-clause-elsewhere c =
    let l = c.carried_load-oldest in let p = c.args.pool.now in let s = c.args.seat.now in let t = l.new.seat in let m = c.args.mutex in
    let sits = sits_too p s t m l.ensures.belongs l.ensures.knows c.requires.sits in let at = serving_too p s t m l.ensures.belongs l.ensures.knows c.args.carrier c.requires.at in let whole = whole_too p s t m l.ensures.belongs l.ensures.knows c.requires.whole in
    let found = l.ensures.finds ∙ ap (λ z. (note z.0 m).carried) (sym l.ensures.knows) in
    let belongs : OfPool t p = record { table = l.ensures.belongs.table ∙ c.requires.belongs.table; parts = l.ensures.belongs.parts ∙ c.requires.belongs.parts } in
    let zero = none_popped p t m c.args.carrier c.requires.unlocks sits at whole l.result found c.if-oldest-ne0.false in
    let w = c.clear_head-word in
    cleared_elsewhere p t m c.args.carrier c.requires.unlocks sits at whole c.requires.mutex belongs zero w.new.seat w.result w.ensures.belongs w.ensures.step (rests_too p s t m l.ensures.belongs l.ensures.knows c.requires.elsewhere)

pub collect-record-requires-clause-at : goal.collect-record-requires-clause-at
collect-record-requires-clause-at c =
    let l = c.carried_load-oldest in let p = c.args.pool.now in let s = c.args.seat.now in let t = l.new.seat in let m = c.args.mutex in
    let sits = sits_too p s t m l.ensures.belongs l.ensures.knows c.requires.sits in let at = serving_too p s t m l.ensures.belongs l.ensures.knows c.args.carrier c.requires.at in let whole = whole_too p s t m l.ensures.belongs l.ensures.knows c.requires.whole in
    let found = l.ensures.finds ∙ ap (λ z. (note z.0 m).carried) (sym l.ensures.knows) in
    let belongs : OfPool t p = record { table = l.ensures.belongs.table ∙ c.requires.belongs.table; parts = l.ensures.belongs.parts ∙ c.requires.belongs.parts } in
    let zero = none_popped p t m c.args.carrier c.requires.unlocks sits at whole l.result found c.if-oldest-ne0.false in
    let w = c.clear_head-word in
    let u = c.unpack_link-cleared in let head_is = ap (λ x. x.next) u.ensures.holds in
    cleared_loads p t m c.args.carrier c.requires.unlocks sits at whole c.requires.mutex belongs zero w.new.seat w.result w.ensures.belongs w.ensures.step u.result.next head_is c.if-head-eq0.false

pub collect-record-requires-clause-none : goal.collect-record-requires-clause-none
collect-record-requires-clause-none c =
    let l = c.carried_load-oldest in let p = c.args.pool.now in let s = c.args.seat.now in let t = l.new.seat in let m = c.args.mutex in
    let sits = sits_too p s t m l.ensures.belongs l.ensures.knows c.requires.sits in let at = serving_too p s t m l.ensures.belongs l.ensures.knows c.args.carrier c.requires.at in let whole = whole_too p s t m l.ensures.belongs l.ensures.knows c.requires.whole in
    let found = l.ensures.finds ∙ ap (λ z. (note z.0 m).carried) (sym l.ensures.knows) in
    let belongs : OfPool t p = record { table = l.ensures.belongs.table ∙ c.requires.belongs.table; parts = l.ensures.belongs.parts ∙ c.requires.belongs.parts } in
    let zero = none_popped p t m c.args.carrier c.requires.unlocks sits at whole l.result found c.if-oldest-ne0.false in
    let w = c.clear_head-word in
    cleared_none p t m c.args.carrier c.requires.unlocks sits at whole c.requires.mutex belongs zero w.new.seat w.result w.ensures.belongs w.ensures.step

pub collect-record-requires-clause-whole : goal.collect-record-requires-clause-whole
collect-record-requires-clause-whole c =
    let l = c.carried_load-oldest in let p = c.args.pool.now in let s = c.args.seat.now in let t = l.new.seat in let m = c.args.mutex in
    let sits = sits_too p s t m l.ensures.belongs l.ensures.knows c.requires.sits in let at = serving_too p s t m l.ensures.belongs l.ensures.knows c.args.carrier c.requires.at in let whole = whole_too p s t m l.ensures.belongs l.ensures.knows c.requires.whole in
    let found = l.ensures.finds ∙ ap (λ z. (note z.0 m).carried) (sym l.ensures.knows) in
    let belongs : OfPool t p = record { table = l.ensures.belongs.table ∙ c.requires.belongs.table; parts = l.ensures.belongs.parts ∙ c.requires.belongs.parts } in
    let zero = none_popped p t m c.args.carrier c.requires.unlocks sits at whole l.result found c.if-oldest-ne0.false in
    let w = c.clear_head-word in
    cleared_whole p t m c.args.carrier c.requires.unlocks sits at whole c.requires.mutex belongs zero w.new.seat w.result w.ensures.belongs w.ensures.step

pub grant-requires-clause-belongs : goal.grant-requires-clause-belongs
grant-requires-clause-belongs c =
    let a = c.carried_load-oldest.ensures.belongs in let b = c.clear_head-word.ensures.belongs in let d = c.collect-record.ensures.belongs in
    record { table = d.table ∙ b.table ∙ a.table ∙ c.requires.belongs.table; parts = d.parts ∙ b.parts ∙ a.parts ∙ c.requires.belongs.parts }

pub grant-requires-clause-sits : goal.grant-requires-clause-sits
grant-requires-clause-sits c =
    let l = c.carried_load-oldest in let p = c.args.pool.now in let s = c.args.seat.now in let t = l.new.seat in let m = c.args.mutex in
    let sits = sits_too p s t m l.ensures.belongs l.ensures.knows c.requires.sits in let at = serving_too p s t m l.ensures.belongs l.ensures.knows c.args.carrier c.requires.at in let whole = whole_too p s t m l.ensures.belongs l.ensures.knows c.requires.whole in
    let found = l.ensures.finds ∙ ap (λ z. (note z.0 m).carried) (sym l.ensures.knows) in
    let belongs : OfPool t p = record { table = l.ensures.belongs.table ∙ c.requires.belongs.table; parts = l.ensures.belongs.parts ∙ c.requires.belongs.parts } in
    let zero = none_popped p t m c.args.carrier c.requires.unlocks sits at whole l.result found c.if-oldest-ne0.false in
    let w = c.clear_head-word in
    let u = c.unpack_link-cleared in let head_is = ap (λ x. x.next) u.ensures.holds in
    let k = c.collect-record in
    collected_sits p t m c.args.carrier c.requires.unlocks sits at whole c.requires.mutex belongs zero w.new.seat w.result w.ensures.belongs w.ensures.step u.result.next head_is c.if-head-eq0.false k.new.seat k.result k.ensures.belongs k.ensures.collects

pub grant-requires-clause-elsewhere : goal.grant-requires-clause-elsewhere
grant-requires-clause-elsewhere c =
    let l = c.carried_load-oldest in let p = c.args.pool.now in let s = c.args.seat.now in let t = l.new.seat in let m = c.args.mutex in
    let sits = sits_too p s t m l.ensures.belongs l.ensures.knows c.requires.sits in let at = serving_too p s t m l.ensures.belongs l.ensures.knows c.args.carrier c.requires.at in let whole = whole_too p s t m l.ensures.belongs l.ensures.knows c.requires.whole in
    let found = l.ensures.finds ∙ ap (λ z. (note z.0 m).carried) (sym l.ensures.knows) in
    let belongs : OfPool t p = record { table = l.ensures.belongs.table ∙ c.requires.belongs.table; parts = l.ensures.belongs.parts ∙ c.requires.belongs.parts } in
    let zero = none_popped p t m c.args.carrier c.requires.unlocks sits at whole l.result found c.if-oldest-ne0.false in
    let w = c.clear_head-word in
    let u = c.unpack_link-cleared in let head_is = ap (λ x. x.next) u.ensures.holds in
    let k = c.collect-record in
    collected_elsewhere p t m c.args.carrier c.requires.unlocks sits at whole c.requires.mutex belongs zero w.new.seat w.result w.ensures.belongs w.ensures.step u.result.next head_is c.if-head-eq0.false k.new.seat k.result k.ensures.belongs k.ensures.collects (rests_too p s t m l.ensures.belongs l.ensures.knows c.requires.elsewhere)

pub grant-requires-clause-at : goal.grant-requires-clause-at
grant-requires-clause-at c =
    let l = c.carried_load-oldest in let p = c.args.pool.now in let s = c.args.seat.now in let t = l.new.seat in let m = c.args.mutex in
    let sits = sits_too p s t m l.ensures.belongs l.ensures.knows c.requires.sits in let at = serving_too p s t m l.ensures.belongs l.ensures.knows c.args.carrier c.requires.at in let whole = whole_too p s t m l.ensures.belongs l.ensures.knows c.requires.whole in
    let found = l.ensures.finds ∙ ap (λ z. (note z.0 m).carried) (sym l.ensures.knows) in
    let belongs : OfPool t p = record { table = l.ensures.belongs.table ∙ c.requires.belongs.table; parts = l.ensures.belongs.parts ∙ c.requires.belongs.parts } in
    let zero = none_popped p t m c.args.carrier c.requires.unlocks sits at whole l.result found c.if-oldest-ne0.false in
    let w = c.clear_head-word in
    let u = c.unpack_link-cleared in let head_is = ap (λ x. x.next) u.ensures.holds in
    let k = c.collect-record in
    collected_grants p t m c.args.carrier c.requires.unlocks sits at whole c.requires.mutex belongs zero w.new.seat w.result w.ensures.belongs w.ensures.step u.result.next head_is c.if-head-eq0.false k.new.seat k.result k.ensures.belongs k.ensures.collects

pub grant-requires-clause-whole : goal.grant-requires-clause-whole
grant-requires-clause-whole c =
    let l = c.carried_load-oldest in let p = c.args.pool.now in let s = c.args.seat.now in let t = l.new.seat in let m = c.args.mutex in
    let sits = sits_too p s t m l.ensures.belongs l.ensures.knows c.requires.sits in let at = serving_too p s t m l.ensures.belongs l.ensures.knows c.args.carrier c.requires.at in let whole = whole_too p s t m l.ensures.belongs l.ensures.knows c.requires.whole in
    let found = l.ensures.finds ∙ ap (λ z. (note z.0 m).carried) (sym l.ensures.knows) in
    let belongs : OfPool t p = record { table = l.ensures.belongs.table ∙ c.requires.belongs.table; parts = l.ensures.belongs.parts ∙ c.requires.belongs.parts } in
    let zero = none_popped p t m c.args.carrier c.requires.unlocks sits at whole l.result found c.if-oldest-ne0.false in
    let w = c.clear_head-word in
    let u = c.unpack_link-cleared in let head_is = ap (λ x. x.next) u.ensures.holds in
    let k = c.collect-record in
    collected_rest p t m c.args.carrier c.requires.unlocks sits at whole c.requires.mutex belongs zero w.new.seat w.result w.ensures.belongs w.ensures.step u.result.next head_is c.if-head-eq0.false k.new.seat k.result k.ensures.belongs k.ensures.collects

pub returns-clause-belongs : goal.returns-clause-belongs
returns-clause-belongs c =
    let a = c.carried_load-oldest.ensures.belongs in let b = c.clear_head-word.ensures.belongs in let d = c.collect-record.ensures.belongs in let e = c.grant.ensures.belongs in
    record { table = e.table ∙ d.table ∙ b.table ∙ a.table; id = e.id ∙ d.id ∙ b.id ∙ a.id; number = e.number ∙ d.number ∙ b.number ∙ a.number; parts = e.parts ∙ d.parts ∙ b.parts ∙ a.parts }

pub returns-clause-grants : goal.returns-clause-grants
returns-clause-grants c =
    let l = c.carried_load-oldest in let p = c.args.pool.now in let s = c.args.seat.now in let t = l.new.seat in let m = c.args.mutex in
    let sits = sits_too p s t m l.ensures.belongs l.ensures.knows c.requires.sits in let at = serving_too p s t m l.ensures.belongs l.ensures.knows c.args.carrier c.requires.at in let whole = whole_too p s t m l.ensures.belongs l.ensures.knows c.requires.whole in
    let found = l.ensures.finds ∙ ap (λ z. (note z.0 m).carried) (sym l.ensures.knows) in
    let belongs : OfPool t p = record { table = l.ensures.belongs.table ∙ c.requires.belongs.table; parts = l.ensures.belongs.parts ∙ c.requires.belongs.parts } in
    let zero = none_popped p t m c.args.carrier c.requires.unlocks sits at whole l.result found c.if-oldest-ne0.false in
    let w = c.clear_head-word in
    let u = c.unpack_link-cleared in let head_is = ap (λ x. x.next) u.ensures.holds in
    let k = c.collect-record in
    subst (λ (r : Record). GrantsNextIn c.args.carrier s c.grant.new.seat p m r) (sym c.grant.ensures.owes)
    (grants_from p s t m l.ensures.belongs l.ensures.knows c.args.carrier c.grant.new.seat k.result (granted_collected p t m c.args.carrier c.requires.unlocks sits at whole c.requires.mutex belongs zero w.new.seat w.result w.ensures.belongs w.ensures.step u.result.next head_is c.if-head-eq0.false k.new.seat k.result k.ensures.belongs k.ensures.collects c.grant.new.seat c.grant.ensures.step))
