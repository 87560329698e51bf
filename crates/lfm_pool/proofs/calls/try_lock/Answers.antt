use Rattle.std.proofs.Common.{rules, ◌≡◌, ◌∙◌, None}
use Rattle.std.specs.Prelude.{Ok}
use Rattle.lfm_model.specs.declared.answers.Locked.{Locked}
use Rattle.lfm_pool.proofs.BetweenCalls.{tried_again, tried_held, try_refused}
use Rattle.lfm_pool.proofs.calls.try_lock.Goals as goal

pub returns-in-Ok-Held-clause-between : goal.returns-in-Ok-Held-clause-between
returns-in-Ok-Held-clause-between c =
    let k = c.try_lock-locked in let e = k.ensures in
    let awake : c.args.seat.now.asleep_in ≡ None = search rules in
    let inner : c.in-Ok-Held.field-0 ≡ Locked.Held c.in-Ok-Held.field-0-0 = rw c.in-Ok-Held.is at c.in-Ok-Held.field-0-is in
    let is : k.result ≡ Ok (Locked.Held c.in-Ok-Held.field-0-0) = c.in-Ok-Held.is ∙ (λ i. Ok (inner i)) in
    tried_held c.args.seat.now k.new.seat c.args.pool.now c.args.mutex c.requires.between c.requires.mutex awake k.result c.in-Ok-Held.field-0-0 is e.rest e.tries c.has_take-has_take.result c.has_take-has_take.ensures e.refuses

pub returns-in-Ok-Again-clause-between : goal.returns-in-Ok-Again-clause-between
returns-in-Ok-Again-clause-between c =
    let k = c.try_lock-locked in let e = k.ensures in
    let awake : c.args.seat.now.asleep_in ≡ None = search rules in
    let inner : c.in-Ok-Again.field-0 ≡ Locked.Again c.in-Ok-Again.field-0-0 = rw c.in-Ok-Again.is at c.in-Ok-Again.field-0-is in
    let is : k.result ≡ Ok (Locked.Again c.in-Ok-Again.field-0-0) = c.in-Ok-Again.is ∙ (λ i. Ok (inner i)) in
    tried_again c.args.seat.now k.new.seat c.args.pool.now c.args.mutex c.requires.between c.requires.mutex awake k.result c.in-Ok-Again.field-0-0 is e.rest e.tries

pub returns-in-Err-clause-between : goal.returns-in-Err-clause-between
returns-in-Err-clause-between c =
    let k = c.try_lock-locked in let e = k.ensures in
    let awake : c.args.seat.now.asleep_in ≡ None = search rules in
    try_refused c.args.seat.now k.new.seat c.args.pool.now c.args.mutex c.requires.between c.requires.mutex awake k.result _ c.in-Err.is e.rest e.tries
