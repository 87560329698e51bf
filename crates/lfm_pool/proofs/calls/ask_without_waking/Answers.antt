use Rattle.std.proofs.Common.{rules, ◌≡◌, ◌∙◌, None, sym, subst}
use Rattle.std.specs.Prelude.{Ok}
use Rattle.lfm_model.specs.declared.answers.Asked.{Asked}
use Rattle.lfm_pool.specs.declared.seat.PoolSeat.{PoolSeat}
use Rattle.lfm_pool.specs.Calls.{IsBetweenCalls}
use Rattle.lfm_pool.proofs.BetweenCalls.{asked_again, asked_asleep, asked_held, ask_refused}
use Rattle.lfm_pool.proofs.calls.ask_without_waking.Goals as goal
use Rattle.lfm_pool.proofs.calls.ask_without_waking.Goals.{in-Ok-Held, in-Ok-Asleep, in-Ok-Again, in-Err}

pub returns-clause-between : goal.returns-clause-between
returns-clause-between c =
    let k = c.ask-asked in let e = k.ensures in
    let awake : c.args.seat.now.asleep_in ≡ None = search rules in
    elim c.match-asked.branch [
      | in-Ok-Held w ↦
          let inner : w.in-Ok-Held.field-0 ≡ Asked.Held w.in-Ok-Held.field-0-0 = rw w.in-Ok-Held.is at w.in-Ok-Held.field-0-is in
          let is : k.result.0 ≡ Ok (Asked.Held w.in-Ok-Held.field-0-0) = w.in-Ok-Held.is ∙ (λ i. Ok (inner i)) in
          subst (λ (x : PoolSeat). IsBetweenCalls x c.args.pool.now) (sym w.seat-is)
          (asked_held c.args.seat.now k.new.seat c.args.pool.now c.args.mutex c.requires.between c.requires.mutex awake k.result.0 k.result.1 w.in-Ok-Held.field-0-0 is e.placed e.asks c.has_take-has_take.result c.has_take-has_take.ensures e.refuses)
      | in-Ok-Asleep w ↦
          let inner : w.in-Ok-Asleep.field-0 ≡ Asked.Asleep = rw w.in-Ok-Asleep.is at w.in-Ok-Asleep.field-0-is in
          let is : k.result.0 ≡ Ok Asked.Asleep = w.in-Ok-Asleep.is ∙ (λ i. Ok (inner i)) in
          subst (λ (x : PoolSeat). IsBetweenCalls x c.args.pool.now) (sym w.seat-is)
          (asked_asleep c.args.seat.now k.new.seat c.args.pool.now c.args.mutex c.requires.between c.requires.mutex awake k.result.0 k.result.1 is e.placed e.asks c.has_take-has_take.result c.has_take-has_take.ensures e.refuses)
      | in-Ok-Again w ↦
          let inner : w.in-Ok-Again.field-0 ≡ Asked.Again w.in-Ok-Again.field-0-0 = rw w.in-Ok-Again.is at w.in-Ok-Again.field-0-is in
          let is : k.result.0 ≡ Ok (Asked.Again w.in-Ok-Again.field-0-0) = w.in-Ok-Again.is ∙ (λ i. Ok (inner i)) in
          subst (λ (x : PoolSeat). IsBetweenCalls x c.args.pool.now) (sym w.seat-is)
          (asked_again c.args.seat.now k.new.seat c.args.pool.now c.args.mutex c.requires.between c.requires.mutex awake k.result.0 k.result.1 w.in-Ok-Again.field-0-0 is e.placed e.asks)
      | in-Err w ↦
          subst (λ (x : PoolSeat). IsBetweenCalls x c.args.pool.now) (sym w.seat-is)
          (ask_refused c.args.seat.now k.new.seat c.args.pool.now c.args.mutex c.requires.between c.requires.mutex awake k.result.0 k.result.1 _ w.in-Err.is e.placed e.asks)
    ]
