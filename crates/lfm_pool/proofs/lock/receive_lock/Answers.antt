use Rattle.std.proofs.Common.{arith, subst, Option, Ok}
use Rattle.lfm_model.specs.declared.answers.How.{How}
use Rattle.lfm_pool.specs.Calls.{Receives}
use Rattle.lfm_pool.proofs.Waits.{has_number, has_waited, is_refused, waits_on}
use Rattle.lfm_pool.proofs.lock.receive_lock.Goals as goal

pub wake_at-word-requires-clause-number : goal.wake_at-word-requires-clause-number
wake_at-word-requires-clause-number g c =
    let number = has_number c.args.seat.now c.args.pool.now c.args.mutex c.requires.between c.requires.mutex in
    (number.low, omega (arith, number.high, c.args.pool.now.few.0))

pub receives-preserved : goal.receives-preserved
receives-preserved g c =
    let h = c.try_receive in
    let none = c.in-Ok-None in
    waits_on c.args.seat.now c.args.pool.now c.args.mutex c.receives.seat h.new.seat c.receives.invariant h.ensures.belongs h.ensures.between
    (subst (λ (o : Option How). Receives (Ok o) c.receives.seat h.new.seat c.args.pool.now c.args.mutex) none.field-0-is none.ensures.receives)

pub returns-in-Ok-Some-clause-awaits : goal.returns-in-Ok-Some-clause-awaits
returns-in-Ok-Some-clause-awaits g c =
    let h = c.try_receive in
    let some = c.in-Ok-Some in
    has_waited c.args.seat.now c.args.pool.now c.args.mutex c.receives.seat h.new.seat c.receives.invariant some.how
    (subst (λ (o : Option How). Receives (Ok o) c.receives.seat h.new.seat c.args.pool.now c.args.mutex) some.field-0-is some.ensures.receives)

pub returns-in-Err-clause-awaits : goal.returns-in-Err-clause-awaits
returns-in-Err-clause-awaits g c =
    let h = c.try_receive in
    is_refused c.args.seat.now c.args.pool.now c.args.mutex c.receives.seat h.new.seat c.receives.invariant c.in-Err.refusal c.in-Err.ensures.receives
