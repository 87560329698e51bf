use Rattle.std.proofs.Common.{inl, subst, Ok}
use Rattle.lfm_model.specs.declared.answers.Asked.{Asked}
use Rattle.lfm_pool.specs.Calls.{AsksWaking}
use Rattle.lfm_pool.proofs.Waits.{locks_asleep, locks_refused}
use Rattle.lfm_pool.proofs.lock.lock.Goals as goal

pub returns-in_err-how-clause-locks : goal.returns-in_err-how-clause-locks
returns-in_err-how-clause-locks g c =
    locks_refused c.args.seat.now c.ask.new.seat c.args.pool.now c.args.mutex c.in_err-how.field-0.0 c.from_residual.result c.from_residual.ensures.1 c.in_err-how.ensures.asks

pub returns-in-Held-clause-locks : goal.returns-in-Held-clause-locks
returns-in-Held-clause-locks g c =
    let s = c.args.seat.now in let t = c.ask.new.seat in let p = c.args.pool.now in let m = c.args.mutex in
    inl (subst (λ (a : Asked). AsksWaking (Ok a) s t p m) c.in-Held.is c.in_ok-how.ensures.asks)

pub returns-in-Again-clause-locks : goal.returns-in-Again-clause-locks
returns-in-Again-clause-locks g c =
    let s = c.args.seat.now in let t = c.ask.new.seat in let p = c.args.pool.now in let m = c.args.mutex in
    subst (λ (a : Asked). AsksWaking (Ok a) s t p m) c.in-Again.is c.in_ok-how.ensures.asks

pub returns-in_ok-receive_lock-in-Asleep-clause-locks : goal.returns-in_ok-receive_lock-in-Asleep-clause-locks
returns-in_ok-receive_lock-in-Asleep-clause-locks g c =
    let s = c.args.seat.now in let t = c.ask.new.seat in let p = c.args.pool.now in let m = c.args.mutex in let granted = c.in_ok-receive_lock-in-Asleep in
    locks_asleep s t c.receive_lock.new.seat p m granted.field-0 (subst (λ (a : Asked). AsksWaking (Ok a) s t p m) c.in-Asleep.is c.in_ok-how.ensures.asks) granted.ensures.awaits
