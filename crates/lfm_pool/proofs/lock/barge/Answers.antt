use Rattle.std.proofs.Common.{arith, Err}
use Rattle.std.proofs.lemmas.Bool.{false≢true}
use Rattle.lfm_model.specs.declared.refusals.Refusal.{Refusal}
use Rattle.lfm_pool.proofs.Waits.{barges_by_lock, barges_by_try, tries_fewer, tries_join, when_busy}
use Rattle.lfm_pool.proofs.lock.barge.Goals as goal

pub returns-then-not-is_busy-clause-barges : goal.returns-then-not-is_busy-clause-barges
returns-then-not-is_busy-clause-barges g c =
    let p = c.args.pool.now in let m = c.args.mutex in let s = c.args.seat.now in let h = c.spin-spun in let t = h.new.seat in
    barges_by_try p m 15 s t h.result (tries_fewer p m 11 15 s t h.result (omega arith) h.ensures.tries) (λ same. false≢true (c.if-not-is_busy.ensures.1 same))

pub returns-then-not-is_busy-2-clause-barges : goal.returns-then-not-is_busy-2-clause-barges
returns-then-not-is_busy-2-clause-barges g c =
    let p = c.args.pool.now in let m = c.args.mutex in let s = c.args.seat.now in let h = c.spin-spun in let t = h.new.seat in
    let k = c.nap-napped in let u = k.new.seat in
    barges_by_try p m 15 s u k.result
    (tries_join p m 11 4 15 s t u k.result (omega arith) (when_busy p m 11 s t h.result c.if-not-is_busy.ensures h.ensures.tries) k.ensures.tries)
    (λ same. false≢true (c.if-not-is_busy-2.ensures.1 same))

pub returns-clause-barges : goal.returns-clause-barges
returns-clause-barges g c =
    let p = c.args.pool.now in let m = c.args.mutex in let s = c.args.seat.now in let h = c.spin-spun in let t = h.new.seat in
    let k = c.nap-napped in let u = k.new.seat in
    barges_by_lock p m 15 s c.lock.new.seat c.lock.result u
    (tries_join p m 11 4 15 s t u (Err Refusal.Busy) (omega arith) (when_busy p m 11 s t h.result c.if-not-is_busy.ensures h.ensures.tries) (when_busy p m 4 t u k.result c.if-not-is_busy-2.ensures k.ensures.tries))
    c.lock.ensures.locks
