use Rattle.std.proofs.Common.{refl, subst, inr, Result}
use Rattle.lfm_model.specs.declared.answers.Locked.{Locked}
use Rattle.lfm_model.specs.declared.refusals.Refusal.{Refusal}
use Rattle.lfm_pool.specs.Calls.{Tries}
use Rattle.lfm_pool.proofs.lock.lock_barging.Goals as goal

pub returns-clause-barges : goal.returns-clause-barges
returns-clause-barges g c =
    let h = c.try_lock-tried in let t = h.new.seat in
    let busy = subst (λ (x : Result Locked Refusal). Tries x c.args.seat.now t c.args.pool.now c.args.mutex) (c.if-not-is_busy.ensures.0 refl) h.ensures.tries in
    inr (t, busy, c.barge.ensures.barges)
