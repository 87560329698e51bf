use Rattle.std.proofs.Common.{◌∙◌, ap, sym, subst}
use Rattle.lfm_pool.specs.declared.pool.Pool.{Pool}
use Rattle.lfm_pool.specs.NewSeats.{AreFreeSeats}
use Rattle.lfm_c.proofs.PoolOpening.{fits}
use Rattle.lfm_c.proofs.pool_open.opened.Goals as goal

pub invariant_of-result : goal.invariant_of-result
invariant_of-result c = record { are_free = ∣ subst (λ (p : Pool). AreFreeSeats c.in_ok-pool.free p) (sym c.in-Ok.ensures.ok) c.in_ok-pool.ensures.free.0 ∣₁ }

pub returns-clause-ok : goal.returns-clause-ok
returns-clause-ok c =
    let is = c.in-Ok.ensures.ok in let new = c.in_ok-pool.ensures in (
      (
        ap (λ (p : Pool). p.mutexes) is ∙ new.pool.0,
        ap (λ (p : Pool). p.limits) is ∙ new.pool.1,
        (subst (λ (p : Pool). AreFreeSeats c.in_ok-pool.free p) (sym is) new.free.0, new.free.1),
      ),
      fits _ (λ no. (new.limit no).1),
    )
