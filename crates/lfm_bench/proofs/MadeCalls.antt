-- A run of calls at mutexes of a pool grows by one call.
use Rattle.std.proofs.Common.{◌≡◌, ◌≤◌, ◌+◌, ℕ, subst, sym, add-one, arith}
use Rattle.lfm_pool.specs.declared.pool.Pool.{Pool}
use Rattle.lfm_pool.specs.declared.seat.PoolSeat.{PoolSeat}
use Rattle.lfm_bench.specs.PoolCalls.{MakesOften}

-- If all k calls before were counted, and one more is counted, all have done what they should.
pub one_more : (makes : PoolSeat → PoolSeat → Pool → ℕ → Type 0) (done more k m : ℕ) (s u t : PoolSeat) (p : Pool)
    → done ≤ k → more ≤ 1 → (done ≡ k → MakesOften makes k s u p) → (more ≡ 1 → makes u t p m)
    → done + more ≡ k + 1 → MakesOften makes (k + 1) s t p
one_more makes done more k m s u t p few one before last e =
    let all : done ≡ k = omega arith in
    let counted : more ≡ 1 = omega arith in
    subst (λ n. MakesOften makes n s t p) (sym (add-one k)) (u, m, before all, last counted)
