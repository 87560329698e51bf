-- A seat without the number of the post that it has loaded, or with another count of its posts: it is the same seat for all
-- that is said of a mutex.
use Rattle.std.proofs.Common.{◌≡◌, ℕ, sym}
use Rattle.atomic_table.specs.Table.{Me}
use Rattle.lfm_pool.specs.declared.pool.Pool.{Pool}
use Rattle.lfm_pool.specs.declared.pool.TableSeat.{TableSeat}
use Rattle.lfm_pool.specs.declared.view.PoolView.{PoolView}
use Rattle.lfm_pool.specs.Belongs.{SameSeat}
use Rattle.lfm_pool.specs.Handoff.{forgetting, forgotten, recounted}
use Rattle.lfm_pool.specs.Moves.{MayStepIn}

module _ (t : TableSeat) (p : Pool) (m : ℕ) where
  pub may_forgotten : MayStepIn t p m → MayStepIn (forgotten t) p m
  may_forgotten may = record {
    belongs = record { table = may.belongs.table; parts = may.belongs.parts };
    mutex = may.mutex;
    sits = may.sits;
    elsewhere = may.elsewhere;
  }

  pub may_remember : MayStepIn (forgotten t) p m → MayStepIn t p m
  may_remember may = record {
    belongs = record { table = may.belongs.table; parts = may.belongs.parts };
    mutex = may.mutex;
    sits = may.sits;
    elsewhere = may.elsewhere;
  }

  pub may_recounted : (k : ℕ) → MayStepIn t p m → MayStepIn (recounted t k) p m
  may_recounted k may = record {
    belongs = record { table = may.belongs.table; parts = may.belongs.parts };
    mutex = may.mutex;
    sits = may.sits;
    elsewhere = may.elsewhere;
  }

module _ (s t : TableSeat) (same : SameSeat s t) where
  pub same_forgotten : SameSeat s (forgotten t)
  same_forgotten = record { table = same.table; id = same.id; number = same.number; parts = same.parts }

  pub forgotten_same : SameSeat (forgotten s) t
  forgotten_same = record { table = same.table; id = same.id; number = same.number; parts = same.parts }

  pub recounted_same : (k : ℕ) → SameSeat (recounted s k) t
  recounted_same k = record { table = same.table; id = same.id; number = same.number; parts = same.parts }

-- a seat that remembers no number forgets none
pub forgets_none : (me : Me ℕ PoolView) → me.0.found ≡ 0 → forgetting me ≡ me
forgets_none me none = λ i. (record me.0 { found = sym none i }, me.1)
