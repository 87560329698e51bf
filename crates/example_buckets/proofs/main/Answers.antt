use Rattle.std.proofs.Common.{sym, subst}
use Rattle.lfm_pool.specs.Calls.{IsBetweenCalls}
use Rattle.example_buckets.specs.declared.Table.{Table}
use Rattle.example_buckets.proofs.main.Goals as goal

-- each thread is given a seat that has made no call
pub share-requires-after_bounds : goal.share-requires-after_bounds
share-requires-after_bounds g c κs j s at b is = subst (λ (t : Table). IsBetweenCalls s t.pool) (sym is) (c.in_ok-pool.ensures.seats.1 j s at).1
