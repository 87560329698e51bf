use Rattle.std.proofs.lemmas.List.Elements.{All-pop}
use Rattle.lfm_pool.specs.Calls.{IsBetweenCalls}
use Rattle.lfm_bench.proofs.peers.pools.last_pool_seat.Goals as goal

pub returns-clause-one : goal.returns-clause-one
returns-clause-one c = (All-pop (λ s. IsBetweenCalls s c.args.pool.now) _ _ _ c.pop.ensures.items c.requires).1

pub returns-clause-rest : goal.returns-clause-rest
returns-clause-rest c = (All-pop (λ s. IsBetweenCalls s c.args.pool.now) _ _ _ c.pop.ensures.items c.requires).0
