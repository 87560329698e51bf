use Rattle.std.proofs.Common.{arith}
use Rattle.lfm_pool.proofs.HandoffSteps.{exchange_required}
use Rattle.lfm_pool.proofs.handoff.exchange_at.Goals as goal

pub own_at-index-requires : goal.own_at-index-requires
own_at-index-requires g c = let less = c.requires.inside.0 in let few = c.args.pool.now.few.1 in omega (arith, less, few)

pub compare_exchange-requires : goal.compare_exchange-requires
compare_exchange-requires g c =
    let b = g.B.OneMutex in let r = c.requires in
    exchange_required c.args.pool.now c.args.seat.now c.args.mutex b.mutex b.state b.hand b.slots c.own_at-index.result r.one.0 r.now r.table r.inside r.can r.elsewhere c.own_at-index.ensures c.args.post b.number b.expected r.one.1 r.one.2 r.at r.expected
