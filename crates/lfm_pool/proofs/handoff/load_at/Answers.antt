use Rattle.std.proofs.Common.{arith}
use Rattle.lfm_pool.proofs.HandoffSteps.{load_required}
use Rattle.lfm_pool.proofs.handoff.load_at.Goals as goal

pub own_at-index-requires : goal.own_at-index-requires
own_at-index-requires g c = let less = c.requires.inside.0 in let few = c.args.pool.now.few.1 in omega (arith, less, few)

pub load-requires : goal.load-requires
load-requires g c =
    let b = g.B.OneMutex in let r = c.requires in
    load_required c.args.pool.now c.args.seat.now c.args.mutex b.mutex b.state b.hand b.slots c.own_at-index.result r.one r.now r.table r.inside r.can r.elsewhere c.own_at-index.ensures r.at
