use Rattle.lfm_table.specs.declared.operations.Access.{Access}
use Rattle.lfm_pool.proofs.Steps.{required}
use Rattle.lfm_pool.proofs.step.step_at.Goals as goal

pub load-requires : goal.load-requires
load-requires g c =
    let b = g.B.OneMutex in let r = c.requires in
    required c.args.pool.now c.args.seat.now c.args.mutex b.mutex b.state b.hand b.slots c.args.access (Access.Load c.in-Load.field-0) c.in-Load.is r.one r.table r.inside r.can r.elsewhere r.is_next r.chained

pub store-requires : goal.store-requires
store-requires g c =
    let b = g.B.OneMutex in let r = c.requires in
    required c.args.pool.now c.args.seat.now c.args.mutex b.mutex b.state b.hand b.slots c.args.access (Access.Store c.in-Store.field-0 c.in-Store.new) c.in-Store.is r.one r.table r.inside r.can r.elsewhere r.is_next r.chained

pub fetch_add-requires : goal.fetch_add-requires
fetch_add-requires g c =
    let b = g.B.OneMutex in let r = c.requires in
    required c.args.pool.now c.args.seat.now c.args.mutex b.mutex b.state b.hand b.slots c.args.access (Access.FetchAdd c.in-FetchAdd.field-0 c.in-FetchAdd.k) c.in-FetchAdd.is r.one r.table r.inside r.can r.elsewhere r.is_next r.chained

pub fetch_sub-requires : goal.fetch_sub-requires
fetch_sub-requires g c =
    let b = g.B.OneMutex in let r = c.requires in
    required c.args.pool.now c.args.seat.now c.args.mutex b.mutex b.state b.hand b.slots c.args.access (Access.FetchSub c.in-FetchSub.field-0 c.in-FetchSub.k) c.in-FetchSub.is r.one r.table r.inside r.can r.elsewhere r.is_next r.chained

pub fetch_and-requires : goal.fetch_and-requires
fetch_and-requires g c =
    let b = g.B.OneMutex in let r = c.requires in
    required c.args.pool.now c.args.seat.now c.args.mutex b.mutex b.state b.hand b.slots c.args.access (Access.FetchAnd c.in-FetchAnd.field-0 c.in-FetchAnd.k) c.in-FetchAnd.is r.one r.table r.inside r.can r.elsewhere r.is_next r.chained

pub compare_exchange-requires : goal.compare_exchange-requires
compare_exchange-requires g c =
    let b = g.B.OneMutex in let r = c.requires in
    required c.args.pool.now c.args.seat.now c.args.mutex b.mutex b.state b.hand b.slots c.args.access (Access.CompareExchange c.in-CompareExchange.field-0 c.in-CompareExchange.old c.in-CompareExchange.new) c.in-CompareExchange.is r.one r.table r.inside r.can r.elsewhere r.is_next r.chained
