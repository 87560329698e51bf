use Rattle.lfm_table.specs.declared.operations.Access.{Access}
use Rattle.lfm_table.specs.Rule.{value_in}
use Rattle.lfm_table.proofs.tables.ByKind.{by_kind}
use Rattle.lfm_table.proofs.shared_table.operate.operate.Goals as goal

pub load-requires-clause-allowed : goal.load-requires-clause-allowed
load-requires-clause-allowed g c κs within = let e = c.in-Load.ensures in
    by_kind g.T.Kept.follows g.T.Kept.fits c.args.table.now.table_id.slots c.args.seat.now.place.id c.args.seat.now.place.me g.B.Plain.state c.args.state.now g.B.Plain.hand (value_in c.args.seat.now.moving) c.args.seat.now.number c.args.seat.now.limits.seats c.args.table.now.table_id.words
    c.requires.plain.0 c.requires.plain.1 c.requires.can g.O.Operation.kind c.requires.is_next (Access.Load c.in-Load.word) e.word e.becomes e.stores

pub store-requires-clause-allowed : goal.store-requires-clause-allowed
store-requires-clause-allowed g c κs within = let e = c.in-Store.ensures in
    by_kind g.T.Kept.follows g.T.Kept.fits c.args.table.now.table_id.slots c.args.seat.now.place.id c.args.seat.now.place.me g.B.Plain.state c.args.state.now g.B.Plain.hand (value_in c.args.seat.now.moving) c.args.seat.now.number c.args.seat.now.limits.seats c.args.table.now.table_id.words
    c.requires.plain.0 c.requires.plain.1 c.requires.can g.O.Operation.kind c.requires.is_next (Access.Store c.in-Store.word c.in-Store.new) e.word e.becomes e.stores

pub fetch_add-requires-clause-allowed : goal.fetch_add-requires-clause-allowed
fetch_add-requires-clause-allowed g c κs within = let e = c.in-FetchAdd.ensures in
    by_kind g.T.Kept.follows g.T.Kept.fits c.args.table.now.table_id.slots c.args.seat.now.place.id c.args.seat.now.place.me g.B.Plain.state c.args.state.now g.B.Plain.hand (value_in c.args.seat.now.moving) c.args.seat.now.number c.args.seat.now.limits.seats c.args.table.now.table_id.words
    c.requires.plain.0 c.requires.plain.1 c.requires.can g.O.Operation.kind c.requires.is_next (Access.FetchAdd c.in-FetchAdd.word c.in-FetchAdd.number) e.word e.becomes e.stores

pub fetch_sub-requires-clause-allowed : goal.fetch_sub-requires-clause-allowed
fetch_sub-requires-clause-allowed g c κs within = let e = c.in-FetchSub.ensures in
    by_kind g.T.Kept.follows g.T.Kept.fits c.args.table.now.table_id.slots c.args.seat.now.place.id c.args.seat.now.place.me g.B.Plain.state c.args.state.now g.B.Plain.hand (value_in c.args.seat.now.moving) c.args.seat.now.number c.args.seat.now.limits.seats c.args.table.now.table_id.words
    c.requires.plain.0 c.requires.plain.1 c.requires.can g.O.Operation.kind c.requires.is_next (Access.FetchSub c.in-FetchSub.word c.in-FetchSub.number) e.word e.becomes e.stores

pub fetch_and-requires-clause-allowed : goal.fetch_and-requires-clause-allowed
fetch_and-requires-clause-allowed g c κs within = let e = c.in-FetchAnd.ensures in
    by_kind g.T.Kept.follows g.T.Kept.fits c.args.table.now.table_id.slots c.args.seat.now.place.id c.args.seat.now.place.me g.B.Plain.state c.args.state.now g.B.Plain.hand (value_in c.args.seat.now.moving) c.args.seat.now.number c.args.seat.now.limits.seats c.args.table.now.table_id.words
    c.requires.plain.0 c.requires.plain.1 c.requires.can g.O.Operation.kind c.requires.is_next (Access.FetchAnd c.in-FetchAnd.word c.in-FetchAnd.mask) e.word e.becomes e.stores

pub compare_exchange-requires-clause-allowed : goal.compare_exchange-requires-clause-allowed
compare_exchange-requires-clause-allowed g c κs within = let e = c.in-CompareExchange.ensures in
    by_kind g.T.Kept.follows g.T.Kept.fits c.args.table.now.table_id.slots c.args.seat.now.place.id c.args.seat.now.place.me g.B.Plain.state c.args.state.now g.B.Plain.hand (value_in c.args.seat.now.moving) c.args.seat.now.number c.args.seat.now.limits.seats c.args.table.now.table_id.words
    c.requires.plain.0 c.requires.plain.1 c.requires.can g.O.Operation.kind c.requires.is_next (Access.CompareExchange c.in-CompareExchange.word c.in-CompareExchange.old c.in-CompareExchange.new) e.word e.becomes e.stores
