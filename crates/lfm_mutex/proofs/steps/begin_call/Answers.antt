use Rattle.lfm_table.proofs.tables.Started.{begun}
use Rattle.lfm_mutex.proofs.steps.begin_call.Goals as goal

pub invariant_of-seat : goal.invariant_of-seat
invariant_of-seat g c = let s = c.args.seat.now in let b = begun s.table_seat.number s.table_seat.place.table_id.words s.table_seat.place.id s.table_seat.limits s.state c.begin.new.self s.table_seat.place.me s.table_seat.moving s.seated s.became s.ready s.rooted c.args.call c.begin.ensures.seat in
    record { seated = b.seated; became = b.became; ready = b.ready; rooted = s.rooted }
