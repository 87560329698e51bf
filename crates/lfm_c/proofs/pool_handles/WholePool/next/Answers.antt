use Rattle.std.proofs.Common.{sym}
use Rattle.std.specs.Arc.{arc_value}
use Rattle.lfm_c.proofs.FreeSeats.{free}
use Rattle.lfm_c.proofs.pool_handles.WholePool.next.Goals as goal

pub seated-seated-requires : goal.seated-seated-requires
seated-seated-requires c =
    let w = c.args.self.now in record { free = free w.free c.in-Some.free (arc_value w.pool) (arc_value c.in-Ok.pool) w.are_free (sym c.in-Some.ensures.value) c.in-Ok.ensures }
