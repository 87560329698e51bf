use Rattle.std.proofs.Common.{ap, arith, length}
use Rattle.lfm_laws.proofs.lawful.read.QueueRead.{queue_few}
use Rattle.lfm_core.proofs.stepped.State.gather.Goals as goal

pub gather-requires : goal.gather-requires
gather-requires c =
    omega (arith, c.requires, queue_few c.self.inside.machine c.self.invariant.0, ap (λ m. length m.seats) c.self.view_is)
