use Rattle.std.proofs.Common.{arith}
use Rattle.lfm_laws.specs.laws.Schedules.{begins}
use Rattle.lfm_laws.proofs.lawful.runs.LimitsKept.{budget-happens}
use Rattle.lfm_laws.proofs.steady.Begins.{begin_keeps}
use Rattle.lfm_core.proofs.stepped.State.begin.Goals as goal

pub invariant_of-self : goal.invariant_of-self
invariant_of-self c =
    let steady = c.self.invariant.0 in
    let same = budget-happens c.self.inside.machine (begins c.args.s c.args.call) in
    rw c.begin.ensures.core (
      record {
        ghost_state = steady.ghost_state;
        fits = begin_keeps c.self.inside.machine steady.ghost_state c.args.s c.args.call steady.fits;
      },
      omega (arith, same, c.self.invariant.1),
    )
