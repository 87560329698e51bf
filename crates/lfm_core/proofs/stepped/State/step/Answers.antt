use Rattle.std.proofs.Common.{rules, arith}
use Rattle.lfm_laws.specs.laws.Schedules.{makes}
use Rattle.lfm_laws.proofs.lawful.bounds.CallsEnd.{steady_step}
use Rattle.lfm_laws.proofs.lawful.runs.LimitsKept.{budget-happens}
use Rattle.lfm_laws.proofs.lawful.states.RangesRead.{steps_have_room_in_limits}
use Rattle.lfm_core.proofs.stepped.State.step.Goals as goal

pub step-requires : goal.step-requires
step-requires c = λ is. (steps_have_room_in_limits c.self.inside.machine c.self.invariant.0 c.self.invariant.1).1 c.args.s is

pub invariant_of-self : goal.invariant_of-self
invariant_of-self c =
    let same = budget-happens c.self.inside.machine (makes c.args.s) in
    rw c.step.ensures.core (steady_step c.self.inside.machine c.args.s c.self.invariant.0, omega (arith, same, c.self.invariant.1))

pub returns-clause-turn : goal.returns-clause-turn
returns-clause-turn c = search rules
