use Rattle.std.proofs.Common.{sym, ◌∙◌, subst, arith}
use Rattle.lfm_monitor.specs.Belongs.{conditions_in, plain_conditions_in}
use Rattle.lfm_monitor.specs.CondSeats.{AreConditions}
use Rattle.lfm_monitor.specs.PlainSeats.{ArePlainConditions}
use Rattle.lfm_monitor.proofs.Paces.{still_conditions, still_of_monitor, still_plain_conditions}
use Rattle.lfm_monitor.proofs.monitor.Monitor.set_pace.Goals as goal

pub invariant_of-self-clause-wide : goal.invariant_of-self-clause-wide
invariant_of-self-clause-wide g c = let m = c.args.self.now in
    still_conditions c.set_pace.new.self.limits.seats (conditions_in m) _ c.set_paces.ensures.same (subst (λ l. AreConditions l.seats (conditions_in m)) (sym c.set_pace.ensures.same.1) m.wide)

pub invariant_of-self-clause-plain_wide : goal.invariant_of-self-clause-plain_wide
invariant_of-self-clause-plain_wide g c = let m = c.args.self.now in
    still_plain_conditions c.set_pace.new.self.limits.seats (plain_conditions_in m) _ c.set_plain_paces.ensures.same (subst (λ l. ArePlainConditions l.seats (plain_conditions_in m)) (sym c.set_pace.ensures.same.1) m.plain_wide)

-- all conditions have the pace of the mutex
pub invariant_of-self-clause-paced : goal.invariant_of-self-clause-paced
invariant_of-self-clause-paced g c = λ j v at. c.set_paces.ensures.paced j v at ∙ sym c.set_pace.ensures.pace

pub invariant_of-self-clause-plain_paced : goal.invariant_of-self-clause-plain_paced
invariant_of-self-clause-plain_paced g c = λ j v at. c.set_plain_paces.ensures.paced j v at ∙ sym c.set_pace.ensures.pace

pub returns-clause-belongs : goal.returns-clause-belongs
returns-clause-belongs g c = λ p of. still_of_monitor p c.args.self.now c.set_pace.new.self _ _ c.set_pace.ensures.same.0 c.set_pace.ensures.same.1 c.set_paces.ensures.same c.set_plain_paces.ensures.same of
