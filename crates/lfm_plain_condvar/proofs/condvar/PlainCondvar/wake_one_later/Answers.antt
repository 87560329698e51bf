use Rattle.std.proofs.Common.{refl, sym, ◌∙◌, subst, arith}
use Rattle.lfm_mutex.specs.Belongs.{limits_of}
use Rattle.lfm_mutex.specs.calls.Sight.{sight}
use Rattle.lfm_plain_condvar.specs.declared.waiters.Waiters.{Waiters}
use Rattle.lfm_plain_condvar.specs.Holds.{HeldOnce}
use Rattle.lfm_plain_condvar.proofs.condvar.PlainCondvar.wake_one_later.Goals as goal

pub returns-in-Some-clause-belongs : goal.returns-in-Some-clause-belongs
returns-in-Some-clause-belongs g c = let b = c.requires.belongs in let t = c.take_oldest_in_one_hold.ensures in let h = t.held in
    (((t.belongs.0 ∙ b.0.0.0, t.belongs.1 ∙ b.0.0.1), t.kept, b.0.2), (b.1.0, b.1.1, b.1.2 ∙ sym h.2.number, b.1.3))

pub returns-in-None-clause-belongs : goal.returns-in-None-clause-belongs
returns-in-None-clause-belongs g c = let b = c.requires.belongs in let t = c.take_oldest_in_one_hold.ensures in let h = t.held in
    (((t.belongs.0 ∙ b.0.0.0, t.belongs.1 ∙ b.0.0.1), t.kept, b.0.2), (b.1.0, b.1.1, b.1.2 ∙ sym h.2.number, b.1.3))

pub returns-in-None-clause-wakes : goal.returns-in-None-clause-wakes
returns-in-None-clause-wakes g c = let h = c.in-None.ensures.held in
    ((h.0, h.4.0, (subst (λ (z : Waiters). HeldOnce (limits_of c.args.self.now.inner).budget (sight c.args.cond.now.seat) (sight c.take_oldest_in_one_hold.new.cond) h.0 z) h.4.1 h.2, c.take_oldest_in_one_hold.ensures.steps)), refl)

pub returns-in-Some-clause-owes : goal.returns-in-Some-clause-owes
returns-in-Some-clause-owes g c = let h = c.in-Some.ensures.held in let a = h.4.1 in let b = h.3.0 in (omega arith, h.4.2 ∙ h.3.1)
