use Rattle.std.proofs.Common.{◌≡◌, refl, sym, ◌∙◌, ap, subst}
use Rattle.lfm_mutex.specs.Belongs.{limits_of}
use Rattle.lfm_mutex.specs.calls.Sight.{sight}
use Rattle.lfm_plain_condvar.specs.declared.parkers.Waker.{Waker}
use Rattle.lfm_plain_condvar.specs.declared.waiters.Waiters.{Waiters}
use Rattle.lfm_plain_condvar.specs.Holds.{HeldOnce}
use Rattle.lfm_plain_condvar.proofs.condvar.PlainCondvar.enlist.Goals as goal

pub returns-in-Ok-clause-enlists : goal.returns-in-Ok-clause-enlists
returns-in-Ok-clause-enlists g c = let b = c.requires.belongs in let h = c.in-Ok.ensures.held in
    let same : b.1.0 ≡ c.in-Some.waker = (let p = c.replace.ensures.value in let q = c.in-Some.is in let r = b.1.1 in cc) in
    let number = ap (λ (z : Waker). z.number) (sym same) ∙ b.1.2 in
    (h.3.0 ∙ (number ∙ sym h.2.number), (h.0, h.1, c.in-Some.waker, number, h.3.1, (h.2, c.append_in_one_hold.ensures.steps)))

pub returns-in-Err-clause-enlists : goal.returns-in-Err-clause-enlists
returns-in-Err-clause-enlists g c = let b = c.requires.belongs in let h = c.in-Err.ensures.held in let bs = c.append_in_one_hold.ensures.belongs in
    let same : b.1.0 ≡ c.in-Some.waker = (let p = c.replace.ensures.value in let q = c.in-Some.is in let r = b.1.1 in cc) in (
      refl,
      (
        ((bs.0 ∙ b.0.0.0, bs.1 ∙ b.0.0.1), c.append_in_one_hold.ensures.kept, b.0.2),
        (c.in-Err.back, refl, ap (λ (z : Waker). z.number) (h.3.0 ∙ sym same) ∙ b.1.2 ∙ sym h.2.number, ap (λ (z : Waker). z.seat.table_id) (h.3.0 ∙ sym same) ∙ b.1.3),
      ),
      (h.0, h.3.2, (subst (λ (z : Waiters). HeldOnce (limits_of c.args.self.now.inner).budget (sight c.args.cond.now.seat) (sight c.append_in_one_hold.new.cond) h.0 z) h.3.1 h.2, c.append_in_one_hold.ensures.steps)),
    )
