use Rattle.std.proofs.Common.{◌≡◌, ◌+◌, ℕ, ◌∙◌, arith}
use Rattle.lfm_mutex.specs.Paces.{usual_pace}
use Rattle.lfm_condvar.specs.declared.condvar.Condvar.{Condvar}
use Rattle.lfm_condvar.specs.Belongs.{cond_limits}
use Rattle.lfm_monitor.specs.CondSeats.{condition_limits}
use Rattle.lfm_monitor.proofs.NewSeats.{one_new}
use Rattle.lfm_monitor.proofs.Places.{each_more}
use Rattle.lfm_monitor.proofs.open.new_conditions.Goals as goal

pub makes-preserved : goal.makes-preserved
makes-preserved c = let i = c.makes.invariant in let e = c.in_ok-condition.ensures in let v = c.in_ok-condition.condition in let p = c.push_reserved.ensures in let d = c.deal.ensures in record {
  made = (let a = i.made.0 in let l = p.len in omega arith, p.capacity ∙ i.made.1);
  alike = each_more (λ (n : ℕ) (u : Condvar). cond_limits u ≡ condition_limits c.args.passes) c.makes.conditions.items c.push_reserved.new.self.items v p.items i.alike e.limits.0;
  paced = each_more (λ (n : ℕ) (u : Condvar). u.inner.pace ≡ usual_pace) c.makes.conditions.items c.push_reserved.new.self.items v p.items i.paced e.pace;
  wide = d.count ∙ i.wide;
  dealt = λ j r at. let x = d.dealt j r at in let was = i.dealt j x.old x.was in let s = e.seats.1.2 j x.item x.dealt in
      (x.room ∙ was.0, one_new c.args.passes (j + 1) x.old.items r.items c.makes.conditions.items c.push_reserved.new.self.items x.item v x.grown p.items was.1 s.0 (e.seats.1.0, e.seats.1.1, s.1));
}

pub returns-clause-seats : goal.returns-clause-seats
returns-clause-seats c = let i = c.makes.invariant in (i.wide, λ j l at. (i.dealt j l at).1)
