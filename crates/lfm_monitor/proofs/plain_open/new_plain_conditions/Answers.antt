use Rattle.std.proofs.Common.{◌≡◌, ◌+◌, ℕ, ◌∙◌, ap, length, arith}
use Rattle.lfm_mutex.specs.Belongs.{limits_of}
use Rattle.lfm_mutex.specs.Paces.{usual_pace}
use Rattle.lfm_plain_condvar.specs.declared.condvar.PlainCondvar.{PlainCondvar}
use Rattle.lfm_monitor.specs.CondSeats.{condition_limits}
use Rattle.lfm_monitor.proofs.NewSeats.{none_new_plain, none_plain, none_plain_paced, one_new_plain}
use Rattle.lfm_monitor.proofs.Places.{each_more}
use Rattle.lfm_monitor.proofs.plain_open.new_plain_conditions.Goals as goal

pub makes-init : goal.makes-init
makes-init c = let e = c.in-Ok.ensures in let s = c.in_ok-plain_seats.ensures.rooms in record {
  made = (c.in-Ok.conditions.ok.0 ∙ ap length e.items, e.exact);
  alike = none_plain c.args.passes c.in-Ok.conditions.items e.items;
  paced = none_plain_paced usual_pace c.in-Ok.conditions.items e.items;
  wide = s.0;
  dealt = λ j r at. let x = s.1 j r at in (x.1, none_new_plain c.args.passes (j + 1) r.items c.in-Ok.conditions.items x.0 e.items);
}

pub makes-preserved : goal.makes-preserved
makes-preserved c = let i = c.makes.invariant in let e = c.in_ok-condition.ensures in let v = c.in_ok-condition.condition in let p = c.push_reserved.ensures in let d = c.deal.ensures in record {
  made = (let a = i.made.0 in let l = p.len in omega arith, p.capacity ∙ i.made.1);
  alike = each_more (λ (n : ℕ) (u : PlainCondvar). limits_of u.inner ≡ condition_limits c.args.passes) c.makes.conditions.items c.push_reserved.new.self.items v p.items i.alike e.limits.0;
  paced = each_more (λ (n : ℕ) (u : PlainCondvar). u.inner.pace ≡ usual_pace) c.makes.conditions.items c.push_reserved.new.self.items v p.items i.paced e.pace;
  wide = d.count ∙ i.wide;
  dealt = λ j r at. let x = d.dealt j r at in let was = i.dealt j x.old x.was in let s = e.seats.1 in
      (x.room ∙ was.0, one_new_plain c.args.passes (j + 1) x.old.items r.items c.makes.conditions.items c.push_reserved.new.self.items x.item v x.grown p.items was.1 (e.belongs j x.item x.dealt) (s.0, s.1, s.2 j x.item x.dealt, e.notified j x.item x.dealt));
}

pub returns-clause-seats : goal.returns-clause-seats
returns-clause-seats c = let i = c.makes.invariant in (i.wide, λ j l at. (i.dealt j l at).1)
