use Rattle.std.proofs.Common.{◌≡◌, sym, ◌∙◌, ap, subst, arith}
use Rattle.lfm_plain_condvar.specs.declared.condvar.PlainCondvar.{PlainCondvar}
use Rattle.lfm_monitor.specs.PlainSeats.{SamePlainButPace}
use Rattle.lfm_monitor.proofs.Paces.{all_have, all_set, same_plain, same_plains}
use Rattle.lfm_monitor.proofs.Pairing.{each_set, paired_alike, paired_next}
use Rattle.lfm_monitor.proofs.Places.{stands}
use Rattle.lfm_monitor.proofs.plain_paces.set_plain_paces.Goals as goal

abbrev same : PlainCondvar → PlainCondvar → Type 0
same u v = SamePlainButPace u v

pub setting-init : goal.setting-init
setting-init c = record {
  same = paired_alike same same_plain c.args.conditions.now.items c.deref_mut-condition-items.result.now c.deref_mut-condition-items.ensures.value;
  paced = λ i v low at. absurd (omega arith);
}

pub setting-preserved : goal.setting-preserved
setting-preserved c = let i = c.setting.invariant in let n = c.setting.condition-index in let v = c.condition-item.result in let w = c.set_pace.new.self in let e = c.set_pace.ensures in let is = sym c.condition-item.is in record {
  same = paired_next same same_plains c.args.conditions.now.items c.setting.condition-items n v w i.same (stands c.setting.condition-items n v (let t = c.setting-test.true in let l = c.setting.auto.condition-items in omega arith) c.condition-item.is)
      record { table = e.same.0 ∙ ap (λ (u : PlainCondvar). u.inner.table) is; limits = e.same.1 ∙ ap (λ (u : PlainCondvar). u.inner.limits) is; parkers = e.same.2 ∙ ap (λ (u : PlainCondvar). u.parkers) is };
  paced = each_set (λ (u : PlainCondvar). u.inner.pace ≡ c.args.pace) c.setting.condition-items n w i.paced e.pace;
}

pub returns-clause-same : goal.returns-clause-same
returns-clause-same c = all_set same c.args.conditions.now c.setting.condition-items c.setting.invariant.same

pub returns-clause-paced : goal.returns-clause-paced
returns-clause-paced c = let i = c.setting.invariant in
    all_have same (λ (u : PlainCondvar). u.inner.pace ≡ c.args.pace) c.args.conditions.now c.setting.condition-items c.setting.condition-index i.same (let t = c.setting-test.false in let l = c.setting.auto.condition-items in omega arith) i.paced
