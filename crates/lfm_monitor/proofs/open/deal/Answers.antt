use Rattle.std.proofs.Common.{◌≡◌, ℕ, ⊎_elim, refl, sym, ◌∙◌, ap, subst, arith, length, Vec}
use Rattle.std.specs.Global.{Global}
use lib.ListN.{get_elem?}
use mathlib.Core.Option.{some}
use Rattle.lfm_monitor.specs.Dealing.{Dealt}
use Rattle.lfm_monitor.proofs.Places.{in_range, stands, stands_last, stands_before, stands_or_was}
use Rattle.lfm_monitor.proofs.open.deal.Goals as goal

pub deals-init : goal.deals-init
deals-init g c = record {
  count = (refl, let n = c.requires.count in omega arith);
  left = λ j x at. at;
  same = λ j r h at. at;
  dealt = λ j r h at. absurd (let n = c.requires.count in let b = in_range c.args.lists.now.items j r at in let o = c.args.lists.now.ok in omega arith);
}

pub push_reserved-requires : goal.push_reserved-requires
push_reserved-requires g c = let i = c.deals.invariant in let x = c.index_mut.result.now in let n = c.len.ensures in let e = c.in-Some.ensures.cases in
    c.requires.room c.len.result x (i.same c.len.result x (omega arith) (stands c.deals.lists.items c.len.result x (let o = c.deals.lists.ok in let k = i.count in omega arith) c.index_mut.ensures.value))

pub deals-preserved : goal.deals-preserved
deals-preserved g c = let i = c.deals.invariant in let x = c.index_mut.result.now in let n = c.len.ensures in let e = c.in-Some.ensures in let k = e.cases in let m = c.len.result in let p = c.push_reserved.new.self in
    let was = i.same m x (omega arith) (stands c.deals.lists.items m x (let o = c.deals.lists.ok in let k = i.count in omega arith) c.index_mut.ensures.value) in
    let long : length c.pop.new.self.items ≡ m = (let o = c.pop.new.self.ok in omega arith) in
    let item = i.left m c.in-Some.item (subst (λ (z : ℕ). get_elem? c.deals.items.items z ≡ some c.in-Some.item) long (ap (λ l. get_elem? l (length c.pop.new.self.items)) e.items ∙ stands_last c.pop.new.self.items c.in-Some.item)) in
    record {
      count = (i.count.0, let z = i.count in omega arith);
      left = λ j y at. i.left j y (ap (λ l. get_elem? l j) e.items ∙ stands_before c.pop.new.self.items _ j y at);
      same = λ j r h at. ⊎_elim (λ u. absurd (let q = u.0 in omega arith)) (λ u. i.same j r (omega arith) u.1) (stands_or_was c.deals.lists.items m p j r at);
      dealt = λ j r h at. ⊎_elim
          (λ u. subst (λ (t : ℕ × Vec g.row.T.Denot Global). Dealt {A = g.row.T.Denot} c.args.lists.now.items c.args.items.items t.0 t.1) (λ k. (sym u.0 k, sym u.1 k))
          record { old = x; item = c.in-Some.item; was = was; dealt = item; grown = c.push_reserved.ensures.items; room = c.push_reserved.ensures.capacity })
          (λ u. i.dealt j r (let q = u.0 in omega arith) u.1) (stands_or_was c.deals.lists.items m p j r at);
    }
