use Rattle.std.proofs.Common.{◌≡◌, ◌<◌, ◌≤◌, ℕ, sym, ◌∙◌, subst, arith, refl, List}
use mathlib.Core.Option.{some, some-injective}
use lib.ListN.{get_elem?}
use Rattle.lfm_plain_condvar.specs.declared.waiters.Waiter.{Waiter}
use Rattle.lfm_plain_condvar.specs.Keeping.{Is}
use Rattle.lfm_plain_condvar.specs.Lists.{InOrder}
use Rattle.lfm_plain_condvar.proofs.ListFacts.{in_order_without, all_without, found_at, within}
use Rattle.lfm_plain_condvar.proofs.waiters.Waiters.take_out.Goals as goal

pub invariant_of-self-clause-tickets : goal.invariant_of-self-clause-tickets
invariant_of-self-clause-tickets c = let s = c.args.self.now in subst (InOrder s.added 0) (sym c.in-Some.ensures.items) (in_order_without s.added 0 s.list.items c.in_ok-place.place s.tickets)

pub invariant_of-self-clause-known : goal.invariant_of-self-clause-known
invariant_of-self-clause-known c = let s = c.args.self.now in
    subst (λ (ws : List Waiter). (j : ℕ) (w : Waiter) → get_elem? ws j ≡ some w → (w.waker.number ≤ s.seats) × (w.waker.seat.table_id ≡ s.name.root.table_id) × (0 < w.waker.number)) (sym c.in-Some.ensures.items)
    (all_without (λ (w : Waiter). (w.waker.number ≤ s.seats) × (w.waker.seat.table_id ≡ s.name.root.table_id) × (0 < w.waker.number)) s.list.items c.in_ok-place.place s.known)

pub unreachable-requires : goal.unreachable-requires
unreachable-requires c = let s = c.args.self.now in let e = c.in_ok-place.ensures in let h = within s.list.items c.in_ok-place.place e.0 e.1 in let o = s.list.ok in let no = c.in-None.ensures.variant.1 (omega arith) in cc

pub returns : goal.returns
returns c = let s = c.args.self.now in let e = c.in_ok-place.ensures in let w = c.in-Some.waiter in let h = within s.list.items c.in_ok-place.place e.0 e.1 in
    let at = found_at s.list.items c.in_ok-place.place w h c.in-Some.ensures.value in
    let same : e.0 ≡ w = some-injective e.0 w (sym e.1 ∙ at) in
    let is = subst (Is c.args.number c.args.ticket) same (e.2, e.3) in
    (is.0, is.1, (s.known c.in_ok-place.place w at).1, (c.in_ok-place.place, at, c.in-Some.ensures.items, refl, refl, refl, (refl, refl)))
