use Rattle.std.proofs.Common.{◌≡◌, ◌<◌, ◌≤◌, ◌+◌, ℕ, sym, subst, refl, List}
use mathlib.Core.Option.{some}
use lib.ListN.{get_elem?}
use Rattle.lfm_plain_condvar.specs.declared.waiters.Waiter.{Waiter}
use Rattle.lfm_plain_condvar.specs.Lists.{InOrder}
use Rattle.lfm_plain_condvar.proofs.ListFacts.{in_order_more, all_more}
use Rattle.lfm_plain_condvar.proofs.waiters.Waiters.append.Goals as goal

pub invariant_of-self-clause-tickets : goal.invariant_of-self-clause-tickets
invariant_of-self-clause-tickets c = let s = c.args.self.now in
    subst (InOrder (s.added + 1) 0) (sym c.push_back_reserved.ensures.items) (in_order_more s.added 0 s.list.items (record { waker = c.args.waker; ticket = s.added + 1 }) s.tickets refl)

pub invariant_of-self-clause-known : goal.invariant_of-self-clause-known
invariant_of-self-clause-known c = let s = c.args.self.now in
    subst (λ (ws : List Waiter). (j : ℕ) (w : Waiter) → get_elem? ws j ≡ some w → (w.waker.number ≤ s.seats) × (w.waker.seat.table_id ≡ s.name.root.table_id) × (0 < w.waker.number)) (sym c.push_back_reserved.ensures.items)
    (all_more (λ (w : Waiter). (w.waker.number ≤ s.seats) × (w.waker.seat.table_id ≡ s.name.root.table_id) × (0 < w.waker.number)) s.list.items (record { waker = c.args.waker; ticket = s.added + 1 }) s.known c.requires)
