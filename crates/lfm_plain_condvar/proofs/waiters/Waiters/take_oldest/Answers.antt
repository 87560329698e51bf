use Rattle.std.proofs.Common.{◌≡◌, ◌<◌, ◌≤◌, subst, refl, arith}
use Rattle.lfm_plain_condvar.specs.declared.waiters.Waiter.{Waiter}
use Rattle.lfm_plain_condvar.specs.Lists.{InOrder}
use Rattle.lfm_plain_condvar.proofs.ListFacts.{in_order_below, all_rest, first_of}
use Rattle.lfm_plain_condvar.proofs.waiters.Waiters.take_oldest.Goals as goal

pub invariant_of-self-2-clause-tickets : goal.invariant_of-self-2-clause-tickets
invariant_of-self-2-clause-tickets c = let s = c.args.self.now in let x = c.in_ok-oldest.oldest in let t = subst (InOrder s.added 0) c.in_ok-oldest.ensures.items s.tickets in in_order_below s.added 0 x.ticket c.pop_front.new.self.items (omega arith) t.1

pub invariant_of-self-2-clause-known : goal.invariant_of-self-2-clause-known
invariant_of-self-2-clause-known c = let s = c.args.self.now in
    all_rest (λ (w : Waiter). (w.waker.number ≤ s.seats) × (w.waker.seat.table_id ≡ s.name.root.table_id) × (0 < w.waker.number)) s.list.items c.pop_front.new.self.items c.in_ok-oldest.oldest c.in_ok-oldest.ensures.items s.known

pub returns : goal.returns
returns c = let s = c.args.self.now in
    let k = first_of (λ (w : Waiter). (w.waker.number ≤ s.seats) × (w.waker.seat.table_id ≡ s.name.root.table_id) × (0 < w.waker.number)) s.list.items c.pop_front.new.self.items c.in_ok-oldest.oldest c.in_ok-oldest.ensures.items s.known in
    ((c.in_ok-oldest.ensures.items, refl, refl, refl, (refl, refl)), k.0, k.1, k.2)
