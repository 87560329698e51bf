use Rattle.std.proofs.Common.{arith, ap, sym, subst, ◌≡◌, ◌≤◌, ◌+◌, ℕ, length, get_or}
use Rattle.std.proofs.Math.Nat.{mul-le-mul}
use Rattle.std.proofs.lemmas.List.Sums.{sum_by-set}
use Rattle.std.proofs.lemmas.List.Elements.{All-set}
use Rattle.lfm_protocol.specs.Limits.{max_seats}
use Rattle.lfm_condvar.specs.Lists.{waiter, GoOnFrom, times, Among}
use Rattle.std.proofs.lemmas.Grind.{common_steps}
use Rattle.lfm_condvar.proofs.Followed.{follows_appended}
use Rattle.lfm_condvar.proofs.ListFacts.{go_on_more, among_more, has_room, once_more, sum_within, get_or_any}
use Rattle.lfm_condvar.proofs.waiters.Waiters.append.Goals as goal

pub overflow_add-ticket : goal.overflow_add-ticket
overflow_add-ticket c = let s = c.args.self.now in let m = sum_within s.budget s.counts.items s.within in let l = s.counts.ok in let n = s.counted in let lim = s.limits in
    let a : length s.counts.items ≤ max_seats + 1 = omega arith in let p = mul-le-mul a lim.1 in omega arith

pub push_back_reserved-requires : goal.push_back_reserved-requires
push_back_reserved-requires c = let s = c.args.self.now in let r = c.requires.seat in let room = has_room s.seats c.args.seat s.list.items s.among s.once r.2 r.0 r.1 in let len = s.list.ok in let cap = s.room in omega arith

pub invariant_of-self-clause-tickets : goal.invariant_of-self-clause-tickets
invariant_of-self-clause-tickets c = let s = c.args.self.now in subst (GoOnFrom s.sent) (sym c.push_back_reserved.ensures.items) (go_on_more s.sent s.list.items (waiter c.args.seat (s.added + 1)) s.tickets (let l = s.length in let o = s.list.ok in omega arith))

pub invariant_of-self-clause-once : goal.invariant_of-self-clause-once
invariant_of-self-clause-once c = let s = c.args.self.now in subst (λ ws. (k : ℕ) → times k ws ≤ 1) (sym c.push_back_reserved.ensures.items) (once_more s.list.items (waiter c.args.seat (s.added + 1)) s.once c.requires.seat.2)

pub invariant_of-self-clause-among : goal.invariant_of-self-clause-among
invariant_of-self-clause-among c = let s = c.args.self.now in subst (Among s.seats) (sym c.push_back_reserved.ensures.items) (among_more s.seats s.list.items (waiter c.args.seat (s.added + 1)) s.among c.requires.seat.0 c.requires.seat.1)

pub invariant_of-self-clause-counted : goal.invariant_of-self-clause-counted
invariant_of-self-clause-counted c = let s = c.args.self.now in let n = s.counted in let o = s.counts.ok in let p = c.get-place.ensures.value in let b = c.requires.by.0 in let v = c.index_mut.ensures.value in
    let t = sum_by-set (λ (x : ℕ). x) s.counts.items c.get-place.result (c.index_mut.result.now + 1) c.index_mut.result.now (omega arith) in (n.0, omega arith)

pub invariant_of-self-clause-within : goal.invariant_of-self-clause-within
invariant_of-self-clause-within c = let s = c.args.self.now in let n = s.counted in let o = s.counts.ok in let p = c.get-place.ensures.value in let b = c.requires.by in let v = c.index_mut.ensures.value in
    All-set (λ (x : ℕ). x ≤ s.budget) s.counts.items c.get-place.result (c.index_mut.result.now + 1) (let same : get_or s.counts.items c.get-place.result c.index_mut.result.now ≡ get_or s.counts.items c.get-place.result 0 = get_or_any s.counts.items c.get-place.result c.index_mut.result.now 0 (omega arith) in
    let at : get_or s.counts.items c.get-place.result 0 ≡ get_or s.counts.items c.args.by 0 = ap (λ k. get_or s.counts.items k 0) p in omega arith) s.within

pub returns-clause-follows : goal.returns-clause-follows
returns-clause-follows c = follows_appended _ c.args.seat _ _ (grind (arith, common_steps))
