use Rattle.std.proofs.Common.{rules, ◌≡◌, ℕ, length, ◌∙◌, sym, subst, arith}
use mathlib.Core.Option.{some}
use lib.ListN.{get_elem?}
use Rattle.std.proofs.lemmas.Iterator.Adapters.{YieldsList-from_vec}
use Rattle.std.proofs.lemmas.Iterator.Consumers.{YieldsList-turn}
use Rattle.std.proofs.lemmas.List.{length_push}
use Rattle.lfm_condvar.specs.declared.cond_seat.CondSeat.{CondSeat}
use Rattle.lfm_condvar.proofs.Begins.{and_last, at_place}
use Rattle.lfm_condvar.proofs.cond_seat.as_cond_seats.Goals as goal

pub invariant_of-push_reserved : goal.invariant_of-push_reserved
invariant_of-push_reserved c = let b = c.into_iter-seat-iterator.ensures.into_iter_gives in let xs = c.args.seats.items in
    let t = YieldsList-turn (YieldsList-from_vec {s = c.into_iter-seat-iterator.result} xs b.0 (b.1 ∙ c.args.seats.ok.0)) c.wrapped.yielded c.wrapped.seat-iterator c.wrapped.yielded_by c.next.result c.next.new.self c.in-Some.seat c.in-Some.is c.next.ensures.steps in
    record { kept = c.requires.kept (length c.wrapped.yielded) c.in-Some.seat (at_place xs (length c.wrapped.yielded) c.in-Some.seat t.0 t.1) }

pub wrapped-preserved : goal.wrapped-preserved
wrapped-preserved c = let b = c.into_iter-seat-iterator.ensures.into_iter_gives in let xs = c.args.seats.items in let i = c.wrapped.invariant in
    let t = YieldsList-turn (YieldsList-from_vec {s = c.into_iter-seat-iterator.result} xs b.0 (b.1 ∙ c.args.seats.ok.0)) c.wrapped.yielded c.wrapped.seat-iterator c.wrapped.yielded_by c.next.result c.next.new.self c.in-Some.seat c.in-Some.is c.next.ensures.steps in
    let here = at_place xs (length c.wrapped.yielded) c.in-Some.seat t.0 t.1 in
    let long : length c.wrapped.yielded ≡ length c.wrapped.cond_seats.items = sym i.size.0 ∙ c.wrapped.cond_seats.ok.0 in
    record {
      size = (let n = length_push c.wrapped.yielded c.in-Some.seat in let l = c.push_reserved.ensures.len in let z = i.size.0 in (omega arith, search rules));
      wraps = and_last (λ (j : ℕ) (s : CondSeat). get_elem? xs j ≡ some s.seat) c.wrapped.cond_seats.items c.push_reserved.new.self.items _ c.push_reserved.ensures.items (subst (λ (n : ℕ). get_elem? xs n ≡ some c.in-Some.seat) long here) i.wraps;
    }
