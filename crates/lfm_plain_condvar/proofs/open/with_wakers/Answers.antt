use Rattle.std.proofs.Common.{rules, ◌≡◌, ℕ, length, refl, ◌∙◌, sym, subst, arith}
use mathlib.Core.Option.{some}
use lib.ListN.{get_elem?}
use Rattle.std.proofs.lemmas.Iterator.Adapters.{YieldsList-from_vec}
use Rattle.std.proofs.lemmas.Iterator.Consumers.{YieldsList-turn}
use Rattle.std.proofs.lemmas.List.{length_push}
use Rattle.lfm_mutex.specs.declared.seat.Seat.{Seat}
use Rattle.lfm_plain_condvar.specs.declared.plain_seat.PlainSeat.{PlainSeat}
use Rattle.lfm_plain_condvar.specs.declared.waiters.Waiters.{Waiters}
use Rattle.lfm_plain_condvar.specs.Belongs.{IsNewSeat}
use Rattle.lfm_plain_condvar.proofs.Begins.{and_last}
use Rattle.lfm_plain_condvar.proofs.ListFacts.{found_at}
use Rattle.lfm_plain_condvar.proofs.open.with_wakers.Goals as goal

pub with_waker-requires : goal.with_waker-requires
with_waker-requires c = let b = c.into_iter-seat-iterator.ensures.into_iter_gives in let xs = c.args.seats.items in
    let t = YieldsList-turn (YieldsList-from_vec {s = c.into_iter-seat-iterator.result} xs b.0 (b.1 ∙ c.args.seats.ok.0)) c.wrapped.yielded c.wrapped.seat-iterator c.wrapped.yielded_by c.next.result c.next.new.self c.in-Some.seat c.in-Some.is c.next.ensures.steps in
    record { number = c.requires.numbers (length c.wrapped.yielded) c.in-Some.seat (found_at xs (length c.wrapped.yielded) c.in-Some.seat t.0 t.1); first = c.requires.first }

pub wrapped-preserved : goal.wrapped-preserved
wrapped-preserved c = let b = c.into_iter-seat-iterator.ensures.into_iter_gives in let xs = c.args.seats.items in let i = c.wrapped.invariant in
    let t = YieldsList-turn (YieldsList-from_vec {s = c.into_iter-seat-iterator.result} xs b.0 (b.1 ∙ c.args.seats.ok.0)) c.wrapped.yielded c.wrapped.seat-iterator c.wrapped.yielded_by c.next.result c.next.new.self c.in-Some.seat c.in-Some.is c.next.ensures.steps in
    let here = found_at xs (length c.wrapped.yielded) c.in-Some.seat t.0 t.1 in
    let long : length c.wrapped.yielded ≡ length c.wrapped.plain_seats.items = sym i.size.0 ∙ c.wrapped.plain_seats.ok.0 in
    let p = c.in-Some-with_waker.plain_seat in let made : IsNewSeat p c.in-Some.seat c.args.parkers.now = c.in-Some-with_waker.ensures in
    record {
      size = (let n = length_push c.wrapped.yielded c.in-Some.seat in let l = c.push_reserved.ensures.len in let z = i.size.0 in (omega arith, search rules));
      wraps = and_last (λ (j : ℕ) (s : PlainSeat). (get_elem? xs j ≡ some s.seat) × IsNewSeat s s.seat c.args.parkers.now) c.wrapped.plain_seats.items c.push_reserved.new.self.items _ c.push_reserved.ensures.items
          (subst (λ (n : ℕ). get_elem? xs n ≡ some p.seat) long (subst (λ (z : Seat Waiters). get_elem? xs (length c.wrapped.yielded) ≡ some z) (sym made.0) here), (refl, made.1, made.2, made.3, made.4)) i.wraps;
    }
