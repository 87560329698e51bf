use Rattle.std.proofs.Common.{ℕ, length, sym, subst, ◌∙◌}
use Rattle.std.proofs.lemmas.Iterator.Adapters.{YieldsList-from_vec}
use Rattle.std.proofs.lemmas.Iterator.Consumers.{YieldsList-turn}
use Rattle.lfm_mutex.specs.declared.seat.Seat.{Seat}
use Rattle.lfm_mutex.specs.Belongs.{OfMutex}
use Rattle.lfm_condvar.specs.declared.cond_seat.CondSeat.{CondSeat}
use Rattle.lfm_condvar.specs.Belongs.{OfCondvar}
use Rattle.lfm_condvar.proofs.Begins.{and_last}
use Rattle.lfm_test_tools.specs.Parts.{OfShared}
use Rattle.lfm_test_tools.proofs.two_condvars.dealing.sorted.Goals as goal

pub sorting-preserved : goal.sorting-preserved
sorting-preserved c = let b = c.into_iter-part-iterator.ensures.into_iter_gives in let xs = c.args.parts.items in let s = c.args.shared.now in let i = c.sorting.invariant in let r = c.sorting.room in
    let t = YieldsList-turn (YieldsList-from_vec {s = c.into_iter-part-iterator.result} xs b.0 (b.1 ∙ c.args.parts.ok.0)) c.sorting.yielded c.sorting.part-iterator c.sorting.yielded_by c.next.result c.next.new.self c.in-Some.part c.in-Some.is c.next.ensures.steps in
    let mine : OfShared c.in-Some.part s = subst (λ p. OfShared p s) (sym t.1) (c.requires.parts (length c.sorting.yielded) c.in-Some.part t.0) in
    record {
      seats = and_last (λ (j : ℕ) (x : Seat ℕ). OfMutex x s.mutex) r.seats.items c.push.new.self.items c.in-Some.part.seat c.in-Ok.ensures.items mine.seat i.seats;
      first = and_last (λ (j : ℕ) (x : CondSeat). OfCondvar x s.first) r.first.items c.push-in-sorting.new.self.items c.in-Some.part.first c.in-Ok-push.ensures.items mine.first i.first;
      second = and_last (λ (j : ℕ) (x : CondSeat). OfCondvar x s.second) r.second.items c.push-in-sorting-2.new.self.items c.in-Some.part.second c.in-Ok-push-2.ensures.items mine.second i.second;
    }
