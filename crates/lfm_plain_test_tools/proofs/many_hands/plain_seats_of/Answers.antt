use Rattle.std.proofs.Common.{ℕ, length, sym, subst, ◌∙◌}
use Rattle.std.proofs.lemmas.Iterator.Adapters.{YieldsList-from_vec}
use Rattle.std.proofs.lemmas.Iterator.Consumers.{YieldsList-turn}
use Rattle.lfm_mutex.proofs.Lists.{and_last}
use Rattle.lfm_plain_condvar.specs.declared.plain_seat.PlainSeat.{PlainSeat}
use Rattle.lfm_plain_condvar.specs.Belongs.{OfPlain}
use Rattle.lfm_plain_test_tools.specs.Hands.{IsHandOf}
use Rattle.lfm_plain_test_tools.proofs.many_hands.plain_seats_of.Goals as goal

pub sorting-preserved-in-Ok : goal.sorting-preserved-in-Ok
sorting-preserved-in-Ok c = let b = c.into_iter-hand-iterator.ensures.into_iter_gives in let xs = c.args.hands.items in
    let t = YieldsList-turn (YieldsList-from_vec {s = c.into_iter-hand-iterator.result} xs b.0 (b.1 ∙ c.args.hands.ok.0)) c.sorting.yielded c.sorting.hand-iterator c.sorting.yielded_by c.next.result c.next.new.self c.in-Some.hand c.in-Some.is c.next.ensures.steps in
    let mine : IsHandOf c.in-Some.hand c.args.mutex.now c.args.condvar.now = subst (λ h. IsHandOf h c.args.mutex.now c.args.condvar.now) (sym t.1) (c.requires.hands (length c.sorting.yielded) c.in-Some.hand t.0) in
    and_last (λ (j : ℕ) (x : PlainSeat). OfPlain x c.args.condvar.now) c.sorting.room.items c.push.new.self.items c.in-Some.hand.cond c.in-Ok.ensures.items mine.1 c.sorting.invariant

pub sorting-preserved : goal.sorting-preserved
sorting-preserved c = let b = c.into_iter-hand-iterator.ensures.into_iter_gives in let xs = c.args.hands.items in
    let t = YieldsList-turn (YieldsList-from_vec {s = c.into_iter-hand-iterator.result} xs b.0 (b.1 ∙ c.args.hands.ok.0)) c.sorting.yielded c.sorting.hand-iterator c.sorting.yielded_by c.next.result c.next.new.self c.in-Some.hand c.in-Some.is c.next.ensures.steps in
    let mine : IsHandOf c.in-Some.hand c.args.mutex.now c.args.condvar.now = subst (λ h. IsHandOf h c.args.mutex.now c.args.condvar.now) (sym t.1) (c.requires.hands (length c.sorting.yielded) c.in-Some.hand t.0) in
    and_last (λ (j : ℕ) (x : PlainSeat). OfPlain x c.args.condvar.now) c.sorting.room.items c.push.new.self.items c.in-Some.hand.cond c.in-Ok.ensures.items mine.1 c.sorting.invariant
