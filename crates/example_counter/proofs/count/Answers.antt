-- The ledger has four parts: each worker is given one, and each comes back with 1,000.
use Rattle.std.proofs.Common.{rules, arith, ap, sym, subst, ◌∙◌, ◌≡◌, ◌+◌, suc, length, IfOk}
use Rattle.std.specs.Vec.Iter.{into_iter_items}
use lib.ListN.{get_elem?}
use Rattle.lfm_threads.proofs.Places.{each_more, each_of_none}
use Rattle.example_counter.specs.Workers.{HasAdded}
use Rattle.example_counter.proofs.count.Goals as goal

pub loop-seat-preserved : goal.loop-seat-preserved
loop-seat-preserved g c = let i = c.loop-seat.invariant in let steps = c.in-Some.ensures.steps in
    let fewer : length (into_iter_items c.loop-seat.seat-iterator) ≡ length (into_iter_items c.next.new.self) + 1 = search rules in
    let more : length c.push.new.self.items ≡ length c.loop-seat.workers.items + 1 = search rules in record {
      long = (let a = i.long in let b = steps.1 in omega arith);
      rest = λ j s at. i.rest (suc j) s (ap (λ l. get_elem? l (suc j)) steps.0 ∙ at);
      parts = (let a = i.parts in let b = steps.1 in let d = c.split_off.ensures.parts_left in omega arith);
      amount = (let a = i.amount in let d = c.split_off.ensures.amount_left in omega arith);
      count = (let a = i.count in let b = steps.1 in omega arith);
      ready = each_more _ _ _ _ c.in_ok-push.ensures.items i.ready (i.rest 0 _ (ap (λ l. get_elem? l 0) steps.0), c.split_off.ensures.parts, c.split_off.ensures.amount);
    }

pub share-requires-after_bounds : goal.share-requires-after_bounds
share-requires-after_bounds g c κs within j w at b is = (search rules, (subst (λ m. HasAdded m 0 w) (sym is) (c.loop-seat.invariant.ready j w at), search rules))

pub loop-result-init : goal.loop-result-init
loop-result-init g c = let i = c.loop-seat.invariant in let none = c.in-None.ensures.steps in let gives = c.into_iter-result-iterator.ensures.into_iter_gives in
    let same = ap length gives.0 in let results = c.in_ok-results.results.ok in let workers = c.loop-seat.workers.ok in record {
      long = (let a = gives.1 in omega arith);
      rest = λ j r at. let x = c.in_ok-results.ensures.gives j r (ap (λ l. get_elem? l j) (sym gives.0) ∙ at) in subst (λ m. IfOk r (HasAdded m 1000)) x.2.shows x.2.met;
      parts = (let a = i.parts in let b = i.count in let d = gives.1 in let e = c.in_ok-results.ensures.count in omega arith);
      amount = (let a = i.parts in let b = i.amount in omega arith);
      back = each_of_none _ _ c.new-seats.ensures.items;
    }

pub loop-result-preserved : goal.loop-result-preserved
loop-result-preserved g c = let i = c.loop-result.invariant in let steps = c.in-Some-result.ensures.steps in
    let fewer : length (into_iter_items c.loop-result.result-iterator) ≡ length (into_iter_items c.next-in-loop-result.new.self) + 1 = search rules in
    let added = subst (λ r. IfOk r (HasAdded c.in_ok-mutex.mutex 1000)) c.in_ok-seat.was (i.rest 0 _ (ap (λ l. get_elem? l 0) steps.0)) in
    let part = added.1 in let amount = added.2 in record {
      long = (let a = i.long in let b = steps.1 in omega arith);
      rest = λ j r at. i.rest (suc j) r (ap (λ l. get_elem? l (suc j)) steps.0 ∙ at);
      parts = (let a = i.parts in let b = steps.1 in let d = c.merge.ensures.parts in omega arith);
      amount = (let a = i.amount in let b = c.merge.ensures.parts in let d = c.merge.ensures.amount in omega arith);
      back = each_more _ _ _ _ c.in_ok-push-2.ensures.items i.back added.0;
    }
