use Rattle.std.proofs.Common.{ap, sym, ◌∙◌, suc, length}
use lib.ListN.{get_elem?}
use Rattle.lfm_threads.proofs.Places.{each_more, each_of_none}
use Rattle.lfm_mutex.specs.calls.Sight.{Sight}
use Rattle.lfm_mutex.proofs.ends.Ends.{was_last, was_there}
use Rattle.example_time_limit.specs.declared.request.Request.{Request}
use Rattle.example_time_limit.proofs.desk.Desk.new.Goals as goal

pub loop-seat-init : goal.loop-seat-init
loop-seat-init c = let gives = c.into_iter-seat-iterator.ensures.into_iter_gives in record {
  rest = λ j s at. let x = c.in_ok-request.ensures.seats.1 j s (ap (λ l. get_elem? l j) (sym gives.0) ∙ at) in (x.0, ap (λ (v : Sight Request). v.depth) x.1);
  plain = c.in_ok-changed.ensures.belongs;
  ready = each_of_none _ _ c.new-parties.ensures.items;
}

pub loop-seat-preserved : goal.loop-seat-preserved
loop-seat-preserved c = let i = c.loop-seat.invariant in let steps = c.in-Some.ensures.steps in let items = c.in-Some-pop.ensures.items in
    let here = i.rest 0 _ (ap (λ l. get_elem? l 0) steps.0) in let waits = c.in-Some-pop.waits in record {
      rest = λ j s at. i.rest (suc j) s (ap (λ l. get_elem? l (suc j)) steps.0 ∙ at);
      plain = λ j s at. i.plain j s (was_there _ _ waits s j items at);
      ready = each_more _ _ _ _ c.in_ok-push.ensures.items i.ready ((here.0, i.plain (length c.pop.new.self.items) waits (was_last _ _ waits items)), here.1);
    }
