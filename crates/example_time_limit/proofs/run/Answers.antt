use Rattle.std.proofs.Common.{ap, sym, subst, ◌∙◌, ◌≡◌, suc, IfOk, Some}
use lib.ListN.{get_elem?}
use Rattle.lfm_threads.proofs.Places.{each_more, each_of_none}
use Rattle.example_time_limit.specs.declared.desk.Desk.{Desk}
use Rattle.example_time_limit.specs.declared.request.Request.{Request}
use Rattle.example_time_limit.specs.Parties.{IsDone, IsReady}
use Rattle.example_time_limit.proofs.run.Goals as goal

-- each thread is given a party that is ready
pub share-requires-after_bounds : goal.share-requires-after_bounds
share-requires-after_bounds g c κs within j p at b is = subst (λ (d : Desk). IsReady p d) (sym is) (c.in_ok-desk.ensures j p at)

pub loop-result-init : goal.loop-result-init
loop-result-init g c = let gives = c.into_iter-result-iterator.ensures.into_iter_gives in record {
  rest = λ j r at. let x = c.in_ok-results.ensures.gives j r (ap (λ l. get_elem? l j) (sym gives.0) ∙ at) in subst (λ (d : Desk). IfOk r (λ p. IsDone p d)) x.2.shows x.2.met;
  seats = each_of_none _ _ c.new-seats.ensures.items;
  answered = each_of_none _ _ c.new-seats.ensures.items;
  plain = each_of_none _ _ c.new-plain_seats.ensures.items;
}

pub loop-result-preserved : goal.loop-result-preserved
loop-result-preserved g c = let i = c.loop-result.invariant in let steps = c.in-Some.ensures.steps in
    let done = subst (λ r. IfOk r (λ p. IsDone p c.in_ok-desk.desk)) c.in_ok-seat.was (i.rest 0 _ (ap (λ l. get_elem? l 0) steps.0)) in
    let seats = c.loop-result.seats.items in let more = c.push.new.self.items in let back = c.in_ok-seat.field-0 in record {
      rest = λ j r at. i.rest (suc j) r (ap (λ l. get_elem? l (suc j)) steps.0 ∙ at);
      seats = each_more _ seats more back.seat c.in_ok-push.ensures.items i.seats done.0.0;
      answered = each_more _ seats more back.seat c.in_ok-push.ensures.items i.answered done.1.1;
      plain = each_more _ c.loop-result.plain_seats.items c.push-in-loop-result.new.self.items back.waits c.in_ok-push-2.ensures.items i.plain done.0.1;
    }

-- the mutex is closed with what one of the seats left last
pub returns : goal.returns
returns g c = let left = c.in-Ok.ensures.last in let same : Some c.in-Ok.last ≡ Some Request.Answered = sym left.3 ∙ c.loop-result.invariant.answered left.0 left.1 left.2 in cc
