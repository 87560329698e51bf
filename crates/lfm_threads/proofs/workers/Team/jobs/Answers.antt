use Rattle.std.proofs.Common.{arith, rules, ap, sym, ◌∙◌, ◌≡◌, ◌+◌, length}
use Rattle.std.specs.Vec.Iter.{into_iter_items}
use mathlib.Core.Option.{some}
use lib.ListN.{get_elem?}
use Rattle.lfm_threads.specs.Workers.{HasJob}
use Rattle.lfm_threads.proofs.Ends.{kept, not_made}
use Rattle.lfm_threads.proofs.Places.{all_come, each_more, each_of_none, first_comes, others_come, same_items}
use Rattle.lfm_threads.proofs.workers.Team.jobs.Goals.{In-Some}
use Rattle.lfm_threads.proofs.workers.Team.jobs.Goals as goal

pub joining-init : goal.joining-init
joining-init g c = let from = c.into_iter-worker-iterator.ensures.into_iter_gives.0 in let ws = c.args.self.workers in let none = ap length c.requires.empty in record {
  long = (let l = c.into_iter-worker-iterator.ensures.into_iter_gives.1 in let a = ap length from in let q = ws.ok in omega arith);
  size = (let a = ap length from in let q = ws.ok in omega arith);
  room = c.requires.room;
  rest = all_come _ _ _ from none;
  same = each_of_none _ _ c.requires.empty;
}

-- the worker that is joined has the job at its place
given_to : (g : _) (c : goal.In-Some g) → (p : _) × (get_elem? c.args.self.jobs.value.items (length c.joining.jobs.items) ≡ some p)
    × HasJob g.K.Task c.args.self.task.value c.args.self.decision.token.of p c.in-Some.worker
given_to g c = c.requires.given _ _ (first_comes _ _ _ _ _ c.in-Some.ensures.steps.0 c.joining.invariant.rest)

pub agrees-requires : goal.agrees-requires
agrees-requires g c = let x = given_to g (goal.at.agrees-requires g c).In-Some in sym (c.arrival-seen.ensures _ _ x.0 x.2).0

pub push_reserved-requires : goal.push_reserved-requires
push_reserved-requires g c = let i = c.joining.invariant in let a : length (into_iter_items c.joining.worker-iterator) ≡ length (into_iter_items c.next.new.self) + 1 = search rules in
    let b = i.size in let d = i.room in let e = c.joining.jobs.ok in omega arith

pub unreachable-requires : goal.unreachable-requires
unreachable-requires g c = let x = given_to g (goal.at.unreachable-requires g c).In-Some in
    not_made (g.K.Task.gives c.args.self.task.value) x.0 _ _ _ (sym c.agrees.ensures ∙ c.requires.off) c.in-Made.is (c.arrival-seen.ensures _ _ x.0 x.2).1

pub joining-preserved : goal.joining-preserved
joining-preserved g c = let i = c.joining.invariant in let x = given_to g (goal.at.joining-preserved g c).In-Some in let steps = c.in-Some.ensures.steps in
    let more : length c.push_reserved.new.self.items ≡ length c.joining.jobs.items + 1 = search rules in
    let fewer : length (into_iter_items c.joining.worker-iterator) ≡ length (into_iter_items c.next.new.self) + 1 = search rules in record {
      long = (let a = i.long in let b = steps.1 in omega arith);
      size = (let a = i.size in omega arith);
      room = (let a = c.push_reserved.ensures.capacity in let b = i.room in omega arith);
      rest = others_come _ _ _ _ _ steps.0 i.rest _ more;
      same = each_more (λ j p. get_elem? c.args.self.jobs.value.items j ≡ some p) _ _ _ c.push_reserved.ensures.items i.same
          (x.1 ∙ ap some (sym (kept (g.K.Task.gives c.args.self.task.value) x.0 _ _ _ (sym c.agrees.ensures ∙ c.requires.off) c.in-Kept.is (c.arrival-seen.ensures _ _ x.0 x.2).1)));
    }

pub returns : goal.returns
returns g c = let i = c.joining.invariant in
    same_items _ _ (let a = i.size in let b = i.long in let d = c.in-None.ensures.steps in let e = c.requires.all in let f = c.args.self.jobs.value.ok in omega arith) i.same
