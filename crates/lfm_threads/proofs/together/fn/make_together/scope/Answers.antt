use Rattle.std.proofs.Common.{rules, arith, ap, sym, subst, ◌∙◌, ◌≡◌, ◌+◌, ℕ, length, vec_len}
use Rattle.std.specs.Vec.Iter.{into_iter_items}
use mathlib.Core.Option.{some}
use lib.ListN.{get_elem?}
use Rattle.lfm_threads.specs.Together.{AllGiven, Arrives}
use Rattle.lfm_threads.specs.Workers.{AllHaveJobs, HasJob}
use Rattle.lfm_threads.proofs.Places.{each_more, first_comes, others_come}
use Rattle.lfm_threads.proofs.together.fn.make_together.scope.Goals.{In-None, In-Some, in-Err, in-Ok}
use Rattle.lfm_threads.proofs.together.fn.make_together.scope.Goals as goal

-- the job that is given is at the place of its worker
stands : (g : _) (c : goal.In-Some g) → get_elem? c.captures.jobs.items (length c.starting.workers.items) ≡ some c.in-Some.job
stands g c = ap (λ v. get_elem? v.items (length c.starting.workers.items)) (sym c.of-all_jobs.ensures) ∙ first_comes _ _ _ _ _ c.in-Some.ensures.steps.0 c.starting.invariant.rest

-- and it may be started
taken : (g : _) (c : goal.In-Some g) → g.K.Task.takes c.captures.task.now c.in-Some.job
taken g c = c.requires _ _ (stands g c)

pub spawn_with-started-requires-clause-runs : goal.spawn_with-started-requires-clause-runs
spawn_with-started-requires-clause-runs g c κs within = taken g (goal.at.spawn_with-started-requires-clause-runs g c).In-Some

pub spawn_with-requires : goal.spawn_with-requires
spawn_with-requires g c κs within = (
  within.0,
  (
    within.1.0,
    (
      within.1.1.0,
      (within.1.1.1, subst (λ v. g.K.Task.takes v.3.now v.2) (sym c.in-Err.ensures.err) (taken g (goal.at.spawn_with-requires g c).In-Some)),
    ),
  ),
)

pub starting-preserved : goal.starting-preserved
starting-preserved g c = let i = c.starting.invariant in let steps = c.in-Some.ensures.steps in
    let more : length c.push_reserved.new.self.items ≡ length c.starting.workers.items + 1 = search rules in
    let fewer : length (into_iter_items c.starting.job-iterator) ≡ length (into_iter_items c.next.new.self) + 1 = search rules in
    let has : HasJob g.K.Task c.captures.task.now c.captures.at_latch.now.start.id c.in-Some.job c.match-started.worker = elim c.match-started.branch [
      | in-Ok w ↦ subst (HasJob g.K.Task c.captures.task.now c.captures.at_latch.now.start.id c.in-Some.job) (sym w.worker-is) (
        ap (λ p. p.latch.value.start.id) w.in-Ok.ensures.ok ∙ ap (λ l. l.start.id) c.of.ensures,
        ap (λ p. p.job.value) w.in-Ok.ensures.ok ∙ c.of-in-starting.ensures,
        ap (λ p. p.task.value) w.in-Ok.ensures.ok ∙ c.of-in-starting-2.ensures,
      )
      | in-Err w ↦ subst (HasJob g.K.Task c.captures.task.now c.captures.at_latch.now.start.id c.in-Some.job) (sym w.worker-is)
          (subst (λ v. Arrives (g.K.Task.gives v.3.now) v.1.now.start.id v.2 w.spawn_with.result) w.in-Err.ensures.err w.spawn_with.ensures)
    ] in record {
      long = (let a = i.long in let b = steps.1 in omega arith);
      size = (let a = i.size in omega arith);
      room = (let a = c.push_reserved.ensures.capacity in let b = i.room in omega arith);
      rest = others_come _ _ _ _ _ steps.0 i.rest _ more;
      given = each_more _ _ _ _ c.push_reserved.ensures.items i.given (c.in-Some.job, first_comes _ _ _ _ _ steps.0 i.rest, has);
    }

-- every job has been given, with the start latch of this decision
given : (g : _) (c : goal.In-None g) (latch : ℕ) (task : _) → latch ≡ c.captures.at_latch.now.start.id → task ≡ c.captures.task.now
    → AllHaveJobs g.K.Task task latch c.of-all_jobs.result.value.items c.starting.workers.items
given g c latch task at is = subst (λ t. AllHaveJobs g.K.Task t latch c.of-all_jobs.result.value.items c.starting.workers.items) (sym is)
    (subst (λ l. AllHaveJobs g.K.Task c.captures.task.now l c.of-all_jobs.result.value.items c.starting.workers.items) (sym at) c.starting.invariant.given)

-- there are as many workers as jobs
as_many : (g : _) (c : goal.In-None g) → length c.starting.workers.items ≡ length c.captures.jobs.items
as_many g c = let i = c.starting.invariant in let a = i.size in let b = i.long in let d = c.in-None.ensures.steps in
    let e : length c.of-all_jobs.result.value.items ≡ length c.captures.jobs.items = ap (λ v. length v.items) c.of-all_jobs.ensures in omega arith

pub results-requires : goal.results-requires
results-requires g c = let n = (goal.at.results-requires g c).In-None in record {
  go = sym c.start-start.ensures ∙ c.in-Go.is;
  given = given g n _ _ c.decide-decision.ensures c.of-2.ensures;
  empty = c.in-Ok-Ok-Ok.ensures'.items;
  room = (let a = as_many g n in let b = c.in-Ok-Ok-Ok.ensures'.capacity in let d = c.len-count.ensures in let e = c.starting.workers.ok in let f = c.captures.jobs.ok in omega arith);
}

pub jobs-requires : goal.jobs-requires
jobs-requires g c = let n = (goal.at.jobs-requires g c).In-None in record {
  off = sym c.start-start.ensures ∙ c.in-CalledOff.is;
  given = given g n _ _ c.decide-decision.ensures c.of-2.ensures;
  all = (let a = as_many g n in let b : vec_len c.of-all_jobs.result.value ≡ vec_len c.captures.jobs = ap vec_len c.of-all_jobs.ensures in let e = c.starting.workers.ok in let f = c.captures.jobs.ok in omega arith);
  empty = c.in-Ok-Ok-Ok.ensures''.items;
  room = (let a = as_many g n in let b = c.in-Ok-Ok-Ok.ensures''.capacity in let d = c.len-count.ensures in let e = c.starting.workers.ok in let f = c.captures.jobs.ok in omega arith);
}

pub returns-in-Go : goal.returns-in-Go
returns-in-Go g c = let n = (goal.at.returns-in-Go g c).In-None in record {
  count = (let a = c.results.ensures.count in let b = as_many g n in let e = c.starting.workers.ok in let f = c.captures.jobs.ok in omega arith);
  gives = subst (λ v. AllGiven (g.K.Task.gives c.captures.task.now) v.items c.results.result.items) c.of-all_jobs.ensures
      (subst (λ t. AllGiven (g.K.Task.gives t) c.of-all_jobs.result.value.items c.results.result.items) c.of-2.ensures c.results.ensures.gives);
  back = tt;
}
