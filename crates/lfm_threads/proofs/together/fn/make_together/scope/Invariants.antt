use Rattle.std.proofs.Common.{◌≡◌, ◌+◌, ◌≤◌, ℕ, length, vec_capacity}
use Rattle.std.specs.Vec.Iter.{into_iter_items, into_iter_len}
use mathlib.Core.Option.{some}
use lib.ListN.{get_elem?}
use Rattle.lfm_threads.specs.Workers.{AllHaveJobs}
use Rattle.lfm_threads.proofs.together.fn.make_together.scope.Given as goal

-- each job so far has been given to a worker; the other jobs are still to be given
abbrev pub invariant-starting : goal.invariant-starting
invariant-starting g l = record {
  long : into_iter_len l.job-iterator ≡ length (into_iter_items l.job-iterator);
  size : length l.workers.items + length (into_iter_items l.job-iterator) ≡ length l.all_jobs.value.items;
  room : length l.all_jobs.value.items ≤ vec_capacity l.workers;
  rest : (i : ℕ) (p : _) → get_elem? (into_iter_items l.job-iterator) i ≡ some p → get_elem? l.all_jobs.value.items (length l.workers.items + i) ≡ some p;
  given : AllHaveJobs g.K.Task l.task l.at_latch.start.id l.all_jobs.value.items l.workers.items;
}
