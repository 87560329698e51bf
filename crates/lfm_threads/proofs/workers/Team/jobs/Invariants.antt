use Rattle.std.proofs.Common.{◌≡◌, ◌+◌, ◌≤◌, ℕ, length, vec_capacity, vec_len}
use Rattle.std.specs.Vec.Iter.{into_iter_items, into_iter_len}
use mathlib.Core.Option.{some}
use lib.ListN.{get_elem?}
use Rattle.lfm_threads.proofs.workers.Team.jobs.Given as goal

-- each job so far has been returned; the other workers are still to be joined
abbrev pub invariant-joining : goal.invariant-joining
invariant-joining g l = record {
  long : into_iter_len l.worker-iterator ≡ length (into_iter_items l.worker-iterator);
  size : length l.jobs.items + length (into_iter_items l.worker-iterator) ≡ vec_len l.fn.self.workers;
  room : vec_len l.fn.self.workers ≤ vec_capacity l.jobs;
  rest : (i : ℕ) (w : _) → get_elem? (into_iter_items l.worker-iterator) i ≡ some w → get_elem? l.fn.self.workers.items (length l.jobs.items + i) ≡ some w;
  same : (j : ℕ) (p : _) → get_elem? l.jobs.items j ≡ some p → get_elem? l.fn.self.jobs.value.items j ≡ some p;
}
