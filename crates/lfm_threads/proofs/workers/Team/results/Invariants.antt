use Rattle.std.proofs.Common.{◌≡◌, ◌+◌, ◌≤◌, ℕ, length, vec_capacity, vec_len}
use Rattle.std.specs.Vec.Iter.{into_iter_items, into_iter_len}
use mathlib.Core.Option.{some}
use lib.ListN.{get_elem?}
use Rattle.lfm_threads.specs.Together.{AllGiven}
use Rattle.lfm_threads.proofs.workers.Team.results.Given as goal

-- the result of each job so far has been stored; the other workers are still to be joined
abbrev pub invariant-joining : goal.invariant-joining
invariant-joining g l = record {
  long : into_iter_len l.worker-iterator ≡ length (into_iter_items l.worker-iterator);
  size : length l.results.items + length (into_iter_items l.worker-iterator) ≡ vec_len l.fn.self.workers;
  room : vec_len l.fn.self.workers ≤ vec_capacity l.results;
  rest : (i : ℕ) (w : _) → get_elem? (into_iter_items l.worker-iterator) i ≡ some w → get_elem? l.fn.self.workers.items (length l.results.items + i) ≡ some w;
  gives : AllGiven (g.K.Task.gives l.fn.self.task.value) l.fn.self.jobs.value.items l.results.items;
}
