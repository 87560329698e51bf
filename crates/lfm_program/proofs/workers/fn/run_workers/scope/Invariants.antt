use Rattle.std.proofs.Common.{◌≡◌, ◌+◌, ◌≤◌, ℕ, length, vec_capacity}
use Rattle.std.specs.Vec.Iter.{into_iter_items, into_iter_len}
use mathlib.Core.Option.{some}
use lib.ListN.{get_elem?}
use Rattle.lfm_program.proofs.workers.fn.run_workers.scope.Given as goal

-- a thread was started for each pass so far, with the pass and the commands at its place; the other passes are still in the
-- list
abbrev pub invariant-starting : goal.invariant-starting
invariant-starting g l = record {
  long : into_iter_len l.pass-iterator ≡ length (into_iter_items l.pass-iterator);
  size : length l.handles.items + length (into_iter_items l.pass-iterator) ≡ length (into_iter_items l.initial.pass-iterator);
  scripts : length (into_iter_items l.initial.pass-iterator) ≡ length l.scripts;
  room : length l.scripts ≤ vec_capacity l.handles;
  rest : (i : ℕ) (p : _) → get_elem? (into_iter_items l.pass-iterator) i ≡ some p → get_elem? (into_iter_items l.initial.pass-iterator) (length l.handles.items + i) ≡ some p;
  handles : (j : ℕ) (h : _) → get_elem? l.handles.items j ≡ some h → (h.promise.monitor.value ≡ l.monitor) × (get_elem? (into_iter_items l.initial.pass-iterator) j ≡ some h.promise.pass.value)
      × (get_elem? l.scripts j ≡ some h.promise.commands.value) × (h.promise.gate.value ≡ l.gate);
}
