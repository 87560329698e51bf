use Rattle.std.proofs.Common.{◌≡◌, ◌+◌, ◌<◌, ◌≤◌, ℕ, Option, length, vec_capacity}
use Rattle.std.specs.Vec.Iter.{into_iter_items, into_iter_len}
use mathlib.Core.Option.{some}
use lib.ListN.{get_elem?}
use Rattle.lfm_model.specs.declared.refusals.Refusal.{Refusal}
use Rattle.lfm_program.specs.ScriptRuns.{EndsSo}
use Rattle.lfm_program.specs.declared.workers.Worked.{Worked}
use Rattle.lfm_program.proofs.script_run.divide.Given as goal

-- the workers so far are divided, and the others are still in the list
abbrev pub invariant-dividing : goal.invariant-dividing
invariant-dividing l = record {
  long : into_iter_len l.one-iterator ≡ length (into_iter_items l.one-iterator);
  size : length l.passes.items + length (into_iter_items l.one-iterator) ≡ length l.fn.worked.items;
  same : length l.refusals.items ≡ length l.passes.items;
  room : (length l.fn.worked.items ≤ vec_capacity l.passes) × (length l.fn.worked.items ≤ vec_capacity l.refusals);
  rest : (i : ℕ) (w : Worked) → get_elem? (into_iter_items l.one-iterator) i ≡ some w → get_elem? l.fn.worked.items (length l.passes.items + i) ≡ some w;
  each : (j : ℕ) (w : Worked) → j < length l.passes.items → get_elem? l.fn.worked.items j ≡ some w
      → (get_elem? l.passes.items j ≡ some w.pass) × ((r : Option Refusal) × (get_elem? l.refusals.items j ≡ some r) × EndsSo w.end r);
}
