use Rattle.std.proofs.Common.{◌≡◌, ℕ, ◌<◌}
use lib.ListN.{get_elem?}
use mathlib.Core.Option.{some}
use Rattle.lfm_condvar.specs.declared.condvar.Condvar.{Condvar}
use Rattle.lfm_monitor.specs.CondSeats.{SameButPaces}
use Rattle.lfm_monitor.proofs.monitor.set_paces.Given as goal

abbrev pub invariant-setting : goal.invariant-setting
invariant-setting l = record {
  same : SameButPaces l.fn.conditions.items l.condition-items;
  paced : (i : ℕ) (v : Condvar) → i < l.condition-index → get_elem? l.condition-items i ≡ some v → v.inner.pace ≡ l.pace;
}
