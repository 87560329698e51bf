use Rattle.std.proofs.Common.{◌≡◌, ℕ, ◌<◌}
use lib.ListN.{get_elem?}
use mathlib.Core.Option.{some}
use Rattle.lfm_plain_condvar.specs.declared.condvar.PlainCondvar.{PlainCondvar}
use Rattle.lfm_monitor.specs.PlainSeats.{SamePlainButPaces}
use Rattle.lfm_monitor.proofs.plain_paces.set_plain_paces.Given as goal

abbrev pub invariant-setting : goal.invariant-setting
invariant-setting l = record {
  same : SamePlainButPaces l.fn.conditions.items l.condition-items;
  paced : (i : ℕ) (v : PlainCondvar) → i < l.condition-index → get_elem? l.condition-items i ≡ some v → v.inner.pace ≡ l.pace;
}
