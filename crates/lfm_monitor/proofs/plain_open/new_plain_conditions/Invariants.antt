use Rattle.std.proofs.Common.{◌≡◌, ℕ, ◌+◌, vec_len, vec_capacity}
use lib.ListN.{get_elem?}
use mathlib.Core.Option.{some}
use Rattle.lfm_mutex.specs.Paces.{usual_pace}
use Rattle.lfm_monitor.specs.PlainSeats.{AreNewPlainSeatsOf, ArePlainConditions, ArePlainPaced}
use Rattle.lfm_monitor.proofs.plain_open.new_plain_conditions.Given as goal

abbrev pub invariant-makes : goal.invariant-makes
invariant-makes l = record {
  made : (vec_len l.conditions ≡ l.counter) × (vec_capacity l.conditions ≡ l.count);
  alike : ArePlainConditions l.passes l.conditions.items;
  paced : ArePlainPaced usual_pace l.conditions.items;
  wide : vec_len l.plain_seats ≡ l.passes;
  dealt : (j : ℕ) (r : _) → get_elem? l.plain_seats.items j ≡ some r → (vec_capacity r ≡ l.count) × AreNewPlainSeatsOf l.passes (j + 1) r.items l.conditions.items;
}
