use Rattle.std.proofs.Common.{◌≡◌, ℕ, ◌<◌, ◌≤◌}
use mathlib.Core.Option.{some}
use lib.ListN.{get_elem?}
use Rattle.lfm_mutex.specs.calls.Sight.{sight}
use Rattle.lfm_plain_condvar.specs.declared.plain_seat.PlainSeat.{PlainSeat}
use Rattle.lfm_plain_condvar.specs.Belongs.{inner_seats}
use Rattle.lfm_plain_condvar.specs.Parkers.{times}
use Rattle.lfm_plain_condvar.proofs.close.take_wakers.Given as goal

-- the wakers of the plain seats so far were taken, and the others are as they were
abbrev pub invariant-gathered : goal.invariant-gathered
invariant-gathered l = record {
  same : inner_seats l.seat-items ≡ inner_seats l.fn.seats.items;
  rest : (j : ℕ) (s : PlainSeat) → l.seat-index ≤ j → get_elem? l.seat-items j ≡ some s → get_elem? l.fn.seats.items j ≡ some s;
  all : l.all.seat.table_id ≡ l.parkers.table.shared.table_id;
  has : (j : ℕ) (s : PlainSeat) → j < l.seat-index → get_elem? l.fn.seats.items j ≡ some s → 0 < times (sight s.seat).number l.all.seat.me.0.wakers;
}
