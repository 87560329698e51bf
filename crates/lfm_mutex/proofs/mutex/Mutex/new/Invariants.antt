use Rattle.std.proofs.Common.{length, ◌≡◌, ◌≤◌, ◌+◌, ℕ, [], vec_len, vec_capacity, Some, None}
use mathlib.Core.Option.{some}
use lib.ListN.{get_elem?}
use Rattle.lfm_protocol.specs.Seats.{absent}
use Rattle.lfm_table.specs.declared.seat_view.Role.TheVariants.{User}
use Rattle.lfm_mutex.specs.Fresh.{Fresh}
use Rattle.lfm_mutex.proofs.mutex.Mutex.new.Given as goal

abbrev pub invariant-loop-i : goal.invariant-loop-i
invariant-loop-i g l = record {
  table : l.root.table_id ≡ l.table.table_id;
  id : l.root.id ≡ 0;
  role : l.root.me.0.role ≡ User;
  number : l.root.me.0.number ≡ 1;
  limits_are : l.root.me.0.limits ≡ l.limits;
  hand : l.root.me.1 ≡ [];
  made : l.root.me.0.made + 1 ≡ l.i;
  joined : length l.root.me.0.joined ≡ 0;
  opening : l.root.me.0.opening ≡ Some l.fn.value;
  last : l.root.me.0.last ≡ Some l.fn.value;
  found : l.root.me.0.last_found ≡ None;
  ended : l.root.me.0.ended ≡ 0;
  trail : l.root.me.0.trail ≡ [];
  actions : l.root.me.0.actions ≡ [];
  state : l.root.me.0.state ≡ absent;
  room : (length l.all.items + 1 ≡ l.i) × (vec_len l.all + 1 ≡ l.i) × (l.seats ≤ vec_capacity l.all);
  fresh : (j : ℕ) (s : _) → get_elem? l.all.items j ≡ some s → (s.table_seat.place.table_id ≡ l.table.table_id) × Fresh l.fn.value (j + 2) s.table_seat.number s.table_seat.limits s.state s.table_seat.place.me s.table_seat.moving l.limits;
}
