use Rattle.std.proofs.Common.{◌≡◌, ◌+◌, ◌≤◌, ◌⊎◌, ℕ, [], vec_len, length}
use mathlib.Core.Option.{some}
use lib.ListN.{get_elem?}
use Rattle.lfm_protocol.specs.declared.points.Point.TheVariants.{Rest}
use Rattle.lfm_table.specs.declared.seat_view.Role.TheVariants.{User}
use Rattle.lfm_table.specs.Rule.{joined_of}
use Rattle.lfm_mutex.proofs.mutex.Mutex.close.Given as goal

abbrev pub invariant-loop-seat : goal.invariant-loop-seat
invariant-loop-seat g l = record {
  table : l.root.table_id ≡ l.table.table_id;
  root : (l.root.id ≡ 0) × (l.root.me.0.role ≡ User) × (l.root.me.1 ≡ []) × (l.root.me.0.state.point ≡ Rest) × (l.root.me.0.state.depth ≡ 0);
  limits : l.root.me.0.limits ≡ l.fn.self.limits;
  counts : l.root.me.0.made ≤ length l.root.me.0.joined + vec_len l.seats;
  all : (l.root.me.0.made + 1 ≡ l.fn.self.limits.seats) × (length l.root.me.0.joined + vec_len l.seats + 1 ≡ vec_len l.fn.seats);
  seats : (j : ℕ) (s : _) → get_elem? l.seats.items j ≡ some s → ((g.P.Holder.seat_of s).table_seat.place.table_id ≡ l.table.table_id) × ((g.P.Holder.seat_of s).state.depth ≡ 0) × ((g.P.Holder.seat_of s).state.point ≡ Rest);
  each : (j : ℕ) (s : _) → get_elem? l.fn.seats.items j ≡ some s →
      ((i : ℕ) × (get_elem? l.seats.items i ≡ some s)) ⊎ (((i : ℕ) × (get_elem? l.root.me.0.joined i ≡ some (joined_of (g.P.Holder.seat_of s).table_seat.place.me.0))) ⊎ ((l.root.me.0.last ≡ (g.P.Holder.seat_of s).table_seat.place.me.0.last) × (l.root.me.0.number ≡ (g.P.Holder.seat_of s).table_seat.place.me.0.number) × (l.root.me.0.last_found ≡ (g.P.Holder.seat_of s).table_seat.place.me.0.last_found) × (l.root.me.0.ended ≡ (g.P.Holder.seat_of s).table_seat.place.me.0.ended) × (l.root.me.0.trail ≡ (g.P.Holder.seat_of s).table_seat.place.me.0.trail) × (l.root.me.0.actions ≡ (g.P.Holder.seat_of s).table_seat.place.me.0.actions)));
  still : (i : ℕ) (s : _) → get_elem? l.seats.items i ≡ some s → (j : ℕ) × (get_elem? l.fn.seats.items j ≡ some s);
  own : (j : ℕ) × (s : _) × (get_elem? l.fn.seats.items j ≡ some s) × ((g.P.Holder.seat_of s).table_seat.place.me.0.last ≡ l.root.me.0.last) × ((g.P.Holder.seat_of s).table_seat.place.me.0.last_found ≡ l.root.me.0.last_found)
      × ((g.P.Holder.seat_of s).table_seat.place.me.0.number ≡ l.root.me.0.number) × ((g.P.Holder.seat_of s).table_seat.place.me.0.ended ≡ l.root.me.0.ended);
  only : (i : ℕ) (b : _) → get_elem? l.root.me.0.joined i ≡ some b → (j : ℕ) × (s : _) × (get_elem? l.fn.seats.items j ≡ some s) × ((g.P.Holder.seat_of s).table_seat.place.me.0.last ≡ b.last) × ((g.P.Holder.seat_of s).table_seat.place.me.0.last_found ≡ b.found)
      × ((g.P.Holder.seat_of s).table_seat.place.me.0.number ≡ b.number) × ((g.P.Holder.seat_of s).table_seat.place.me.0.ended ≡ b.ended);
}

abbrev pub decreases-loop-seat : goal.decreases-loop-seat
decreases-loop-seat g l = goal.left-loop-seat g l

abbrev pub ghosts-retire : goal.ghosts-retire
ghosts-retire g a = record { view = a.place.me.0 }
