-- A seat, and the table of a mutex, when they are made.
use Rattle.std.specs.Prelude.{◌≡◌, ◌+◌, ◌*◌, ℕ, [], Option, Some, None}
use Rattle.lfm_table.specs.Table.{Me}
use Rattle.lfm_protocol.specs.declared.limits.Limits.{Limits}
use Rattle.lfm_protocol.specs.declared.seats.SeatState.{SeatState}
use Rattle.lfm_protocol.specs.Seats.{absent}
use Rattle.lfm_table.specs.declared.seat_view.View.{View}
use Rattle.lfm_table.specs.declared.rule.Moving.{Moving}
use Rattle.lfm_table.specs.Rule.{first_view}
use Rattle.lfm_table.specs.SeenTable.{SeenTable, SeenPlace}

abbrev pub Fresh : {T : Type 0} → T → ℕ → ℕ → Limits → SeatState → Me (Option (Moving T)) (View T) → Option (Moving T) → Limits → Type 0
Fresh v k number l p m a all = (number ≡ k) × (l ≡ all) × (p ≡ absent) × (a ≡ None) × (m.0.trail ≡ []) × (m.0.last ≡ Some v) × (m.0.last_found ≡ None) × (m.0.limits ≡ all) × (m.0.ended ≡ 0) × (m.0.actions ≡ [])

-- the table has the words of a mutex with these limits and one slot, and its first seat has the view of a mutex with this value
abbrev pub IsFirstAt : {T : Type 0} → SeenTable → Limits → T → SeenPlace T → Type 0
IsFirstAt t l v s = (t.table_id.words ≡ 4 + 2 * l.seats) × (t.table_id.slots ≡ 1) × (s.table_id ≡ t.table_id) × (s.id ≡ 0) × (s.me ≡ (first_view l v, []))
