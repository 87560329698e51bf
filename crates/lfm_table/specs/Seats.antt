-- How a seat's own data agree with its view.
use Rattle.std.specs.Prelude.{◌≡◌, ℕ, ◌+◌, ◌*◌, ◌<◌, ◌≤◌, length, Option, Some}
use Rattle.atomic_table.specs.Table.{Me}
use Rattle.lfm_protocol.specs.declared.limits.Limits.{Limits}
use Rattle.lfm_protocol.specs.declared.seats.SeatState.{SeatState}
use Rattle.lfm_protocol.specs.Limits.{max_seats}
use Rattle.lfm_laws.specs.table.Carried.{carries_value}
use Rattle.lfm_table.specs.declared.seat_view.Role.TheVariants.{User}
use Rattle.lfm_table.specs.declared.seat_view.View.{View}
use Rattle.lfm_table.specs.declared.rule.Moving.{Moving}
use Rattle.lfm_table.specs.Rule.{in_hand, is_carried}

pub record Seated {T : Type 0} (number : ℕ) (l : Limits) (p : SeatState) (m : Me (Option (Moving T)) (View T)) (a : Option (Moving T)) : Type 0 where
  pub user : m.0.role ≡ User
  pub named : m.0.number ≡ number
  pub limits_are : m.0.limits ≡ l
  pub hand : m.1 ≡ in_hand (carries_value p)
  pub moved : is_carried a ≡ carries_value p
  pub listed : (x : Moving T) → a ≡ Some x → x.popped.records ≡ m.0.popped
  pub room : (x : Moving T) → a ≡ Some x → x.popped.room ≡ l.seats
  pub kept : p.depth ≡ 0 → (x : Moving T) → a ≡ Some x → m.0.found ≡ Some x.value

-- a seat's number, and what seat 1 knows, which splits the other seats off and joins them
pub record Rooted {T : Type 0} (words id number : ℕ) (l : Limits) (v : View T) : Type 0 where
  pub low : 0 < number
  pub high : number ≤ l.seats
  pub few : l.seats ≤ max_seats
  pub wide : 4 + 2 * l.seats ≡ words
  pub first : number ≡ 1 → id ≡ 0
  pub made : number ≡ 1 → v.made + 1 ≡ l.seats
  pub back : number ≡ 1 → length v.joined ≡ 0
