-- A seat after a borrow of its value has ended.
use Rattle.std.specs.Prelude.{◌≡◌, OnSome, Option, Some}
use Rattle.std.specs.Borrow.{LendsSo, MutBor, Fml, RattleType}
use Rattle.lfm_mutex.specs.declared.seat.Seat.{Seat}
use Rattle.lfm_mutex.specs.contracts.seat.Seat.{the_row}
use Rattle.lfm_table.specs.Rule.{put_value}
use Rattle.lfm_mutex.specs.calls.Sight.{sight}

-- a value was written, and nothing else of the seat has changed
abbrev pub Written : {T : Type 0} → Seat T → T → Seat T → Type 0
Written s w n = (sight n ≡ record (sight s) { value = Some w }) × (n.table_seat.place ≡ s.table_seat.place) × (n.state ≡ s.state) × (n.table_seat.limits ≡ s.table_seat.limits) × (n.table_seat.moving ≡ put_value s.table_seat.moving w) × (n.off_trail ≡ s.off_trail)

abbrev pub LendsValue : (R : RattleType) → MutBor (Seat R.Denot) → Option (MutBor R.Denot) → Fml
LendsValue R s r =
    LendsSo (the_row R) R s r (λ n w. OnSome r (Written s.now w n))
    (λ n. (n.state ≡ s.now.state) × (n.table_seat.number ≡ s.now.table_seat.number) × (n.table_seat.limits ≡ s.now.table_seat.limits) × (n.table_seat.place ≡ s.now.table_seat.place) × (n.table_seat.moving ≡ s.now.table_seat.moving) × (n.off_trail ≡ s.now.off_trail))
