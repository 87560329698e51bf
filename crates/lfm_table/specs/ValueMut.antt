-- What a seat at the table is after a borrow of the value in its hand ends.
use Rattle.std.specs.Prelude.{Option}
use Rattle.std.specs.Borrow.{LendsIf, MutBor, Fml, RattleType}
use Rattle.lfm_table.specs.declared.table_seat.TableSeat.{TableSeat}
use Rattle.lfm_table.specs.contracts.table_seat.TableSeat.{the_row}
use Rattle.lfm_table.specs.Rule.{put_value}

-- the value may have been written; the rest of the seat is unchanged
abbrev pub LendsHand : (R : RattleType) → MutBor (TableSeat R.Denot) → Option (MutBor R.Denot) → Fml
LendsHand R s r = LendsIf (the_row R) R s r (λ w. record s.now { moving = put_value s.now.moving w }) s.now
