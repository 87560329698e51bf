-- What a contract sees of the table, of a seat at it, and of the table after it is closed.
use Rattle.std.specs.Prelude.{ℕ, List, Option}
use Rattle.atomic_table.specs.Seated.{TableId}
use Rattle.atomic_table.specs.Table.{Me}
use Rattle.lfm_table.specs.declared.seat_view.View.{View}
use Rattle.lfm_table.specs.declared.rule.Moving.{Moving}

-- which table it is, and how many words and slots it has
pub record SeenTable : Type 0 where
  pub table_id : TableId

-- the table of the seat, the place of its view there, and the view and the slots that it has
pub record SeenPlace (T : Type 0) : Type 0 where
  pub table_id : TableId
  pub id : ℕ
  pub me : Me (Option (Moving T)) (View T)

-- the numbers in the words, and the contents of the slots
pub record SeenClosed (T : Type 0) : Type 0 where
  pub words : List ℕ
  pub slots : List (Option (Moving T))
