-- The pop list as a list of records.
use Rattle.std.specs.Prelude.{ℕ, List, [], ◌∷◌, Option, Some, None}
use Rattle.lfm_words.specs.declared.pop_lists.Record.{Record}

-- records: the popped records, oldest first
-- room: how many records fit into the list
pub record Popped : Type 0 where
  pub records : List Record
  pub room : ℕ

-- the oldest record, if there is one
abbrev pub oldest : List Record → Option Record
oldest [] = None
oldest (r ∷ rest) = Some r

-- a record as a pair of seat and stamp
abbrev pub pair_of : Record → ℕ × ℕ
pair_of r = (r.seat, r.stamp)
