-- How many turns of a run are made after some of its tenths.
use Rattle.std.specs.Prelude.{ℕ, ◌*◌, ◌/◌}

abbrev pub until : ℕ → ℕ → ℕ
until turns tenths = turns * tenths / 10
