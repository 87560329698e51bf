-- What a seat knows of the run of its mutex's table, and that the run continues from there.
use Rattle.std.specs.Prelude.{◌≡◌, List}
pub use Rattle.lfm_table.specs.declared.seat_view.Action.{Action}
use Rattle.lfm_table.specs.Actions.{RunGoesOn}
use Rattle.lfm_mutex.specs.declared.seat.Seat.{Seat}
use Rattle.lfm_mutex.specs.calls.Sight.{sight}

-- the actions of all seats that the seat knows: the run up to its own last step or load of the owner word, after which only
-- others have acted
abbrev pub past_of : {T : Type 0} → Seat T → List Action
past_of s = s.table_seat.place.me.0.actions

-- The run goes on from what the seat knew as s to what it knows as t, by the actions between. The seat's trail has grown by its
-- part of these, and all other steps among them were made by other seats. The last of them is the seat's own last step or load.
-- If the seat made none, there are no actions between.
abbrev pub RunGoesOnFrom : {T : Type 0} → Seat T → Seat T → Type 0
RunGoesOnFrom s t = RunGoesOn s.table_seat.place.me.0 t.table_seat.place.me.0

-- if the seat's trail has not grown since, the seat knows no more than before
abbrev pub SameTrailsKnowTheSame : Type 0 → Type 0
SameTrailsKnowTheSame T = (s t : Seat T) → RunGoesOnFrom s t → (sight t).trail ≡ (sight s).trail → past_of t ≡ past_of s
