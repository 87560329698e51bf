-- What an atomic step does to the abstract mutex, by the seat's point and by what the step finds: its case, the record that it
-- pushes, the record that it removes from the queue, and the queued record by which it answers that the seat holds.
use Rattle.std.specs.Prelude.{ℕ, ◌+◌, Option, Some, None, List, [], ◌∷◌, nat_eq, if◌then◌else◌}
use Rattle.lfm_model.specs.AbstractRuns.{Case, ask, queue, serve, post, take, accept, take_up, enter, release, leave}
use Rattle.lfm_model.specs.declared.answers.Asked.{Asked}
use Rattle.lfm_model.specs.declared.answers.How.{How}
use Rattle.lfm_model.specs.declared.answers.Locked.{Locked}
use Rattle.lfm_protocol.specs.declared.answers.Answer.{Answer}
use Rattle.lfm_protocol.specs.declared.answers.Turn.{Turn}
use Rattle.lfm_protocol.specs.declared.answers.Turn.TheVariants.{Ended}
use Rattle.lfm_protocol.specs.declared.points.Entrant.{Entrant}
use Rattle.lfm_protocol.specs.declared.points.Point.{Point}
use Rattle.lfm_protocol.specs.declared.points.Point.TheVariants.{LockCountAdd, TryCountExchange, SendCountAdd, ReleaseCountSubtract, EnterOwnerStore, ReleaseOwnerStore, PushExchange, PushedHandoffExchange, ReleaseHandoffExchange, TryHandoffExchange, ReleaseHandoffStore, ReceiveWakeLoad, GrantWakeStore, SendWakeStore}
use Rattle.lfm_protocol.specs.declared.seats.SeatState.{SeatState}
use Rattle.lfm_words.specs.declared.pop_lists.Record.{Record}
use Rattle.lfm_words.specs.declared.wakes.Wake.{Wake}
use Rattle.lfm_words.specs.declared.wakes.Wake.TheVariants.{Grant}
use Rattle.lfm_protocol.specs.After.{same_link, same_handoff}
use Rattle.lfm_protocol.specs.Core.{Core}
use Rattle.lfm_protocol.specs.Points.{pushed_seat}
use Rattle.lfm_protocol.specs.Seats.{seat, wake}

-- a locker that already holds adds one to the count and does not ask
abbrev pub asks_at : ℕ → ℕ → Option Case
asks_at count depth = if nat_eq count 0 then Some ask else (if nat_eq depth 0 then Some ask else None)

-- a locker that has taken its own record serves itself
abbrev pub enters_by : Entrant → How → Case
enters_by Entrant.Locker How.Free = enter
enters_by Entrant.Locker (How.Queued stamp) = serve
enters_by Entrant.Trier how = enter
enters_by Entrant.Receiver how = enter

abbrev pub takes_up : Wake → Option Case
takes_up (Grant stamp) = Some take_up
takes_up _ = None

-- the case of the step at this point
abbrev pub case_at : Core → ℕ → SeatState → Point → Option Case
case_at c s x LockCountAdd = asks_at c.count x.depth
case_at c s x TryCountExchange = if nat_eq c.count 0 then Some ask else None
case_at c s x (SendCountAdd t) = Some ask
case_at c s x (ReleaseCountSubtract releaser) = Some leave
case_at c s x (EnterOwnerStore entrant how) = Some (enters_by entrant how)
case_at c s x (ReleaseOwnerStore releaser) = Some release
case_at c s x (PushExchange pusher seen) = if same_link c.push seen then Some queue else None
case_at c s x (PushedHandoffExchange pusher seen) = if same_handoff c.handoff seen then Some take else None
case_at c s x (ReleaseHandoffExchange releaser) = if same_handoff c.handoff (record { seat = s; post = x.posts }) then Some take else None
case_at c s x (TryHandoffExchange seen) = if same_handoff c.handoff seen then Some accept else None
case_at c s x (ReleaseHandoffStore releaser) = Some post
case_at c s x (ReceiveWakeLoad sleeper) = takes_up (wake c.wakes s)
case_at c s x (GrantWakeStore carrier oldest) = Some serve
case_at c s x (SendWakeStore t) = Some enter
case_at c s x _ = None

-- the case of the step that seat s makes next, none if the abstract mutex is unchanged
abbrev pub case_of_step : Core → ℕ → Option Case
case_of_step c s = case_at c s (seat c.seats s) (seat c.seats s).point

-- the record that a step at this point pushes
abbrev pub pushed_at_point : Core → ℕ → Point → List Record
pushed_at_point c s (PushExchange pusher seen) =
    if same_link c.push seen then record { seat = pushed_seat pusher s; stamp = seen.stamp + 1 } ∷ [] else []
pushed_at_point c s _ = []

abbrev pub pushed_by : Core → ℕ → List Record
pushed_by c s = pushed_at_point c s (seat c.seats s).point

abbrev pub popped_to_enter : ℕ → Entrant → How → List Record
popped_to_enter s Entrant.Locker (How.Queued stamp) = record { seat = s; stamp = stamp } ∷ []
popped_to_enter s _ how = []

-- the record that a step at this point removes from the queue: by the store that grants it, or by the owner store of its own
-- seat
abbrev pub popped_at_point : ℕ → Point → List Record
popped_at_point s (EnterOwnerStore entrant how) = popped_to_enter s entrant how
popped_at_point s (GrantWakeStore carrier oldest) = oldest ∷ []
popped_at_point s _ = []

abbrev pub popped_by : Core → ℕ → List Record
popped_by c s = popped_at_point s (seat c.seats s).point

-- the record of a seat that holds by its queued record
abbrev pub held_record : ℕ → How → List Record
held_record s How.Free = []
held_record s (How.Queued stamp) = record { seat = s; stamp = stamp } ∷ []

abbrev pub answered_asked : ℕ → Asked → List Record
answered_asked s (Asked.Held how) = held_record s how
answered_asked s _ = []

abbrev pub answered_locked : ℕ → Locked → List Record
answered_locked s (Locked.Held how) = held_record s how
answered_locked s _ = []

abbrev pub answered_got : ℕ → Option How → List Record
answered_got s None = []
answered_got s (Some how) = held_record s how

abbrev pub answered : ℕ → Answer → List Record
answered s (Answer.Asked asked) = answered_asked s asked
answered s (Answer.Locked locked) = answered_locked s locked
answered s (Answer.Got got) = answered_got s got
answered s _ = []

-- the queued record by which seat s holds, if this turn answers a hold
abbrev pub answered_by : ℕ → Turn → List Record
answered_by s (Ended answer) = answered s answer
answered_by s _ = []
