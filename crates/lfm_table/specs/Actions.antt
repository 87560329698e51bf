-- The run of a table: the actions of its seats since its opening, in order. This file also defines what each seat records of
-- them in its trail, and how the run continues from what a seat knows. An action is an event of the core, or a load of the
-- owner word by `owner`.
use Rattle.std.specs.Prelude.{◌≡◌, ◌⊎◌, ℕ, ◌+◌, ◌<◌, List, [], ◌∷◌, ◌++◌, length, nat_eq, slice_index, filter, if◌then◌else◌, Option, Some, Bool, true, false}
use mathlib.Core.Option.{some}
use lib.ListN.{get_elem?}
use Rattle.lfm_protocol.specs.declared.answers.Call.{Call}
use Rattle.lfm_protocol.specs.declared.kinds.Kind.{Kind}
use Rattle.lfm_protocol.specs.declared.limits.Limits.{Limits}
use Rattle.lfm_protocol.specs.declared.points.Point.{Point}
use Rattle.lfm_protocol.specs.declared.points.Point.TheVariants.{TryOwnerLoad}
use Rattle.lfm_protocol.specs.declared.seats.SeatState.{SeatState}
use Rattle.lfm_protocol.specs.Core.{Core}
use Rattle.lfm_protocol.specs.Limits.{are_in_limits}
use Rattle.lfm_protocol.specs.Points.{kind}
use Rattle.lfm_protocol.specs.Seats.{seat}
use Rattle.lfm_protocol.specs.Step.{start}
use Rattle.lfm_laws.specs.laws.Schedules.{Event, begins, makes, happens, reached}
use Rattle.lfm_laws.specs.table.Words.{words, index, written}
use Rattle.lfm_table.specs.declared.seat_view.Action.{Action}
use Rattle.lfm_table.specs.declared.seat_view.Action.TheVariants.{Begins, Makes, LoadsOwner}
use Rattle.lfm_table.specs.declared.seat_view.Seen.{Seen}
use Rattle.lfm_table.specs.declared.seat_view.View.{View}
use Rattle.lfm_table.specs.Settled.{calls_to}

-- What a seat records

abbrev pub seen : Point → ℕ → Seen
seen point n = record { point = point; found = n }

-- a step of this kind stores, and finds nothing
abbrev pub stores : Option Kind → Bool
stores (Some Kind.OwnerStore) = true
stores (Some Kind.LinkStore) = true
stores (Some Kind.HandoffStore) = true
stores (Some Kind.WakeStore) = true
stores _ = false

-- what is recorded of a step that stored the first number, or found the second
abbrev pub told_of : Bool → ℕ → ℕ → ℕ
told_of true stored found = stored
told_of false stored found = found

-- the number that seat s with data x records of its step: what it stored, or else n, which it found
abbrev pub told : SeatState → ℕ → ℕ → ℕ
told x s n = told_of (stores (kind x.point)) (written x s n) n

-- what seat s with data x records of its step at the words of c, among this many seats
abbrev pub noted_as : Core → ℕ → SeatState → ℕ → Seen
noted_as c s x seats = seen x.point (told x s (slice_index (words c) (index x seats s)))

-- what seat s records of its next step
abbrev pub noted : Core → ℕ → Seen
noted c s = noted_as c s (seat c.seats s) (length c.seats)

-- Actions

-- the seat that acts
abbrev pub actor : Action → ℕ
actor (Begins s call) = s
actor (Makes s) = s
actor (LoadsOwner s) = s

-- those of these actions that seat t made
abbrev pub own_of : ℕ → List Action → List Action
own_of t actions = filter (λ (a : Action). nat_eq (actor a) t) actions

-- Seat t records this action in its trail: the action is a step of the seat, or its load of the owner word.
abbrev pub IsNotedBy : ℕ → Action → Type 0
IsNotedBy t (Begins s call) = ⊥
IsNotedBy t (Makes s) = s ≡ t
IsNotedBy t (LoadsOwner s) = s ≡ t

-- The last of these actions is one that seat t records.
abbrev pub LastIsOwn : ℕ → List Action → Type 0
LastIsOwn t actions = (before : List Action) × (last : Action) × (actions ≡ before ++ last ∷ []) × IsNotedBy t last

-- There is no action, or the last one is one that seat t records: neither the start of a call, nor an action of another seat.
abbrev pub EndsWithOwn : ℕ → List Action → Type 0
EndsWithOwn t actions = (actions ≡ []) ⊎ LastIsOwn t actions

-- the events among these actions
abbrev pub events_of : List Action → List Event
events_of [] = []
events_of (Begins s call ∷ later) = begins s call ∷ events_of later
events_of (Makes s ∷ later) = makes s ∷ events_of later
events_of (LoadsOwner s ∷ later) = events_of later

-- the state after an action
abbrev pub after_action : Core → Action → Core
after_action c (Begins s call) = (happens c (begins s call)).core
after_action c (Makes s) = (happens c (makes s)).core
after_action c (LoadsOwner s) = c

-- what the trail of seat t gets of an entry that seat s makes
abbrev pub if_own : ℕ → ℕ → Seen → List Seen
if_own s t x = if nat_eq s t then x ∷ [] else []

-- what seat t records of an action; nothing for the start of a call
abbrev pub noted_of : Core → ℕ → Action → List Seen
noted_of c t (Begins s call) = []
noted_of c t (Makes s) = if_own s t (noted c s)
noted_of c t (LoadsOwner s) = if_own s t (seen TryOwnerLoad c.owner)

-- the part of seat t in a run: what it records of its actions, in order
abbrev pub part_of : Core → ℕ → List Action → List Seen
part_of c t [] = []
part_of c t (d ∷ later) = noted_of c t d ++ part_of (after_action c d) t later

-- seat s starts these calls, the last of them first in the list
abbrev pub begins_of : ℕ → List Call → List Action
begins_of s [] = []
begins_of s (call ∷ calls) = begins_of s calls ++ Begins s call ∷ []

-- seat s with data x starts the calls by which its data become p, and makes its step
abbrev pub begins_and_step : ℕ → SeatState → SeatState → List Action
begins_and_step s x p = begins_of s (calls_to x p) ++ Makes s ∷ []

-- What seat t, whose trail this is, knows of a run: the early actions, up to the last one that the seat recorded; none before
-- its first. All later actions are those of other seats, and the trail is the seat's part of the early ones.
pub record KnowsRun (l : Limits) (actions : List Action) (t : ℕ) (early : List Action) (trail : List Seen) : Type 0 where
  pub later : List Action
  pub goes_on : actions ≡ early ++ later
  pub ends : EndsWithOwn t early
  pub of_others : own_of t later ≡ []
  pub trail_is : trail ≡ part_of (start l) t early

-- the limits that a mutex may be opened with
abbrev pub AreInLimits : Limits → Type 0
AreInLimits l = are_in_limits l.seats l.budget ≡ true

-- A table that was opened with these limits, which are of this kind, has this run. The actions have led from the start to its
-- core, and each trail is its seat's part of them. Each seat knows an early part of them, which led to a state in which its
-- data are as its view states; all later actions are those of other seats. A number that is no seat's has made none of them.
pub record HasRunWithin (Allowed : Limits → Type 0) {T : Type 0} (l : Limits) (actions : List Action) (c : Core) (views : List (View T)) : Type 0 where
  pub allowed : Allowed l
  pub here : c ≡ reached l (events_of actions)
  pub trails : (j : ℕ) (v : View T) → get_elem? views j ≡ some v → v.trail ≡ part_of (start l) (j + 1) actions
  pub known : (j : ℕ) (v : View T) → get_elem? views j ≡ some v → KnowsRun l actions (j + 1) v.actions v.trail
  pub stands : (j : ℕ) (v : View T) → get_elem? views j ≡ some v → seat (reached l (events_of v.actions)).seats (j + 1) ≡ v.state
  pub others : (t : ℕ) → (t ≡ 0) ⊎ (length views < t) → own_of t actions ≡ []

-- the table of a mutex has this run
abbrev pub HasRun : {T : Type 0} → Limits → List Action → Core → List (View T) → Type 0
HasRun l actions c views = HasRunWithin AreInLimits l actions c views

-- How the run continues between two views of one seat

-- what the seat whose view is v records of these actions, which follow those that it knows
abbrev pub next_part : {T : Type 0} → View T → List Action → List Seen
next_part v actions = part_of (reached v.limits (events_of v.actions)) v.number actions

-- The run continues from what the seat knew when its view was v to what it knows when its view is w: the seat's trail has grown
-- by its part of the actions between. The last of these is one that the seat records: its own last step, or its load of the
-- owner word. If it made neither, there are none between.
pub record RunGoesOn {T : Type 0} (v w : View T) : Type 0 where
  pub number : w.number ≡ v.number
  pub limits_are : w.limits ≡ v.limits
  pub between : List Action
  pub ends : EndsWithOwn v.number between
  pub actions : w.actions ≡ v.actions ++ between
  pub trail : w.trail ≡ v.trail ++ next_part v between

-- The run continues with actions of others, and then with these actions of the seat.
pub record RunGoesOnBy {T : Type 0} (own : List Action) (v w : View T) : Type 0 where
  pub others : List Action
  pub of_others : own_of v.number others ≡ []
  pub actions : w.actions ≡ v.actions ++ (others ++ own)
  pub trail : w.trail ≡ v.trail ++ next_part v (others ++ own)
