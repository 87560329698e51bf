-- The run of a running mutex, which the rule of its table includes: how it is extended, what the laws of schedules say about
-- it, and what a trail records of it.
use Rattle.std.specs.Prelude.{◌≡◌, ◌⊎◌, ℕ, ◌+◌, ◌*◌, ◌<◌, ◌≤◌, List, [], ◌∷◌, ◌++◌, Option, Some, true, length, replicate, slice_index, slice_index_or, nat_eq, if◌then◌else◌, filter, flat_map, sum_by}
use mathlib.Core.Option.{some}
use lib.ListN.{get_elem?}
use Rattle.lfm_table.specs.Table.{Act, Joins, Me, Splits, State, Valid, carried_after, keeps, opening, stepped}
use Rattle.lfm_model.specs.Abstract.{AbstractMutex, all_free}
use Rattle.lfm_model.specs.AbstractRuns.{IsRun}
use Rattle.lfm_model.specs.Sums.{sum_to}
use Rattle.lfm_model.specs.declared.answers.How.{How}
use Rattle.lfm_protocol.specs.declared.limits.Limits.{Limits}
use Rattle.lfm_protocol.specs.declared.points.Point.{Point}
use Rattle.lfm_protocol.specs.declared.points.Point.TheVariants.{EnterOwnerStore, PushExchange, Rest}
use Rattle.lfm_protocol.specs.declared.seats.SeatState.{SeatState}
use Rattle.lfm_protocol.specs.Limits.{are_in_limits, max_budget}
use Rattle.lfm_protocol.specs.Seats.{seat}
use Rattle.lfm_protocol.specs.After.{same_link}
use Rattle.lfm_protocol.specs.Core.{Core, put}
use Rattle.lfm_protocol.specs.Points.{pushed_seat}
use Rattle.lfm_protocol.specs.Queue.{queue_of}
use Rattle.lfm_protocol.specs.Step.{made, start}
use Rattle.lfm_words.specs.declared.pop_lists.Record.{Record}
use Rattle.lfm_laws.specs.laws.Cases.{ReadsRun}
use Rattle.lfm_laws.specs.laws.Events.{pushed_by}
use Rattle.lfm_laws.specs.laws.Laws.{IsReached}
use Rattle.lfm_laws.specs.laws.Overtaking.{enters_at, entries_of_run, releases_of_run, entries_of_seat}
use Rattle.lfm_laws.specs.laws.Progress.{steps_of_run, ended_in_run}
use Rattle.lfm_laws.specs.laws.Reading.{Reads}
use Rattle.lfm_laws.specs.laws.BeforePush.{PushesIn}
use Rattle.lfm_laws.specs.laws.Errands.{asks_for}
use Rattle.lfm_laws.specs.laws.FairRounds.{HasFairRounds, OwnerRestsOrReleases, OwnersOnlyRelease, rounds_to_release}
use Rattle.lfm_laws.specs.laws.FullRounds.{HasFullRounds, calls_of_owners}
use Rattle.lfm_laws.specs.laws.Rounds.{HasRounds, HasUnownedRounds}
use Rattle.lfm_laws.specs.laws.Schedules.{is_call, reached, run_of, push_record, popped_record, answer_record}
use Rattle.lfm_laws.specs.table.Words.{index, link_of, written}
use Rattle.lfm_mutex.specs.Laws.{IsCore}
use Rattle.lfm_table.specs.declared.rule.Moving.{Moving}
use Rattle.lfm_table.specs.declared.seat_view.Action.{Action}
use Rattle.lfm_table.specs.declared.seat_view.Action.TheVariants.{Makes, LoadsOwner}
use Rattle.lfm_table.specs.declared.seat_view.Role.TheVariants.{User}
use Rattle.lfm_table.specs.declared.seat_view.View.{View}
use Rattle.lfm_table.specs.declared.seat_view.Seen.{Seen}
use Rattle.lfm_table.specs.Actions.{EndsWithOwn, HasRun, own_of, told, events_of, after_action, part_of, begins_and_step}
use Rattle.lfm_table.specs.Rule.{Advanced, Held, ReadsOwner, first_view, joined, split_view, with_joined, with_split}
use Rattle.lfm_table.specs.Settled.{Became}
use Rattle.lfm_table.specs.Steps.{Ready}

-- the state to which these actions lead from the start
abbrev pub state_after : Limits → List Action → Core
state_after l actions = reached l (events_of actions)

-- the records that the late actions push, the records that leave the queue by them, and those by which they answer Held(Queued)
abbrev pub pushed_since : Limits → List Action → List Action → List Record
pushed_since l early late = push_record (state_after l early) (events_of late)

abbrev pub popped_since : Limits → List Action → List Action → List Record
popped_since l early late = popped_record (state_after l early) (events_of late)

abbrev pub answered_since : Limits → List Action → List Action → List Record
answered_since l early late = answer_record (state_after l early) (events_of late)

-- the part of seat t in the late actions
abbrev pub late_part : Limits → List Action → List Action → ℕ → List Seen
late_part l early late t = part_of (state_after l early) t late

-- how many of these actions load the owner word for `owner`
abbrev pub owner_loads : List Action → ℕ
owner_loads [] = 0
owner_loads (LoadsOwner s ∷ later) = 1 + owner_loads later
owner_loads (action ∷ later) = owner_loads later

-- the records that seat t pushes by these actions
abbrev pub own_push : Core → ℕ → Action → List Record
own_push c t (Makes s) = if nat_eq s t then pushed_by c s else []
own_push c t _ = []

abbrev pub own_pushes : Core → ℕ → List Action → List Record
own_pushes c t [] = []
own_pushes c t (a ∷ later) = own_push c t a ++ own_pushes (after_action c a) t later

-- What a trail records

-- how often its seat becomes the owner
abbrev pub entries_told : List Seen → ℕ
entries_told trail = sum_by (λ (x : Seen). enters_at x.point) trail

-- how many steps of calls it has, counting the loads for `owner`
abbrev pub steps_told : List Seen → ℕ
steps_told trail = sum_by (λ (x : Seen). if is_call x.point then 1 else 0) trail

-- the record that seat t pushes by a step at this point that finds n: an exchange of the push word that finds what it expects
abbrev pub push_noted : ℕ → Point → ℕ → List Record
push_noted t (PushExchange pusher old) n = if same_link (link_of n) old then record { seat = pushed_seat pusher t; stamp = old.stamp + 1 } ∷ [] else []
push_noted t _ n = []

abbrev pub pushes_noted : ℕ → List Seen → List Record
pushes_noted t trail = flat_map (λ (x : Seen). push_noted t x.point x.found) trail

-- the record by which seat t answers Held(Queued) with a step at this point
abbrev pub answer_noted : ℕ → Point → List Record
answer_noted t (EnterOwnerStore entrant (How.Queued stamp)) = record { seat = t; stamp = stamp } ∷ []
answer_noted t _ = []

abbrev pub answers_noted : ℕ → List Seen → List Record
answers_noted t trail = flat_map (λ (x : Seen). answer_noted t x.point) trail

-- What the laws of schedules say of a run with these limits: for short what the laws of tables below say in full

-- the run, read state by state, is a run of the abstract mutex
abbrev pub RunsAsTheAbstractMutex : Limits → List Action → Type 0
RunsAsTheAbstractMutex l actions =
    Reads (start l) all_free × ((later : List AbstractMutex) × ReadsRun (start l) (events_of actions) later × IsRun (all_free ∷ later))

-- the records leave the queue in the order of their stamps, which are 1, 2, 3 and so on, each once
abbrev pub ServesInPushOrder : Limits → List Action → Type 0
ServesInPushOrder l actions =
    ((early late : List Action) → actions ≡ early ++ late → queue_of (state_after l early) ++ pushed_since l early late ≡ popped_since l early late ++ queue_of (state_after l actions))
    × (pushed_since l [] actions ≡ popped_since l [] actions ++ queue_of (state_after l actions))
    × ((k : ℕ) (d : Record) → k < length (pushed_since l [] actions) → (slice_index_or (pushed_since l [] actions) k d).stamp ≡ k + 1)
    × ((popped_since l [] actions ≡ answered_since l [] actions) ⊎ ((last : Record) × (popped_since l [] actions ≡ answered_since l [] actions ++ last ∷ [])))

-- a record that was queued with k before it, and still is, was overtaken by at most one seat, and by none twice
abbrev pub OvertakesOnce : Limits → List Action → List Action → ℕ → Type 0
OvertakesOnce l early late k =
    k < length (queue_of (state_after l early)) → length (popped_since l early late) ≤ k
    → (entries_of_run (state_after l early) (events_of late) ≤ length (popped_since l early late) + 1)
    × (releases_of_run (state_after l early) (events_of late) ≤ length (popped_since l early late) + 1)
    × ((t : ℕ) → (entries_of_seat (state_after l early) t (events_of late) ≤ 1) × (entries_told (late_part l early late t) ≤ 1))

-- a record that was queued with k before it has left the queue after enough rounds
abbrev pub ServesInRounds : Limits → List Action → List Action → ℕ → Type 0
ServesInRounds l early late k =
    k < length (queue_of (state_after l early))
    → (HasUnownedRounds (l.seats + 8 * k + 7) (state_after l early) (events_of late) → k < length (popped_since l early late))
    × (OwnerRestsOrReleases (state_after l early) → OwnersOnlyRelease (state_after l early) (events_of late)
    → HasFairRounds (l.seats + 10 * k + 9 + rounds_to_release (state_after l early)) (state_after l early) (events_of late)
    → k < length (popped_since l early late))
    × (HasFullRounds
    (3 * l.seats + 10 * k + 12 + (seat (state_after l early).seats (state_after l early).owner).depth + 5 * calls_of_owners (state_after l early) (events_of late))
    (state_after l early) (events_of late)
    → k < length (popped_since l early late))

-- a call that had counted seat t has pushed it after enough rounds
abbrev pub PushesInRounds : Limits → List Action → List Action → ℕ → Type 0
PushesInRounds l early late t =
    0 < asks_for (seat (state_after l early).seats t) t
    → (HasRounds (4 * length (pushed_since l early late) + 6) (state_after l early) (events_of late) → PushesIn (state_after l early) t (events_of late))
    × (HasRounds (4 * (l.seats * l.budget) + 2) (state_after l early) (events_of late) → PushesIn (state_after l early) t (events_of late))

-- calls have ended after enough steps, and the trails have these steps
abbrev pub EndsCalls : Limits → List Action → List Action → Type 0
EndsCalls l early late =
    (steps_of_run (state_after l early) (events_of late) ≤ (5 * l.seats + 5) * (l.seats + ended_in_run (state_after l early) (events_of late)))
    × (sum_to (λ (t : ℕ). steps_told (late_part l early late t)) l.seats ≡ steps_of_run (state_after l early) (events_of late) + owner_loads late)

module _ {T : Type 0} (follows : ℕ → T → T → Type 0) (fits : T → ℕ → Type 0) where
  -- the rule holds of this table, which was opened with these limits, and these actions are its run
  abbrev pub HoldsAfter : Limits → List Action → State (Option (Moving T)) (View T) → Type 0
  HoldsAfter l actions s = (h : Held follows fits s) × (h.opened ≡ l) × (h.actions ≡ actions)

  -- Whenever the rule holds, there is a run. The words and seats are the state to which it leads, and the trails are its parts.
  -- Each seat knows the run up to its own last step or load of the owner word. The seat's part of these actions is its whole
  -- trail.
  abbrev pub TablesHaveARun : Type 0
  TablesHaveARun =
      ((s : State (Option (Moving T)) (View T)) → Held follows fits s → (l : Limits) × (actions : List Action) × HoldsAfter l actions s)
      × ((s : State (Option (Moving T)) (View T)) (l : Limits) (actions : List Action) → HoldsAfter l actions s → IsCore s (state_after l actions) × HasRun l actions (state_after l actions) s.views)

  -- What a seat knows is determined. Split the run into early and late actions, where either there are no early ones or the
  -- last of them is one that the seat notes, and the late ones are all of others. Then the early ones are exactly those that
  -- the seat knows.
  abbrev pub SeatsKnowUpToTheirLastStep : Type 0
  SeatsKnowUpToTheirLastStep =
      (s : State (Option (Moving T)) (View T)) (l : Limits) (early late : List Action) (j : ℕ) (v : View T) → HoldsAfter l (early ++ late) s → get_elem? s.views j ≡ some v
      → EndsWithOwn (j + 1) early → own_of (j + 1) late ≡ [] → v.actions ≡ early

  -- How a run is extended

  -- a table that was just opened is the core at its start, and has the empty run
  abbrev pub TablesOpenAtTheStart : Type 0
  TablesOpenAtTheStart =
      (l : Limits) (x : Moving T) → are_in_limits l.seats l.budget ≡ true → x.popped.records ≡ [] → x.popped.room ≡ l.seats → fits x.value 0
      → HoldsAfter l [] (opening (replicate (4 + 2 * l.seats) 0) (Some x ∷ []) (first_view l x.value)) × (state_after l [] ≡ start l)

  -- A seat whose view is at place j and which has the value a in its own memory, and whose state has become p by starts of
  -- calls, makes its step: it finds n, has a new view, and takes the moving value or gives it back. These starts and the step
  -- extend the run, to the state that the core's step makes, and the seat then knows the run up to now.
  abbrev pub TablesGoOnAsTheCore : Type 0
  TablesGoOnAsTheCore =
      (s : State (Option (Moving T)) (View T)) (l : Limits) (actions : List Action) (j : ℕ) (me : Me (Option (Moving T)) (View T)) (p : SeatState) (a : Option T) → HoldsAfter l actions s
      → get_elem? s.views j ≡ some me.0 → me.0.role ≡ User → Became me.0.state me.0.limits p → Ready follows fits p a me
      → (n : ℕ) × (w : View T) × (act : Act (Option (Moving T))) × (n ≡ slice_index s.words (index p me.0.limits.seats me.0.number)) × Valid s.homes me.1 act
      × HoldsAfter l (actions ++ begins_and_step me.0.number me.0.state p) (stepped s (index p me.0.limits.seats me.0.number) (written p me.0.number n) j me.1 w act)
      × (state_after l (actions ++ begins_and_step me.0.number me.0.state p) ≡ (made (put (state_after l actions) me.0.number p) me.0.number).core)
      × Advanced follows fits p a me (told p me.0.number n) (w, carried_after me.1 act) × (w.actions ≡ actions ++ begins_and_step me.0.number me.0.state p)

  -- These keep the state of the core: splitting off a seat and joining it again, which are no actions, and a load of the owner
  -- word for `owner`, which is one.
  abbrev pub OtherStepsKeepTheCore : Type 0
  OtherStepsKeepTheCore =
      (l : Limits) (actions : List Action)
      → ((v : View T) → v.role ≡ User → v.made + 2 ≤ v.limits.seats → Splits (HoldsAfter l actions) 0 v (with_split v) (split_view v))
      × ((v w : View T) (other : ℕ) → v.role ≡ User → w.role ≡ User → w.state.point ≡ Rest → w.state.depth ≡ 0 → Joins (HoldsAfter l actions) 0 v other w (with_joined v w) (joined w))
      × ((s : State (Option (Moving T)) (View T)) (j : ℕ) (me : Me (Option (Moving T)) (View T)) → HoldsAfter l actions s → get_elem? s.views j ≡ some me.0 → me.0.role ≡ User
      → (w : View T) × HoldsAfter l (actions ++ LoadsOwner me.0.number ∷ []) (stepped s 1 (slice_index s.words 1) j me.1 w keeps)
      × (state_after l (actions ++ LoadsOwner me.0.number ∷ []) ≡ state_after l actions) × ReadsOwner me (slice_index s.words 1) (w, me.1))

  -- The laws of schedules

  -- At each moment of the run the state is one that a schedule reaches within the limits. The events since then lead from it to
  -- the state that the table is, and each trail is its early part followed by its late one. So every law of schedules applies to
  -- the table.
  abbrev pub TablesGoThroughReachedStates : Type 0
  TablesGoThroughReachedStates =
      (s : State (Option (Moving T)) (View T)) (l : Limits) (early late : List Action) → HoldsAfter l (early ++ late) s
      → IsReached (state_after l early) × ((state_after l early).budget ≤ max_budget) × (state_after l (early ++ late) ≡ run_of (state_after l early) (events_of late))
      × ((j : ℕ) (v : View T) → get_elem? s.views j ≡ some v → v.trail ≡ part_of (start l) (j + 1) early ++ late_part l early late (j + 1))

  -- Refinement. The run, read state by state, is a run of the abstract mutex from the state in which no seat holds, asks or
  -- waits.
  abbrev pub TablesRunAsTheAbstractMutex : Type 0
  TablesRunAsTheAbstractMutex =
      (s : State (Option (Moving T)) (View T)) (l : Limits) (actions : List Action) → HoldsAfter l actions s
      → RunsAsTheAbstractMutex l actions

  -- First come, first served. From each earlier moment on, the records that were queued and those pushed since then are, in the
  -- same order, those that have left the queue since and those that are queued now. Over the whole run, the stamps are 1, 2, 3
  -- and so on, and the answers Held(Queued) are the records that have left the queue, or all of these except the last.
  abbrev pub TablesServeInPushOrder : Type 0
  TablesServeInPushOrder =
      (s : State (Option (Moving T)) (View T)) (l : Limits) (actions : List Action) → HoldsAfter l actions s
      → ServesInPushOrder l actions

  -- Overtaking. Take a record that was queued at an earlier moment and has not left the queue. Since then seats have become
  -- owner, and have stopped being owner, at most once more than records have left the queue. No seat has become owner twice,
  -- nor does its trail since then record that it has.
  abbrev pub TablesOvertakeOnce : Type 0
  TablesOvertakeOnce =
      (s : State (Option (Moving T)) (View T)) (l : Limits) (early late : List Action) (k : ℕ) → HoldsAfter l (early ++ late) s
      → OvertakesOnce l early late k

  -- Starvation freedom. Take a record that was queued at an earlier moment, with k before it. It has left the queue if the
  -- actions since then have N + 8k + 7 rounds that begin while no seat owns. If the owner of that moment rested or released,
  -- and owners have begun only releases since, N + 10k + 9 fair rounds suffice, and as many more as that owner needed.
  -- Whichever calls owners have begun, it has if the actions have 3N + 10k + 12 full rounds, one more for each hold of that
  -- owner, and five more for each of these calls that isn't a release. A load for `owner` is no step of a round.
  abbrev pub TablesServeInRounds : Type 0
  TablesServeInRounds =
      (s : State (Option (Moving T)) (View T)) (l : Limits) (early late : List Action) (k : ℕ) → HoldsAfter l (early ++ late) s
      → ServesInRounds l early late k

  -- Before the push. A call that at an earlier moment had counted a seat, and had yet to push it, has pushed it if the
  -- actions since then have 4p + 6 rounds, p being the number of records that were pushed since, or 4NB + 2 rounds.
  abbrev pub TablesPushInRounds : Type 0
  TablesPushInRounds =
      (s : State (Option (Moving T)) (View T)) (l : Limits) (early late : List Action) (t : ℕ) → HoldsAfter l (early ++ late) s
      → PushesInRounds l early late t

  -- Lock freedom. Since an earlier moment calls have made at most (5N + 5)(N + k) steps, k being the number of calls that have
  -- ended since. The trails of the N seats have grown by exactly these steps and the loads for `owner`.
  abbrev pub TablesEndCalls : Type 0
  TablesEndCalls =
      (s : State (Option (Moving T)) (View T)) (l : Limits) (early late : List Action) → HoldsAfter l (early ++ late) s
      → EndsCalls l early late

  -- the records that a seat has pushed in the run are those that its trail records
  abbrev pub TrailsTellThePushes : Type 0
  TrailsTellThePushes =
      (s : State (Option (Moving T)) (View T)) (l : Limits) (actions : List Action) (j : ℕ) (v : View T) → HoldsAfter l actions s → get_elem? s.views j ≡ some v
      → own_pushes (start l) (j + 1) actions ≡ pushes_noted (j + 1) v.trail

  -- of the answers Held(Queued) in the run, those of the seat are the ones that its trail records
  abbrev pub TrailsTellTheAnswers : Type 0
  TrailsTellTheAnswers =
      (s : State (Option (Moving T)) (View T)) (l : Limits) (actions : List Action) (j : ℕ) (v : View T) → HoldsAfter l actions s → get_elem? s.views j ≡ some v
      → filter (λ (r : Record). nat_eq r.seat (j + 1)) (answered_since l [] actions) ≡ answers_noted (j + 1) v.trail
