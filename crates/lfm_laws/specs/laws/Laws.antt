-- The laws of every steady state, and of all calls and single steps from there. Every state that a schedule reaches is steady,
-- for every number of seats within its limits and every budget. Each law is a clause of a public function of `lfm_laws`.
use Rattle.std.specs.Prelude.{◌≡◌, ◌⊎◌, ℕ, Bool, true, false, ◌+◌, ◌<◌, ◌≤◌, ◌++◌, Some, List, [], ◌∷◌, length, slice_index_or}
use Rattle.lfm_model.specs.Abstract.{AbstractMutex, AbstractPlace, all_free, free, owner, passed, posted, carried}
use Rattle.lfm_model.specs.AbstractRuns.{IsRun, take}
use Rattle.lfm_model.specs.declared.answers.How.TheVariants as How
use Rattle.lfm_model.specs.declared.answers.Locked.TheVariants as Locked
use Rattle.lfm_model.specs.declared.answers.Place.{Place}
use Rattle.lfm_protocol.specs.declared.answers.Answer.TheVariants as Answer
use Rattle.lfm_protocol.specs.declared.answers.Turn.TheVariants.{Ended}
use Rattle.lfm_protocol.specs.declared.answers.Call.TheVariants.{Unlock, StartWait, TryLock}
use Rattle.lfm_protocol.specs.declared.limits.Limits.{Limits}
use Rattle.lfm_protocol.specs.declared.points.Carrier.{Carrier}
use Rattle.lfm_protocol.specs.declared.points.Point.{Point}
use Rattle.lfm_protocol.specs.declared.points.Point.TheVariants.{Rest, Asleep, PushExchange, PushedHandoffLoad, ReleaseHandoffStore, TakeClearHead}
use Rattle.lfm_protocol.specs.declared.points.Pusher.{Pusher}
use Rattle.lfm_protocol.specs.declared.points.Sleeper.{Sleeper}
use Rattle.lfm_words.specs.declared.links.Link.{Link}
use Rattle.lfm_words.specs.declared.pop_lists.Record.{Record}
use Rattle.lfm_words.specs.declared.wakes.Wake.TheVariants.{Waiting, Grant}
use Rattle.lfm_protocol.specs.After.{same_link}
use Rattle.lfm_laws.specs.laws.Cases.{GoesBy, case_of_event, ReadsRun}
use Rattle.lfm_protocol.specs.Core.{Core}
use Rattle.lfm_laws.specs.laws.Events.{case_of_step}
use Rattle.lfm_laws.specs.laws.Lawful.{IsSent, Lawful}
use Rattle.lfm_protocol.specs.Limits.{max_seats}
use Rattle.lfm_protocol.specs.Turns.{is_open, longest_call}
use Rattle.lfm_protocol.specs.Place.{place_of}
use Rattle.lfm_protocol.specs.Queue.{queue_of}
use Rattle.lfm_laws.specs.laws.Reading.{Claims, Reads}
use Rattle.lfm_laws.specs.laws.Schedules.{Event, makes, happens, run_of, reached, steps, push_record, popped_record, answer_record, is_call, weight_of_call, steps_of_call}
use Rattle.lfm_protocol.specs.Seats.{seat, wake, unposted, IsSeat}
use Rattle.lfm_laws.specs.steady.Steady.{Steady}
use Rattle.lfm_protocol.specs.Step.{begin, start}
use Rattle.lfm_laws.specs.laws.Watched.{IsQueued, Watched}

-- a state that some schedule reaches, under any budget
pub record IsReached (c : Core) : Type 0 where
  pub limits : Limits
  pub events : List Event
  pub few : limits.seats ≤ max_seats
  pub here : c ≡ reached limits events

-- Mutual exclusion

-- at most one seat owns
abbrev pub OneSeatOwns : Type 0
OneSeatOwns = (c : Core) (s t : ℕ) → Steady c → 0 < (seat c.seats s).depth → 0 < (seat c.seats t).depth → s ≡ t

-- if the count is above 0, exactly one owner, grant, posted handoff or call has the responsibility
abbrev pub OneHasTheResponsibility : Type 0
OneHasTheResponsibility =
    (c : Core) → Steady c → 0 < c.count → (p : AbstractPlace) × Claims c p × ((q : AbstractPlace) → Claims c q → q ≡ p)

-- The abstract mutex

abbrev pub StatesAreLawful : Type 0
StatesAreLawful = (c : Core) → Steady c → Lawful c

-- the readings of a run are a run of the abstract mutex that starts with no seat holding, asking or waiting
abbrev pub RunsAreAbstractRuns : Type 0
RunsAreAbstractRuns =
    (limits : Limits) (events : List Event) → limits.seats ≤ max_seats
    → Reads (start limits) all_free × ((later : List AbstractMutex) × ReadsRun (start limits) events later × IsRun (all_free ∷ later))

-- the reading after an event follows from the one before by its case, which is that of `case_of_step` if the event is a step
abbrev pub EventsAreTheirCases : Type 0
EventsAreTheirCases =
    (c : Core) (e : Event) (a b : AbstractMutex) → Steady c → Reads c a → Reads (happens c e).core b → GoesBy (case_of_event c e) a b

-- the place as it is printed
abbrev pub printed : AbstractPlace → Place
printed free = Place.Free
printed (owner s) = Place.Owner s
printed (passed s) = Place.Passed s
printed posted = Place.Posted
printed (carried s how) = Place.Carried s

-- the place that the state shows is that of its reading
abbrev pub PlacesAreRead : Type 0
PlacesAreRead = (c : Core) (a : AbstractMutex) → Steady c → Reads c a → place_of c ≡ printed a.place

-- the count is 0 exactly if the place is free: no owner, grant, posted handoff or call has the responsibility
abbrev pub CountIsZeroIfFree : Type 0
CountIsZeroIfFree = (c : Core) (a : AbstractMutex) → Steady c → Reads c a → (c.count ≡ 0 → a.place ≡ free) × (a.place ≡ free → c.count ≡ 0)

-- The order of the queue

abbrev pub QueueIsInPushOrder : Type 0
QueueIsInPushOrder =
    (c : Core) (events : List Event) → Steady c
    → queue_of c ++ push_record c events ≡ popped_record c events ++ queue_of (run_of c events)

-- the stamps of the pushes are consecutive, starting after that of the push word, which is 0 at the start
abbrev pub StampsAreConsecutive : Type 0
StampsAreConsecutive =
    (c : Core) (events : List Event) → Steady c
    → (k : ℕ) (d : Record) → k < length (push_record c events) → (slice_index_or (push_record c events) k d).stamp ≡ c.push.stamp + (k + 1)

-- the answers Held(Queued) are the popped records, or all of these except the last
abbrev pub AnswersAreTheRecords : Type 0
AnswersAreTheRecords =
    (limits : Limits) (events : List Event) → limits.seats ≤ max_seats
    → (popped_record (start limits) events ≡ answer_record (start limits) events)
    ⊎ ((last : Record) × (popped_record (start limits) events ≡ answer_record (start limits) events ++ last ∷ []))

-- No lost hand-off

abbrev pub HandoffsAreWatched : Type 0
HandoffsAreWatched = (c : Core) → Steady c → Watched c

-- no call is open
abbrev pub IsQuiet : Core → Type 0
IsQuiet c = (s : ℕ) → is_call (seat c.seats s).point ≡ false

-- some seat holds
pub record IsHeld (c : Core) : Type 0 where
  pub owner : ℕ
  pub depth : 0 < (seat c.seats owner).depth

-- a sleeping seat has a grant that it has not loaded
pub record IsGranted (c : Core) : Type 0 where
  pub sleeper : ℕ
  pub since : Sleeper
  pub stamp : ℕ
  pub word : wake c.wakes sleeper ≡ Grant stamp
  pub sleeps : (seat c.seats sleeper).point ≡ Asleep since

-- if no call is open, nothing is posted, and if the count is above 0 a seat owns or a sleeping seat has its grant
abbrev pub QuiescentStatesRest : Type 0
QuiescentStatesRest =
    (c : Core) → Steady c → IsQuiet c → (c.handoff ≡ unposted) × (0 < c.count → IsHeld c ⊎ IsGranted c)

-- a seat that sleeps with no call open is queued, has its grant, is WAITING for a send, or is between a send's claim and its
-- grant
abbrev pub SleepersAreReachable : Type 0
SleepersAreReachable =
    (c : Core) (t : ℕ) (since : Sleeper) → Steady c → (seat c.seats t).point ≡ Asleep since
    → IsQueued c t ⊎ (((stamp : ℕ) × (wake c.wakes t ≡ Grant stamp)) ⊎ ((wake c.wakes t ≡ Waiting) ⊎ IsSent c t))

-- the carriers that have won a handoff exchange
abbrev pub has_won : Carrier → Bool
has_won Carrier.Locker = true
has_won (Carrier.Releaser releaser) = false
has_won (Carrier.Reclaimer releaser) = true
has_won Carrier.Sender = true

-- after a successful handoff exchange, in lock, unlock, start_wait or send_lock, the push list that the clear-head clears has a
-- record, and the pop list has none
abbrev pub TakesFindARecord : Type 0
TakesFindARecord =
    (c : Core) (s : ℕ) (carrier : Carrier) → Steady c → (seat c.seats s).point ≡ TakeClearHead carrier → has_won carrier ≡ true
    → (0 < c.push.next) × (c.popped ≡ [])

-- at the exchange that takes a posted handoff, in lock, unlock, start_wait and send_lock, the push list has a record and the
-- pop list has none
abbrev pub WonPostsHaveARecord : Type 0
WonPostsHaveARecord = (c : Core) (s : ℕ) → Steady c → case_of_step c s ≡ Some take → (0 < c.push.next) × (c.popped ≡ [])

-- a push exchange that fails finds a higher stamp, or the same stamp with the head cleared
abbrev pub FailedPushesSeeChange : Type 0
FailedPushesSeeChange =
    (c : Core) (s : ℕ) (pusher : Pusher) (seen : Link) → Steady c → (seat c.seats s).point ≡ PushExchange pusher seen
    → same_link c.push seen ≡ false → (seen.stamp < c.push.stamp) ⊎ ((c.push.stamp ≡ seen.stamp) × (c.push.next ≡ 0) × (0 < seen.next))

-- Bounds

abbrev pub post_weight : Point → ℕ
post_weight (ReleaseHandoffStore releaser) = 1
post_weight _ = 0

-- a call posts at most once, whatever the others do in between
abbrev pub CallsPostOnce : Type 0
CallsPostOnce = (c : Core) (s : ℕ) (events : List Event) → Steady c → weight_of_call post_weight c s events ≤ 1

-- with N seats, an unlock makes at most N + 7 steps, whatever the others do in between
abbrev pub UnlocksAreBounded : Type 0
UnlocksAreBounded =
    (c : Core) (s : ℕ) (events : List Event) → Steady c → is_call (seat c.seats s).point ≡ false
    → steps_of_call (begin c s Unlock).core s events ≤ length c.seats + 7

-- a start_wait makes at most N + 8
abbrev pub StartWaitsAreBounded : Type 0
StartWaitsAreBounded =
    (c : Core) (s : ℕ) (events : List Event) → Steady c → is_call (seat c.seats s).point ≡ false
    → steps_of_call (begin c s StartWait).core s events ≤ length c.seats + 8

-- Termination

-- if only its seat makes steps, an open call ends within the number of steps that `*` allows
abbrev pub CallsEndAlone : Type 0
CallsEndAlone =
    (c : Core) (s : ℕ) → Steady c → is_call (seat c.seats s).point ≡ true → is_open (steps (longest_call c) c s).turn ≡ false

-- if only its seat makes steps, a push fails at most once: the exchange after a failed one succeeds
abbrev pub PushesAloneFailOnce : Type 0
PushesAloneFailOnce =
    (c : Core) (s : ℕ) (pusher : Pusher) (seen : Link) → Steady c → (seat c.seats s).point ≡ PushExchange pusher seen
    → same_link c.push seen ≡ false → (seat (run_of c (makes s ∷ makes s ∷ makes s ∷ [])).seats s).point ≡ PushedHandoffLoad pusher

-- Availability

-- if only its seat makes steps, a try_lock of a seat that rests, does not hold and has a take left holds if the count is 0 or a
-- handoff is posted
abbrev pub TriesAloneHold : Type 0
TriesAloneHold =
    (c : Core) (s : ℕ) → Steady c → IsSeat c.seats s → (seat c.seats s).point ≡ Rest → (seat c.seats s).depth ≡ 0 → (seat c.seats s).takes < c.budget
    → (c.count ≡ 0 → (steps 2 (begin c s TryLock).core s).turn ≡ Ended (Answer.Locked (Locked.Held How.Free)))
    × (0 < c.handoff.seat → (steps 6 (begin c s TryLock).core s).turn ≡ Ended (Answer.Locked (Locked.Held How.Free)))
