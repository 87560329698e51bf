-- Why a turn is refused: the cause of each refusal, by the state before the turn. The causes for one turn exclude each other,
-- so they also give the order in which they are checked. Each law here is the contract of a public function of `lfm_laws`.
use Rattle.std.specs.Prelude.{◌≡◌, ◌≢◌, ◌⊎◌, ⊤, ℕ, true, false, ◌-◌, ◌<◌, List}
use Rattle.lfm_model.specs.declared.refusals.Refusal.{Refusal}
use Rattle.lfm_protocol.specs.declared.answers.Call.{Call}
use Rattle.lfm_protocol.specs.declared.answers.Call.TheVariants.{Lock, TryLock, Unlock, StartWait, SendLock, Receive}
use Rattle.lfm_protocol.specs.declared.answers.Turn.TheVariants.{Refused}
use Rattle.lfm_protocol.specs.declared.answers.Why.{Why}
use Rattle.lfm_protocol.specs.declared.answers.Why.TheVariants.{By}
use Rattle.lfm_protocol.specs.declared.points.Point.{Point}
use Rattle.lfm_protocol.specs.declared.points.Point.TheVariants.{Rest, TryCountExchange, TryOwnerLoad, TryHandoffLoad, TryHandoffExchange, SendWakeExchange}
use Rattle.lfm_protocol.specs.declared.points.Sleeper.{Sleeper}
use Rattle.lfm_protocol.specs.declared.seats.SeatState.{SeatState}
use Rattle.lfm_words.specs.declared.wakes.Wake.TheVariants.{Waiting}
use Rattle.lfm_protocol.specs.After.{same_handoff}
use Rattle.lfm_protocol.specs.Core.{Core, put}
use Rattle.lfm_protocol.specs.Limits.{max_depth}
use Rattle.lfm_laws.specs.laws.Schedules.{Event, begins, makes, happens, is_call}
use Rattle.lfm_laws.specs.steady.Steady.{Steady}
use Rattle.lfm_protocol.specs.Seats.{seat, wake, is_seat, IsSeat}
use Rattle.lfm_protocol.specs.Step.{begin, step}

-- Starts of calls

-- the seat sleeps
pub record Sleeps (p : Point) : Type 0 where
  pub sleeper : Sleeper
  pub here : p ≡ Point.Asleep sleeper

-- a lock or a try_lock: the seat is asleep, has the greatest depth, or asks for a new hold with no take left
abbrev pub CauseToEnter : ℕ → SeatState → Refusal → Type 0
CauseToEnter budget x Refusal.Asleep = Sleeps x.point
CauseToEnter budget x Refusal.DepthFull = (x.point ≡ Rest) × (x.depth ≡ max_depth)
CauseToEnter budget x Refusal.Spent = (x.point ≡ Rest) × (x.depth ≡ 0) × (x.takes ≡ budget)
CauseToEnter budget x _ = ⊥

-- an unlock: the seat is asleep or has no hold
abbrev pub CauseToUnlock : SeatState → Refusal → Type 0
CauseToUnlock x Refusal.Asleep = Sleeps x.point
CauseToUnlock x Refusal.NotOwner = (x.point ≡ Rest) × (x.depth ≡ 0)
CauseToUnlock x _ = ⊥

-- a start_wait: the seat is asleep, has no hold, has more than one, or has one and no take left
abbrev pub CauseToWait : ℕ → SeatState → Refusal → Type 0
CauseToWait budget x Refusal.Asleep = Sleeps x.point
CauseToWait budget x Refusal.NotOwner = (x.point ≡ Rest) × (x.depth ≡ 0)
CauseToWait budget x Refusal.Nested = (x.point ≡ Rest) × (1 < x.depth)
CauseToWait budget x Refusal.Spent = (x.point ≡ Rest) × (x.depth ≡ 1) × (x.takes ≡ budget)
CauseToWait budget x _ = ⊥

-- a send_lock: the seat is asleep, or no seat has the target's number
abbrev pub CauseToSend : List SeatState → ℕ → SeatState → Refusal → Type 0
CauseToSend seats t x Refusal.Asleep = Sleeps x.point
CauseToSend seats t x Refusal.NoSuchSeat = (x.point ≡ Rest) × (is_seat seats t ≡ false)
CauseToSend seats t x _ = ⊥

-- a receive: the seat is awake
abbrev pub CauseToReceive : SeatState → Refusal → Type 0
CauseToReceive x Refusal.NotWaiting = x.point ≡ Rest
CauseToReceive x _ = ⊥

-- the mutex has this cause to refuse the call of a seat with state x
abbrev pub CauseToBegin : Core → SeatState → Call → Refusal → Type 0
CauseToBegin c x Lock refusal = CauseToEnter c.budget x refusal
CauseToBegin c x TryLock refusal = CauseToEnter c.budget x refusal
CauseToBegin c x Unlock refusal = CauseToUnlock x refusal
CauseToBegin c x StartWait refusal = CauseToWait c.budget x refusal
CauseToBegin c x (SendLock t) refusal = CauseToSend c.seats t x refusal
CauseToBegin c x Receive refusal = CauseToReceive x refusal

-- a call that is refused at its start changes nothing, whatever the cause
abbrev pub RefusedBeginsChangeNothing : Type 0
RefusedBeginsChangeNothing = (c : Core) (s : ℕ) (call : Call) (why : Why) → (begin c s call).turn ≡ Refused why → (begin c s call).core ≡ c

-- the mutex refuses a call exactly if it has the cause
abbrev pub BeginsAreRefusedForCause : Type 0
BeginsAreRefusedForCause =
    (c : Core) (s : ℕ) (call : Call) (refusal : Refusal) → Steady c → IsSeat c.seats s
    → ((begin c s call).turn ≡ Refused (By refusal) → CauseToBegin c (seat c.seats s) call refusal)
    × (CauseToBegin c (seat c.seats s) call refusal → (begin c s call).turn ≡ Refused (By refusal))

-- Steps

-- the mutex has this cause to refuse the step at this point: a try_lock finds nothing posted, or finds that the post it loaded
-- is gone; the target of a send does not wait
abbrev pub CauseOfStep : Core → Point → Refusal → Type 0
CauseOfStep c TryHandoffLoad Refusal.Busy = c.handoff.seat ≡ 0
CauseOfStep c (TryHandoffExchange seen) Refusal.Busy = same_handoff c.handoff seen ≡ false
CauseOfStep c (SendWakeExchange t) Refusal.NotWaiting = wake c.wakes t ≢ Waiting
CauseOfStep c _ _ = ⊥

-- the seat after its call has ended with this refusal: a try_lock that is refused as Busy gets its charge back
abbrev pub ended_by : Refusal → SeatState → SeatState
ended_by Refusal.Busy x = record x { point = Rest; takes = x.takes - 1 }
ended_by _ x = record x { point = Rest }

-- there is a charge to give back
abbrev pub WasCharged : Refusal → SeatState → Type 0
WasCharged Refusal.Busy x = 0 < x.takes
WasCharged _ x = ⊤

-- the mutex refuses a step exactly if it has the cause; the call has then ended, and only its seat has changed
abbrev pub StepsAreRefusedForCause : Type 0
StepsAreRefusedForCause =
    (c : Core) (s : ℕ) (refusal : Refusal) → Steady c
    → ((step c s).turn ≡ Refused (By refusal)
    → CauseOfStep c (seat c.seats s).point refusal
    × WasCharged refusal (seat c.seats s)
    × ((step c s).core ≡ put c s (ended_by refusal (seat c.seats s))))
    × (CauseOfStep c (seat c.seats s).point refusal → (step c s).turn ≡ Refused (By refusal))

-- Turns

-- the cause to refuse an event: no seat has the number, a call is already open when another would begin, no call is open when a
-- step would be made, or the mutex has its cause
abbrev pub CauseToRefuse : Core → Event → Why → Type 0
CauseToRefuse c (begins s call) Why.NoSuchSeat = is_seat c.seats s ≡ false
CauseToRefuse c (begins s call) Why.InCall = is_call (seat c.seats s).point ≡ true
CauseToRefuse c (begins s call) Why.Idle = ⊥
CauseToRefuse c (begins s call) (By refusal) = IsSeat c.seats s × CauseToBegin c (seat c.seats s) call refusal
CauseToRefuse c (makes s) Why.NoSuchSeat = is_seat c.seats s ≡ false
CauseToRefuse c (makes s) Why.InCall = ⊥
CauseToRefuse c (makes s) Why.Idle = IsSeat c.seats s × (is_call (seat c.seats s).point ≡ false)
CauseToRefuse c (makes s) (By refusal) = CauseOfStep c (seat c.seats s).point refusal

-- every event is refused exactly if there is the cause
abbrev pub TurnsAreRefusedForCause : Type 0
TurnsAreRefusedForCause =
    (c : Core) (e : Event) (why : Why) → Steady c
    → ((happens c e).turn ≡ Refused why → CauseToRefuse c e why) × (CauseToRefuse c e why → (happens c e).turn ≡ Refused why)

-- Busy

-- how an event brings seat s to a point from which Busy may follow: by its own step at the point before. That step found a
-- count above 0; or an owner other than s, while s had no hold; or the posted handoff that the exchange will expect
abbrev pub TriesBy : Core → ℕ → Event → Point → Type 0
TriesBy c s e TryOwnerLoad = (e ≡ makes s) × ((seat c.seats s).point ≡ TryCountExchange) × (0 < c.count)
TriesBy c s e TryHandoffLoad = (e ≡ makes s) × ((seat c.seats s).point ≡ TryOwnerLoad) × (c.owner ≢ s) × ((seat c.seats s).depth ≡ 0)
TriesBy c s e (TryHandoffExchange seen) = (e ≡ makes s) × ((seat c.seats s).point ≡ TryHandoffLoad) × (c.handoff ≡ seen) × (0 < seen.seat)
TriesBy c s e _ = ⊤

-- an event leaves a seat unchanged, or brings it to such a point only in that way
abbrev pub TriesSeeAHolder : Type 0
TriesSeeAHolder =
    (c : Core) (e : Event) (s : ℕ) → Steady c
    → (seat (happens c e).core.seats s ≡ seat c.seats s) ⊎ TriesBy c s e (seat (happens c e).core.seats s).point
