-- A run of a seat's own steps: what each step found, in order, and what the steps lead to; to which call a point belongs, and
-- how that call can end; and a number that decreases with each step.
use Rattle.std.specs.Prelude.{◌≡◌, ⊤, ℕ, ◌≤◌, ◌+◌, ◌-◌, ◌*◌, ◌^◌, List, [], ◌∷◌, ◌++◌, Option, Some, None, Bool, true, false, nat_eq, if◌then◌else◌}
use Rattle.lfm_model.specs.declared.answers.Asked.{Asked}
use Rattle.lfm_model.specs.declared.answers.How.{How}
use Rattle.lfm_model.specs.declared.answers.Locked.{Locked}
use Rattle.lfm_model.specs.declared.refusals.Refusal.{Refusal}
use Rattle.lfm_words.specs.declared.links.Link.{Link}
use Rattle.lfm_words.specs.declared.pop_lists.Record.{Record}
use Rattle.lfm_protocol.specs.declared.answers.Answer.{Answer}
use Rattle.lfm_protocol.specs.declared.answers.Call.{Call}
use Rattle.lfm_protocol.specs.declared.limits.Limits.{Limits}
use Rattle.lfm_protocol.specs.Begin as Begin
use Rattle.lfm_protocol.specs.declared.answers.Turn.{Turn}
use Rattle.lfm_protocol.specs.declared.answers.Turn.TheVariants.{Open, Ended, Refused}
use Rattle.lfm_protocol.specs.declared.answers.Why.{Why}
use Rattle.lfm_protocol.specs.declared.answers.Why.TheVariants.{By}
use Rattle.lfm_protocol.specs.declared.points.Carrier.{Carrier}
use Rattle.lfm_protocol.specs.declared.points.Entrant.{Entrant}
use Rattle.lfm_protocol.specs.declared.points.Point.{Point}
use Rattle.lfm_protocol.specs.declared.points.Point.TheVariants.{Rest, Asleep, LockCountAdd, LockOwnerLoad, LockCountSubtract, TryCountExchange, TryOwnerLoad, TryHandoffLoad, TryHandoffExchange, TryCountAdd, SendWakeExchange, SendCountAdd, SendPushRecheck, SendWakeStore, PushLoad, LinkStore, PushExchange, PushedHandoffLoad, PushedHandoffExchange, ReleaseOwnerStore, ReleaseCountSubtract, ReleaseHandoffStore, ReleasePushRecheck, ReleaseHandoffExchange, WaitWakeStore, TakeClearHead, TakeLinkLoad, GrantWakeStore, EnterOwnerStore, ReceiveWakeLoad, ReceiveWakeStore}
use Rattle.lfm_protocol.specs.declared.points.Pusher.{Pusher}
use Rattle.lfm_protocol.specs.declared.points.Releaser.{Releaser}
use Rattle.lfm_protocol.specs.declared.points.Releaser.TheVariants.{Unlocker, Waiter}
use Rattle.lfm_protocol.specs.declared.seats.SeatState.{SeatState}
use Rattle.lfm_protocol.specs.Begin.{Stepped}
use Rattle.lfm_laws.specs.steady.Views.{waits_on}
use Rattle.lfm_laws.specs.table.Words.{stepped_by}
use Rattle.lfm_table.specs.declared.seat_view.Seen.{Seen}
use Rattle.lfm_table.specs.declared.seat_view.View.{View}
use Rattle.lfm_table.specs.declared.rule.Moving.{Moving}
use Rattle.lfm_table.specs.Actions.{RunGoesOn}
use Rattle.lfm_table.specs.Reach.{Reached}
use Rattle.lfm_table.specs.Rule.{LastHold, SameRoot, seen}

-- Which call

pub data Errand : Type 0 where
  locking : Errand
  trying : Errand
  releasing : Releaser → Errand
  sending : Errand
  receiving : Errand
  nothing : Errand

abbrev pub pushes : Pusher → Errand
pushes Pusher.Locker = locking
pushes (Pusher.Sender t) = sending

abbrev pub carries_for : Carrier → Errand
carries_for Carrier.Locker = locking
carries_for (Carrier.Releaser releaser) = releasing releaser
carries_for (Carrier.Reclaimer releaser) = releasing releaser
carries_for Carrier.Sender = sending

abbrev pub enters : Entrant → Errand
enters Entrant.Locker = locking
enters Entrant.Trier = trying
enters Entrant.Receiver = receiving

-- the call that is open at this point
abbrev pub errand : Point → Errand
errand Rest = nothing
errand (Asleep sleeper) = nothing
errand LockCountAdd = locking
errand LockOwnerLoad = locking
errand LockCountSubtract = locking
errand TryCountExchange = trying
errand TryOwnerLoad = trying
errand TryHandoffLoad = trying
errand (TryHandoffExchange old) = trying
errand TryCountAdd = trying
errand (SendWakeExchange t) = sending
errand (SendCountAdd t) = sending
errand (SendPushRecheck t old) = sending
errand (SendWakeStore t) = sending
errand (PushLoad pusher) = pushes pusher
errand (LinkStore pusher old) = pushes pusher
errand (PushExchange pusher old) = pushes pusher
errand (PushedHandoffLoad pusher) = pushes pusher
errand (PushedHandoffExchange pusher old) = pushes pusher
errand (ReleaseOwnerStore releaser) = releasing releaser
errand (ReleaseCountSubtract releaser) = releasing releaser
errand (ReleaseHandoffStore releaser) = releasing releaser
errand (ReleasePushRecheck releaser) = releasing releaser
errand (ReleaseHandoffExchange releaser) = releasing releaser
errand (WaitWakeStore released) = releasing Waiter
errand (TakeClearHead carrier) = carries_for carrier
errand (TakeLinkLoad carrier next) = carries_for carrier
errand (GrantWakeStore carrier oldest) = carries_for carrier
errand (EnterOwnerStore entrant how) = enters entrant
errand (ReceiveWakeLoad sleeper) = receiving
errand (ReceiveWakeStore stamp) = receiving

-- the call that gives this answer
abbrev pub answers_for : Answer → Errand
answers_for (Answer.Asked asked) = locking
answers_for (Answer.Locked locked) = trying
answers_for (Answer.Unlocked unlocked) = releasing Unlocker
answers_for (Answer.Waiting unlocked) = releasing Waiter
answers_for (Answer.Got got) = receiving
answers_for Answer.Sent = sending

abbrev pub refuses_for : Why → Errand
refuses_for (By Refusal.Busy) = trying
refuses_for (By Refusal.NotWaiting) = sending
refuses_for _ = nothing

-- a turn of this call that has led to this point
abbrev pub IsTurn : Errand → Turn → Point → Type 0
IsTurn e Open q = errand q ≡ e
IsTurn e (Ended answer) q = answers_for answer ≡ e
IsTurn e (Refused why) q = (refuses_for why ≡ e) × (q ≡ Rest)

-- How many steps are left, at most

abbrev pub left : Link → ℕ
left l = 2 * (2 ^ 48 - l.stamp) + (if nat_eq l.next 0 then 0 else 1)

abbrev pub clearing : ℕ → Carrier → ℕ
clearing n (Carrier.Releaser releaser) = n + 5 + waits_on releaser
clearing n (Carrier.Reclaimer releaser) = n + 1 + waits_on releaser
clearing n _ = n + 4

-- while the pop list has room for this number of records
abbrev pub collecting : ℕ → Carrier → ℕ
collecting room (Carrier.Releaser releaser) = room + waits_on releaser
collecting room (Carrier.Reclaimer releaser) = room + waits_on releaser
collecting room _ = room + 3

abbrev pub granting : Carrier → ℕ
granting (Carrier.Releaser releaser) = 1 + waits_on releaser
granting (Carrier.Reclaimer releaser) = 1 + waits_on releaser
granting _ = 2

-- at this point, with n seats and k records in the pop list
abbrev pub weight : ℕ → ℕ → Point → ℕ
weight n k Rest = 0
weight n k (Asleep sleeper) = 0
weight n k LockCountAdd = n + 2 ^ 51 + 12
weight n k LockOwnerLoad = n + 2 ^ 51 + 11
weight n k LockCountSubtract = 1
weight n k TryCountExchange = 6
weight n k TryOwnerLoad = 5
weight n k TryHandoffLoad = 4
weight n k (TryHandoffExchange old) = 3
weight n k TryCountAdd = 2
weight n k (SendWakeExchange t) = n + 2 ^ 51 + 13
weight n k (SendCountAdd t) = n + 2 ^ 51 + 12
weight n k (SendPushRecheck t old) = n + 6
weight n k (SendWakeStore t) = 1
weight n k (PushLoad pusher) = n + 2 ^ 51 + 10
weight n k (LinkStore pusher old) = n + 2 * left old + 9
weight n k (PushExchange pusher old) = n + 2 * left old + 8
weight n k (PushedHandoffLoad pusher) = n + 7
weight n k (PushedHandoffExchange pusher old) = n + 5
weight n k (ReleaseOwnerStore releaser) = n + 7 + waits_on releaser
weight n k (ReleaseCountSubtract releaser) = n + 6 + waits_on releaser
weight n k (ReleaseHandoffStore releaser) = n + 4 + waits_on releaser
weight n k (ReleasePushRecheck releaser) = n + 3 + waits_on releaser
weight n k (ReleaseHandoffExchange releaser) = n + 2 + waits_on releaser
weight n k (WaitWakeStore released) = 1
weight n k (TakeClearHead carrier) = clearing n carrier
weight n k (TakeLinkLoad carrier next) = collecting (n - k) carrier
weight n k (GrantWakeStore carrier oldest) = granting carrier
weight n k (EnterOwnerStore entrant how) = 1
weight n k (ReceiveWakeLoad sleeper) = 3
weight n k (ReceiveWakeStore stamp) = 2

-- how many steps a call that releases makes at most, with n seats
abbrev pub release_steps : ℕ → Call → ℕ
release_steps n Call.StartWait = n + 8
release_steps n _ = n + 7

-- Runs

-- the result of steps that found these numbers, each with the oldest record that the pop list had
abbrev pub end_of : ℕ → Stepped → List (ℕ × Option Record) → Stepped
end_of s st [] = st
end_of s st (f ∷ finds) = end_of s (stepped_by st.seat s f.0 f.1) finds

-- the trail of these steps, each at the point to which the steps before it led
abbrev pub trail_of : ℕ → SeatState → List (ℕ × Option Record) → List Seen
trail_of s x [] = []
trail_of s x (f ∷ finds) = seen x.point f.0 ∷ trail_of s (stepped_by x s f.0 f.1).seat finds

-- the seat has made some steps of its call, from the state and turn st, and the table's run has been extended
pub record Ran {T : Type 0} (s : ℕ) (st : Stepped) (v : View T) (turn : Turn) (p : SeatState) (v' : View T) : Type 0 where
  pub finds : List (ℕ × Option Record)
  pub ends : end_of s st finds ≡ record { seat = p; turn = turn }
  pub trail : v'.trail ≡ v.trail ++ trail_of s st.seat finds
  pub root : SameRoot v v'
  pub run : RunGoesOn v v'

-- Answers

-- how the seat acquired the mutex, if the turn says that it did
abbrev pub how_asked : Asked → Option How
how_asked (Asked.Held how) = Some how
how_asked _ = None

abbrev pub how_locked : Locked → Option How
how_locked (Locked.Held how) = Some how
how_locked _ = None

abbrev pub how_answered : Answer → Option How
how_answered (Answer.Asked asked) = how_asked asked
how_answered (Answer.Locked locked) = how_locked locked
how_answered (Answer.Got got) = got
how_answered _ = None

abbrev pub how_held : Turn → Option How
how_held (Ended answer) = how_answered answer
how_held _ = None

-- this turn ends the call
abbrev pub Ends : Errand → Turn → Type 0
Ends e Open = ⊥
Ends e (Ended answer) = answers_for answer ≡ e
Ends e (Refused why) = refuses_for why ≡ e

abbrev pub is_release : Point → Bool
is_release (ReleaseOwnerStore releaser) = true
is_release _ = false

-- the state and turn of a call that has begun, before its first step
abbrev pub opens : SeatState → Stepped
opens p = record { seat = p; turn = Open }

-- The calls

abbrev pub errand_of : Call → Errand
errand_of Call.Lock = locking
errand_of Call.TryLock = trying
errand_of Call.Unlock = releasing Unlocker
errand_of Call.StartWait = releasing Waiter
errand_of (Call.SendLock t) = sending
errand_of Call.Receive = receiving

abbrev pub is_releasing : Errand → Bool
is_releasing (releasing releaser) = true
is_releasing _ = false

-- a call of this errand can end with this turn
abbrev pub Answers : Errand → Turn → Type 0
Answers e Open = ⊥
Answers e (Ended answer) = answers_for answer ≡ e
Answers e (Refused why) = ⊤

-- a call with this state and turn at its start has ended with this turn: at once, or by steps
abbrev pub CalledBy : {T : Type 0} → Turn → ℕ → Errand → SeatState → View T → Turn → SeatState → View T → Type 0
CalledBy Open s e q v turn p' v' = Ends e turn × Ran s (opens q) v turn p' v'
CalledBy t s e q v turn p' v' = (turn ≡ t) × (p' ≡ q) × (v' ≡ v)

abbrev pub Called : {T : Type 0} → ℕ → Limits → Call → SeatState → View T → Turn → SeatState → View T → Type 0
Called s l call p v turn p' v' = CalledBy (Begin.begin p l call).turn s (errand_of call) (Begin.begin p l call).seat v turn p' v'

-- the number of seats that had acquired the mutex by a queued record when this one acquired it, and that number afterwards
abbrev pub Counts : How → ℕ → ℕ → Type 0
Counts How.Free k answered = k ≡ answered
Counts (How.Queued stamp) k answered = (k + 1 ≡ stamp) × (answered ≡ stamp)

-- The seat has acquired the mutex. Its last hold before that is `before`. The value in hand was reached from the one that it
-- left then, and is that one if no later hold has ended. The value suits the mutex.
pub record Holds {T : Type 0} (follows : ℕ → T → T → Type 0) (suits : T → ℕ → Type 0) (s : ℕ) (before : LastHold T) (how : How) (p : SeatState) (a : Option (Moving T)) (v : View T) : Type 0 where
  pub depth : p.depth ≡ 1
  pub rests : p.point ≡ Rest
  pub moving : Moving T
  pub in_hand : a ≡ Some moving
  pub found : v.found ≡ Some moving.value
  pub reached : (l : T) → before.0 ≡ Some l → Reached follows v.limits.seats s l moving.value
  pub ended : v.ended ≡ before.3
  pub within : before.3 ≤ v.holds_ended
  pub own : before.3 ≡ v.holds_ended → before.0 ≡ Some moving.value
  pub count : ℕ
  pub counts : Counts how count v.answered
  pub fits : suits moving.value count
