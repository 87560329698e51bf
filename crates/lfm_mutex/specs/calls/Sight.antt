-- What the crates above see of a seat, and how a call changes it.
use Rattle.std.specs.Prelude.{◌≡◌, ◌≢◌, ◌⊎◌, ⊤, ℕ, zero, suc, ◌+◌, ◌<◌, ◌≤◌, List, [], ◌∷◌, ◌++◌, Bool, true, false, Option, Some, None, Result, Ok, Err}
use Rattle.lfm_model.specs.declared.answers.Asked.{Asked}
use Rattle.lfm_model.specs.declared.answers.How.{How}
use Rattle.lfm_model.specs.declared.answers.Locked.{Locked}
use Rattle.lfm_model.specs.declared.answers.Unlocked.{Unlocked}
use Rattle.lfm_model.specs.declared.refusals.Refusal.{Refusal}
use Rattle.lfm_model.specs.SeatNumbers.{IsSeatNo}
use Rattle.lfm_words.specs.declared.wakes.Wake.{Wake}
use Rattle.lfm_protocol.specs.declared.answers.Answer.{Answer}
use Rattle.lfm_protocol.specs.declared.answers.Call.{Call}
use Rattle.lfm_protocol.specs.declared.answers.Turn.{Turn}
use Rattle.lfm_protocol.specs.declared.answers.Turn.TheVariants.{Open, Ended, Refused}
use Rattle.lfm_protocol.specs.declared.answers.Why.{Why}
use Rattle.lfm_protocol.specs.declared.limits.Limits.{Limits}
use Rattle.lfm_protocol.specs.declared.points.Point.{Point}
use Rattle.lfm_protocol.specs.declared.points.Point.TheVariants.{Rest, Asleep, SendWakeExchange, TryCountExchange, TryOwnerLoad, TryHandoffLoad, TryHandoffExchange, WaitWakeStore}
use Rattle.lfm_protocol.specs.declared.seats.SeatState.{SeatState}
use Rattle.lfm_protocol.specs.After.{same_handoff}
use Rattle.lfm_protocol.specs.Limits.{max_depth}
use Rattle.lfm_laws.specs.table.Words.{handoff_of, wake_of}
use Rattle.lfm_mutex.specs.declared.seat.Seat.{Seat}
use Rattle.lfm_table.specs.declared.seat_view.Seen.{Seen}
use Rattle.lfm_table.specs.declared.seat_view.View.{View}
use Rattle.lfm_table.specs.Rule.{value_in, seen}
use Rattle.lfm_table.specs.Reach.{Reached}

-- a seat, as the crates above see it
pub record Sight (T : Type 0) : Type 0 where
  pub number : ℕ
  -- how many seats its mutex has
  pub seats : ℕ
  pub depth : ℕ
  pub takes : ℕ
  -- it sleeps, or a call of it is open
  pub asleep : Bool
  -- a call of it is open
  pub in_call : Bool
  -- while it holds, the value that it found; otherwise the value that it left last, or the opening value if it has left none
  pub last : Option T
  -- the value that it found when it last acquired the mutex. It stays when the hold ends, until the next acquisition; None
  -- before the first one
  pub found : Option T
  -- the number of the hold that it ended last, or 0 if it has ended none. Holds are numbered 1, 2, 3 and so on over all seats,
  -- in the order in which they end
  pub ended : ℕ
  -- while it holds, how many holds have ended
  pub holds_ended : ℕ
  -- the value that it has in hand while it holds
  pub value : Option T
  -- while it holds, how many seats have acquired the mutex by a queued record
  pub queued : ℕ
  -- its steps so far
  pub trail : List Seen
  -- the seats that it has sent
  pub sends : List ℕ

-- the second value for a seat that doesn't hold, the third for one that does
abbrev pub by_depth : {A : Type 0} → ℕ → A → A → A
by_depth zero out deep = out
by_depth (suc d) out deep = deep

abbrev pub is_asleep : Point → Bool
is_asleep Rest = false
is_asleep _ = true

abbrev pub is_in_call : Point → Bool
is_in_call Rest = false
is_in_call (Asleep sleeper) = false
is_in_call _ = true

-- the seat t, if an exchange that found this wake word has claimed it
abbrev pub claimed : ℕ → Wake → List ℕ
claimed t Wake.Waiting = t ∷ []
claimed t _ = []

abbrev pub send_at : Point → ℕ → List ℕ
send_at (SendWakeExchange t) n = claimed t (wake_of n)
send_at _ n = []

abbrev pub sends_of : List Seen → List ℕ
sends_of [] = []
sends_of (x ∷ xs) = send_at x.point x.found ++ sends_of xs

abbrev pub sight_of : {T : Type 0} → ℕ → SeatState → View T → Option T → Sight T
sight_of n p v a =
    record {
      number = n;
      seats = v.limits.seats;
      depth = p.depth;
      takes = p.takes;
      asleep = is_asleep p.point;
      in_call = is_in_call p.point;
      last = by_depth p.depth v.last v.found;
      found = by_depth p.depth v.last_found v.found;
      ended = v.ended;
      holds_ended = by_depth p.depth 0 v.holds_ended;
      value = by_depth p.depth None a;
      queued = by_depth p.depth 0 v.answered;
      trail = v.trail;
      sends = sends_of v.trail;
    }

abbrev pub sight : {T : Type 0} → Seat T → Sight T
sight s = sight_of s.table_seat.number s.state s.table_seat.place.me.0 (value_in s.table_seat.moving)

-- the sight of a new seat, of a mutex with this number of seats
abbrev pub new_sight : {T : Type 0} → T → ℕ → ℕ → Sight T
new_sight x seats n =
    record {
      number = n;
      seats = seats;
      depth = 0;
      takes = 0;
      asleep = false;
      in_call = false;
      last = Some x;
      found = None;
      ended = 0;
      holds_ended = 0;
      value = None;
      queued = 0;
      trail = [];
      sends = [];
    }

-- the seat that a number found in the owner word names; None if it can name none
abbrev pub Names : Option ℕ → ℕ → Type 0
Names (Some k) n = k ≡ n
Names None n = IsSeatNo n → ⊥

-- a read of the owner by `owner`: one load, from which the caller knows whether it holds
abbrev pub TellsOwner : {T : Type 0} → Sight T → Sight T → Option ℕ → Type 0
TellsOwner s t r =
    (n : ℕ) × (t ≡ record s { trail = s.trail ++ seen TryOwnerLoad n ∷ [] }) × Names r n × (r ≡ Some s.number → 0 < s.depth) × (0 < s.depth → r ≡ Some s.number)

-- The steps of a call that was refused as Busy: the count was not 0, this seat was not the owner, and no handoff was posted, or
-- the one that was seen had gone.
abbrev pub BusySeen : ℕ → List Seen → Type 0
BusySeen s new =
    (n m h : ℕ) × (n ≢ 0) × (m ≢ s) × (
    (((handoff_of h).seat ≡ 0) × (new ≡ seen TryCountExchange n ∷ seen TryOwnerLoad m ∷ seen TryHandoffLoad h ∷ []))
    ⊎ ((k : ℕ) × ((handoff_of h).seat ≢ 0) × (same_handoff (handoff_of k) (handoff_of h) ≡ false) × (new ≡ seen TryCountExchange n ∷ seen TryOwnerLoad m ∷ seen TryHandoffLoad h ∷ seen (TryHandoffExchange (handoff_of h)) k ∷ [])))

-- an answer of a call by which a seat gave up the mutex
abbrev pub IsLeft : Unlocked → Type 0
IsLeft (Unlocked.Still d) = ⊥
IsLeft _ = ⊤

-- the refusal that a call returns: a turn out of order means that the seat has another call open
abbrev pub refusal_of : Why → Refusal
refusal_of (Why.By r) = r
refusal_of _ = Refusal.Asleep

module _ {T : Type 0} where
  -- why lock is refused. Asleep: the seat sleeps, or another call of it is open
  abbrev pub LockRefused : ℕ → Sight T → Refusal → Type 0
  LockRefused budget s Refusal.Asleep = s.asleep ≡ true
  LockRefused budget s Refusal.DepthFull = (s.asleep ≡ false) × (max_depth ≤ s.depth)
  LockRefused budget s Refusal.Spent = (s.asleep ≡ false) × (s.depth ≡ 0) × (budget ≤ s.takes)
  LockRefused budget s _ = ⊥

  abbrev pub UnlockRefused : Sight T → Refusal → Type 0
  UnlockRefused s Refusal.Asleep = s.asleep ≡ true
  UnlockRefused s Refusal.NotOwner = (s.asleep ≡ false) × (s.depth ≡ 0)
  UnlockRefused s _ = ⊥

  abbrev pub WaitRefused : ℕ → Sight T → Refusal → Type 0
  WaitRefused budget s Refusal.Asleep = s.asleep ≡ true
  WaitRefused budget s Refusal.NotOwner = (s.asleep ≡ false) × (s.depth ≡ 0)
  WaitRefused budget s Refusal.Nested = (s.asleep ≡ false) × (1 < s.depth)
  WaitRefused budget s Refusal.Spent = (s.asleep ≡ false) × (s.depth ≡ 1) × (budget ≤ s.takes)
  WaitRefused budget s _ = ⊥

  -- how a call deepens a hold
  abbrev pub Deepens : Sight T → Sight T → ℕ → Type 0
  Deepens s t d = (s.asleep ≡ false) × (0 < s.depth) × (s.depth < max_depth) × (d ≡ s.depth + 1) × (t ≡ record s { depth = d; trail = t.trail })

  -- The seat has given up the mutex. It left last what it had in hand, and the value that it had found is still known. The hold
  -- that it ended has the next number.
  abbrev pub LeavesOff : Sight T → Sight T → Type 0
  LeavesOff s t = (s.asleep ≡ false) × (s.depth ≡ 1) × (t.number ≡ s.number) × (t.depth ≡ 0) × (t.value ≡ None) × ((x : T) → s.value ≡ Some x → t.last ≡ Some x) × (t.sends ≡ s.sends) × (t.found ≡ s.found) × (t.ended ≡ s.holds_ended + 1)

  -- how unlock ends
  abbrev pub Unlocks : Sight T → Sight T → Result Unlocked Refusal → Type 0
  Unlocks s t (Ok (Unlocked.Still d)) = (s.asleep ≡ false) × (0 < d) × (s.depth ≡ d + 1) × (t ≡ record s { depth = d })
  Unlocks s t (Ok u) = LeavesOff s t × (t.takes ≡ s.takes) × (t.asleep ≡ false)
  Unlocks s t (Err r) = UnlockRefused s r × (t ≡ s)

  -- how start_wait ends
  abbrev pub StartsWait : ℕ → Sight T → Sight T → Result Unlocked Refusal → Type 0
  StartsWait budget s t (Ok u) = IsLeft u × LeavesOff s t × (s.takes < budget) × (t.takes ≡ s.takes + 1) × (t.asleep ≡ true) × (t.in_call ≡ false)
  StartsWait budget s t (Err r) = WaitRefused budget s r × (t ≡ s)

  abbrev pub SendRefused : ℕ → Sight T → ℕ → Refusal → Type 0
  SendRefused n s target Refusal.Asleep = s.asleep ≡ true
  SendRefused n s target Refusal.NoSuchSeat = (s.asleep ≡ false) × (0 < target → n < target)
  SendRefused n s target _ = ⊥

  -- how send_lock ends at a mutex with n seats
  abbrev pub Sends : ℕ → Sight T → ℕ → Sight T → Result ⊤ Refusal → Type 0
  Sends n s target t (Ok u) = (s.asleep ≡ false) × (0 < target) × (target ≤ n) × (t ≡ record s { trail = t.trail; sends = s.sends ++ target ∷ [] })
  Sends n s target t (Err Refusal.NotWaiting) =
      (s.asleep ≡ false) × (0 < target) × (target ≤ n) × (t ≡ record s { trail = t.trail }) × ((k : ℕ) × (claimed target (wake_of k) ≡ []) × (t.trail ≡ s.trail ++ seen (SendWakeExchange target) k ∷ []))
  Sends n s target t (Err r) = SendRefused n s target r × (t ≡ s)

module _ {T : Type 0} (follows : ℕ → T → T → Type 0) (fits : T → ℕ → Type 0) where
  -- the value was found by an acquisition of this kind; what the seat leaves then must suit k queued takes
  abbrev pub Suits : How → T → ℕ → Type 0
  Suits How.Free w k = fits w k
  Suits (How.Queued x) w k = (j : ℕ) × (x ≡ j + 1) × (k ≡ x) × fits w j

  -- The seat has acquired the mutex, and found a value that is reached from what it left last. If no later hold than its own
  -- last one has ended, it finds what it left.
  abbrev pub Finds : How → Sight T → Sight T → Type 0
  Finds how s t =
      (w : T) × (t.value ≡ Some w) × (t.last ≡ Some w) × ((l : T) → s.last ≡ Some l → Reached follows t.seats s.number l w) × Suits how w t.queued × (t.found ≡ Some w) × (t.ended ≡ s.ended) × (s.ended ≤ t.holds_ended)
      × (s.ended ≡ t.holds_ended → s.last ≡ Some w)

  -- the seat may leave the value that it has in hand
  abbrev pub MayLeave : Sight T → Type 0
  MayLeave s = (x : T) → s.value ≡ Some x → fits x s.queued × ((l : T) → s.last ≡ Some l → follows s.number l x)

  -- if the call gives up the seat's only hold, the seat may leave the value that it has in hand
  abbrev pub MayRelease : Sight T → Type 0
  MayRelease s = s.depth ≡ 1 → MayLeave s

  -- a seat that doesn't hold acquires the mutex at once
  abbrev pub Gains : ℕ → How → Sight T → Sight T → Type 0
  Gains budget how s t =
      (s.asleep ≡ false) × (s.depth ≡ 0) × (s.takes < budget) × (t.number ≡ s.number) × (t.depth ≡ 1) × (t.takes ≡ s.takes + 1) × (t.asleep ≡ false) × (t.sends ≡ s.sends) × Finds how s t

  -- how try_lock ends
  abbrev pub Locks : ℕ → Sight T → Sight T → Result Locked Refusal → Type 0
  Locks budget s t (Ok (Locked.Held how)) = Gains budget how s t
  Locks budget s t (Ok (Locked.Again d)) = Deepens s t d
  Locks budget s t (Err Refusal.Busy) =
      (s.asleep ≡ false) × (s.depth ≡ 0) × (s.takes < budget) × (t ≡ record s { trail = t.trail }) × ((new : List Seen) × (t.trail ≡ s.trail ++ new) × BusySeen s.number new)
  Locks budget s t (Err r) = LockRefused budget s r × (t ≡ s)

  -- how ask ends
  abbrev pub Asks : ℕ → Sight T → Sight T → Result Asked Refusal → Type 0
  Asks budget s t (Ok (Asked.Held how)) = Gains budget how s t
  Asks budget s t (Ok (Asked.Again d)) = Deepens s t d
  Asks budget s t (Ok Asked.Asleep) = (s.asleep ≡ false) × (s.depth ≡ 0) × (s.takes < budget) × (t ≡ record s { takes = s.takes + 1; asleep = true; in_call = false; trail = t.trail })
  Asks budget s t (Err r) = LockRefused budget s r × (t ≡ s)

  -- how lock ends
  abbrev pub LocksWaiting : ℕ → Sight T → Sight T → Result Locked Refusal → Type 0
  LocksWaiting budget s t (Ok (Locked.Held how)) = Gains budget how s t
  LocksWaiting budget s t (Ok (Locked.Again d)) = Deepens s t d
  LocksWaiting budget s t (Err r) = LockRefused budget s r × (t ≡ s)

  abbrev pub TakesUp : How → Sight T → Sight T → Type 0
  TakesUp how s t =
      (s.asleep ≡ true) × (s.in_call ≡ false) × (t.asleep ≡ false) × (t.number ≡ s.number) × (t.depth ≡ 1) × (t.takes ≡ s.takes) × (t.sends ≡ s.sends) × Finds how s t

  -- how try_receive ends
  abbrev pub Receives : Sight T → Sight T → Result (Option How) Refusal → Type 0
  Receives s t (Ok (Some how)) = TakesUp how s t
  Receives s t (Ok None) = (s.asleep ≡ true) × (s.in_call ≡ false) × (t ≡ record s { trail = t.trail })
  Receives s t (Err Refusal.NotWaiting) = (s.asleep ≡ false ⊎ (s.in_call ≡ true)) × (t ≡ s)
  Receives s t (Err r) = ⊥

  -- how receive_lock ends
  abbrev pub ReceivesLock : Sight T → Sight T → Result How Refusal → Type 0
  ReceivesLock s t (Ok how) = TakesUp how s t
  ReceivesLock s t (Err Refusal.NotWaiting) = (s.asleep ≡ false ⊎ (s.in_call ≡ true)) × (t ≡ s)
  ReceivesLock s t (Err r) = ⊥

  -- The same, by the turn that ends the call

  abbrev pub LockTurn : ℕ → Sight T → Sight T → Turn → Type 0
  LockTurn budget s t (Ended (Answer.Asked asked)) = Asks budget s t (Ok asked)
  LockTurn budget s t (Refused why) = Asks budget s t (Err (refusal_of why))
  LockTurn budget s t _ = ⊤

  abbrev pub TryTurn : ℕ → Sight T → Sight T → Turn → Type 0
  TryTurn budget s t (Ended (Answer.Locked locked)) = Locks budget s t (Ok locked)
  TryTurn budget s t (Refused why) = Locks budget s t (Err (refusal_of why))
  TryTurn budget s t _ = ⊤

  abbrev pub UnlockTurn : Sight T → Sight T → Turn → Type 0
  UnlockTurn s t (Ended (Answer.Unlocked u)) = Unlocks s t (Ok u)
  UnlockTurn s t (Refused why) = Unlocks s t (Err (refusal_of why))
  UnlockTurn s t _ = ⊤

  abbrev pub WaitTurn : ℕ → Sight T → Sight T → Turn → Type 0
  WaitTurn budget s t (Ended (Answer.Waiting u)) = StartsWait budget s t (Ok u)
  WaitTurn budget s t (Refused why) = StartsWait budget s t (Err (refusal_of why))
  WaitTurn budget s t _ = ⊤

  abbrev pub SendTurn : ℕ → Sight T → ℕ → Sight T → Turn → Type 0
  SendTurn n s target t (Ended Answer.Sent) = Sends n s target t (Ok tt)
  SendTurn n s target t (Refused why) = Sends n s target t (Err (refusal_of why))
  SendTurn n s target t _ = ⊤

  abbrev pub ReceiveTurn : Sight T → Sight T → Turn → Type 0
  ReceiveTurn s t (Ended (Answer.Got got)) = Receives s t (Ok got)
  ReceiveTurn s t (Refused why) = Receives s t (Err Refusal.NotWaiting)
  ReceiveTurn s t _ = ⊤

  -- how a call with this turn changes the sight of its seat
  abbrev pub Turned : Limits → Call → Sight T → Sight T → Turn → Type 0
  Turned l Call.Lock s t turn = LockTurn l.budget s t turn
  Turned l Call.TryLock s t turn = TryTurn l.budget s t turn
  Turned l Call.Unlock s t turn = UnlockTurn s t turn
  Turned l Call.StartWait s t turn = WaitTurn l.budget s t turn
  Turned l (Call.SendLock k) s t turn = SendTurn l.seats s k t turn
  Turned l Call.Receive s t turn = ReceiveTurn s t turn

-- How the last step of a call changes a seat's own state

abbrev pub StillAt : Point → Type 0
StillAt (WaitWakeStore released) = IsLeft released
StillAt _ = ⊤

-- how this answer relates the state x of the seat when the call's steps began to its state p afterwards
abbrev pub AnsweredBy : SeatState → SeatState → Answer → Type 0
AnsweredBy x p (Answer.Asked (Asked.Held how)) = (x.depth ≡ 0) × (p.depth ≡ 1) × (p.takes ≡ x.takes) × (p.point ≡ Rest)
AnsweredBy x p (Answer.Asked (Asked.Again d)) = (0 < x.depth) × (d ≡ x.depth + 1) × (p.depth ≡ d) × (p.takes ≡ x.takes) × (p.point ≡ Rest)
AnsweredBy x p (Answer.Asked Asked.Asleep) = (x.depth ≡ 0) × (p.depth ≡ 0) × (p.takes ≡ x.takes) × (is_asleep p.point ≡ true) × (is_in_call p.point ≡ false)
AnsweredBy x p (Answer.Locked (Locked.Held how)) = (x.depth ≡ 0) × (p.depth ≡ 1) × (p.takes ≡ x.takes) × (p.point ≡ Rest)
AnsweredBy x p (Answer.Locked (Locked.Again d)) = (0 < x.depth) × (d ≡ x.depth + 1) × (p.depth ≡ d) × (p.takes ≡ x.takes) × (p.point ≡ Rest)
AnsweredBy x p (Answer.Unlocked u) = (p.depth ≡ x.depth) × (p.takes ≡ x.takes) × (p.point ≡ Rest) × IsLeft u
AnsweredBy x p (Answer.Waiting u) = (p.depth ≡ x.depth) × (p.takes ≡ x.takes) × (is_asleep p.point ≡ true) × (is_in_call p.point ≡ false) × (StillAt x.point → IsLeft u)
AnsweredBy x p (Answer.Got (Some how)) = (x.depth ≡ 0) × (p.depth ≡ 1) × (p.takes ≡ x.takes) × (p.point ≡ Rest)
AnsweredBy x p (Answer.Got None) = (p.depth ≡ x.depth) × (p.takes ≡ x.takes) × (is_asleep p.point ≡ true) × (is_in_call p.point ≡ false)
AnsweredBy x p Answer.Sent = (p.depth ≡ x.depth) × (p.takes ≡ x.takes) × (p.point ≡ Rest)

abbrev pub RefusedBy : SeatState → SeatState → Why → Type 0
RefusedBy x p (Why.By Refusal.Busy) = (x.depth ≡ 0) × (p.depth ≡ 0) × (p.takes + 1 ≡ x.takes ⊎ (x.takes ≡ 0)) × (p.point ≡ Rest)
RefusedBy x p (Why.By Refusal.NotWaiting) = (p.depth ≡ x.depth) × (p.takes ≡ x.takes) × (p.point ≡ Rest)
RefusedBy x p _ = ⊥

abbrev pub Concludes : SeatState → Turn → SeatState → Type 0
Concludes x Open p = (p.depth ≡ x.depth) × (p.takes ≡ x.takes) × (StillAt x.point → StillAt p.point)
Concludes x (Ended answer) p = AnsweredBy x p answer
Concludes x (Refused why) p = RefusedBy x p why

-- while the seat holds, what it has in hand and what it knows of it has not changed
abbrev pub Stays : {T : Type 0} → ℕ → View T → Option T → View T → Option T → Type 0
Stays d v a v' a' = 0 < d → (a' ≡ a) × (v'.found ≡ v.found) × (v'.answered ≡ v.answered) × (v'.holds_ended ≡ v.holds_ended)
