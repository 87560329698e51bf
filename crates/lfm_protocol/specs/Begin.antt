-- What a seat becomes when a call starts: what is tested, in order, what is charged, and the first point.
use Rattle.std.specs.Prelude.{ℕ, ◌+◌, ◌-◌, ◌&&◌, nat_eq, nat_lt, if◌then◌else◌}
use Rattle.lfm_protocol.specs.declared.answers.Answer.{Answer}
use Rattle.lfm_protocol.specs.declared.answers.Answer.TheVariants.{Unlocked}
use Rattle.lfm_protocol.specs.declared.answers.Call.{Call}
use Rattle.lfm_protocol.specs.declared.answers.Call.TheVariants.{Lock, TryLock, Unlock, StartWait, SendLock, Receive}
use Rattle.lfm_model.specs.declared.refusals.Refusal.{Refusal}
use Rattle.lfm_protocol.specs.declared.answers.Turn.{Turn}
use Rattle.lfm_protocol.specs.declared.answers.Turn.TheVariants.{Open, Ended, Refused}
use Rattle.lfm_model.specs.declared.answers.Unlocked.TheVariants.{Still}
use Rattle.lfm_protocol.specs.declared.answers.Why.TheVariants.{InCall, By}
use Rattle.lfm_protocol.specs.declared.points.Point.{Point}
use Rattle.lfm_protocol.specs.declared.points.Point.TheVariants.{Rest, Asleep, LockCountAdd, TryCountExchange, SendWakeExchange, ReleaseOwnerStore, ReceiveWakeLoad}
use Rattle.lfm_protocol.specs.declared.points.Releaser.TheVariants.{Unlocker, Waiter}
use Rattle.lfm_protocol.specs.declared.points.Sleeper.{Sleeper}
use Rattle.lfm_protocol.specs.declared.limits.Limits.{Limits}
use Rattle.lfm_protocol.specs.declared.seats.SeatState.{SeatState}

-- seat: the data of a seat after a turn
-- turn: the result of the turn
pub record Stepped : Type 0 where
  pub seat : SeatState
  pub turn : Turn

-- the seat continues at this point
abbrev pub goes_on : SeatState → Point → Stepped
goes_on x p = record { seat = record x { point = p }; turn = Open }

-- the seat's call ends
abbrev pub ends : SeatState → Answer → Stepped
ends x answer = record { seat = record x { point = Rest }; turn = Ended answer }

-- the seat does not change
abbrev pub refuses : SeatState → Refusal → Stepped
refuses x refusal = record { seat = x; turn = Refused (By refusal) }

-- the seat charges a take and continues at this point
abbrev pub charges : SeatState → ℕ → Point → Stepped
charges x budget p =
    if nat_lt x.takes budget
    then record {
      seat = record x { point = p; takes = x.takes + 1 };
      turn = Open;
    }
    else refuses x Refusal.Spent

-- a lock or a try_lock that starts at this point: refused at the greatest depth, 65,535; charged only at depth 0
abbrev pub begin_entry : SeatState → ℕ → Point → Stepped
begin_entry x budget p =
    if nat_lt 65534 x.depth
    then refuses x Refusal.DepthFull
    else (if nat_eq x.depth 0 then charges x budget p else goes_on x p)

-- an unlock: at a depth above 1 the depth is reduced by one and the call has ended
abbrev pub begin_unlock : SeatState → Stepped
begin_unlock x =
    if nat_eq x.depth 0
    then refuses x Refusal.NotOwner
    else (if nat_eq x.depth 1
    then goes_on x (ReleaseOwnerStore Unlocker)
    else record {
      seat = record x { depth = x.depth - 1 };
      turn = Ended (Unlocked (Still (x.depth - 1)));
    })

-- a start_wait: only at depth 1, and charged
abbrev pub begin_wait : SeatState → ℕ → Stepped
begin_wait x budget =
    if nat_eq x.depth 0
    then refuses x Refusal.NotOwner
    else (if nat_lt 1 x.depth
    then refuses x Refusal.Nested
    else charges x budget (ReleaseOwnerStore Waiter))

-- a send to seat t, in a mutex with this many seats: not charged
abbrev pub begin_send : SeatState → ℕ → ℕ → Stepped
begin_send x seats t =
    if nat_lt 0 t && nat_lt t (seats + 1) then goes_on x (SendWakeExchange t) else refuses x Refusal.NoSuchSeat

-- a call of a seat that is awake
abbrev pub begin_awake : SeatState → Limits → Call → Stepped
begin_awake x limits Lock = begin_entry x limits.budget LockCountAdd
begin_awake x limits TryLock = begin_entry x limits.budget TryCountExchange
begin_awake x limits Unlock = begin_unlock x
begin_awake x limits StartWait = begin_wait x limits.budget
begin_awake x limits (SendLock t) = begin_send x limits.seats t
begin_awake x limits Receive = refuses x Refusal.NotWaiting

-- a call of a seat that sleeps
abbrev pub begin_asleep : SeatState → Sleeper → Call → Stepped
begin_asleep x sleeper Receive = goes_on x (ReceiveWakeLoad sleeper)
begin_asleep x sleeper _ = refuses x Refusal.Asleep

-- a call of a seat at this point
abbrev pub begin_at : SeatState → Limits → Call → Point → Stepped
begin_at x limits call Rest = begin_awake x limits call
begin_at x limits call (Asleep sleeper) = begin_asleep x sleeper call
begin_at x limits call _ = record { seat = x; turn = Refused InCall }

-- a call of a seat
abbrev pub begin : SeatState → Limits → Call → Stepped
begin x limits call = begin_at x limits call x.point
