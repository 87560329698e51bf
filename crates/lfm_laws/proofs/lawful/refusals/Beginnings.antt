-- The starts of calls by a seat without an open call: a refused call leaves the seat unchanged, no start leads to a point from
-- which Busy may follow, and only the mutex refuses one.
use Rattle.std.proofs.Common.{◌≡◌, ℕ, Bool, true, false, ◌+◌, ◌-◌, ◌&&◌, nat_eq, nat_lt, refl, if◌then◌else◌}
use Rattle.std.specs.Prelude.{⊤}
use Rattle.lfm_model.specs.declared.answers.Unlocked.TheVariants.{Still}
use Rattle.lfm_model.specs.declared.refusals.Refusal.{Refusal}
use Rattle.lfm_protocol.specs.declared.answers.Answer.{Answer}
use Rattle.lfm_protocol.specs.declared.answers.Answer.TheVariants.{Unlocked}
use Rattle.lfm_protocol.specs.declared.answers.Call.{Call}
use Rattle.lfm_protocol.specs.declared.answers.Call.TheVariants.{Lock, TryLock, Unlock, StartWait, SendLock, Receive}
use Rattle.lfm_protocol.specs.declared.answers.Turn.{Turn}
use Rattle.lfm_protocol.specs.declared.answers.Turn.TheVariants.{Open, Ended, Refused}
use Rattle.lfm_protocol.specs.declared.answers.Why.{Why}
use Rattle.lfm_protocol.specs.declared.limits.Limits.{Limits}
use Rattle.lfm_protocol.specs.declared.points.Point.{Point}
use Rattle.lfm_protocol.specs.declared.points.Point.TheVariants.{LockCountAdd, TryCountExchange, SendWakeExchange, ReleaseOwnerStore, ReceiveWakeLoad}
use Rattle.lfm_protocol.specs.declared.points.Releaser.TheVariants.{Unlocker, Waiter}
use Rattle.lfm_protocol.specs.declared.points.Sleeper.{Sleeper}
use Rattle.lfm_protocol.specs.declared.seats.SeatState.{SeatState}
use Rattle.lfm_protocol.specs.Begin.{Stepped, goes_on, refuses, charges, begin_entry, begin_awake, begin_asleep}
use Rattle.lfm_laws.proofs.lawful.refusals.PlainSteps.{tries}

-- if the turn is refused, the mutex refuses it
abbrev pub IsByMutex : Turn → Type 0
IsByMutex (Refused Why.NoSuchSeat) = ⊥
IsByMutex (Refused Why.InCall) = ⊥
IsByMutex (Refused Why.Idle) = ⊥
IsByMutex _ = ⊤

pub record IsBegun (x : SeatState) (m : Stepped) : Type 0 where
  pub same : (why : Why) → m.turn ≡ Refused why → m.seat ≡ x
  pub untried : tries x.point ≡ false → tries m.seat.point ≡ false
  pub by : IsByMutex m.turn

begun_if : (x : SeatState) (b : Bool) (m n : Stepped) → IsBegun x m → IsBegun x n → IsBegun x (if b then m else n)
begun_if x true m n first second = first
begun_if x false m n first second = second

goes : (x y : SeatState) → tries y.point ≡ false → IsBegun x (record { seat = y; turn = Open })
goes x y other = record { same = λ why e. absurd (cc); untried = λ e. other; by = tt }

lowers : (x : SeatState) (answer : Answer) → IsBegun x (record { seat = record x { depth = x.depth - 1 }; turn = Ended answer })
lowers x answer = record { same = λ why e. absurd (cc); untried = λ e. e; by = tt }

refused : (x : SeatState) (refusal : Refusal) → IsBegun x (refuses x refusal)
refused x refusal = record { same = λ why e. refl; untried = λ e. e; by = tt }

charged : (x : SeatState) (budget : ℕ) (p : Point) → tries p ≡ false → IsBegun x (charges x budget p)
charged x budget p other =
    let y : SeatState = record x { point = p; takes = x.takes + 1 } in
    begun_if x (nat_lt x.takes budget) (record { seat = y; turn = Open }) (refuses x Refusal.Spent) (goes x y other) (refused x Refusal.Spent)

entered : (x : SeatState) (budget : ℕ) (p : Point) → tries p ≡ false → IsBegun x (begin_entry x budget p)
entered x budget p other =
    begun_if x (nat_lt 65534 x.depth) (refuses x Refusal.DepthFull) (if nat_eq x.depth 0 then charges x budget p else goes_on x p)
    (refused x Refusal.DepthFull)
    (begun_if x (nat_eq x.depth 0) (charges x budget p) (goes_on x p) (charged x budget p other) (goes x (record x { point = p }) other))

pub begun_awake : (x : SeatState) (bounds : Limits) (call : Call) → IsBegun x (begin_awake x bounds call)
begun_awake x bounds Lock = entered x bounds.budget LockCountAdd refl
begun_awake x bounds TryLock = entered x bounds.budget TryCountExchange refl
begun_awake x bounds Unlock =
    let p : Point = ReleaseOwnerStore Unlocker in
    let lowered : Stepped = record { seat = record x { depth = x.depth - 1 }; turn = Ended (Unlocked (Still (x.depth - 1))) } in
    begun_if x (nat_eq x.depth 0) (refuses x Refusal.NotOwner) (if nat_eq x.depth 1 then goes_on x p else lowered) (refused x Refusal.NotOwner)
    (begun_if x (nat_eq x.depth 1) (goes_on x p) lowered (goes x (record x { point = p }) refl) (lowers x (Unlocked (Still (x.depth - 1)))))
begun_awake x bounds StartWait =
    let p : Point = ReleaseOwnerStore Waiter in
    begun_if x (nat_eq x.depth 0) (refuses x Refusal.NotOwner) (if nat_lt 1 x.depth then refuses x Refusal.Nested else charges x bounds.budget p)
    (refused x Refusal.NotOwner)
    (begun_if x (nat_lt 1 x.depth) (refuses x Refusal.Nested) (charges x bounds.budget p) (refused x Refusal.Nested) (charged x bounds.budget p refl))
begun_awake x bounds (SendLock t) =
    begun_if x (nat_lt 0 t && nat_lt t (bounds.seats + 1)) (goes_on x (SendWakeExchange t)) (refuses x Refusal.NoSuchSeat)
    (goes x (record x { point = SendWakeExchange t }) refl) (refused x Refusal.NoSuchSeat)
begun_awake x bounds Receive = refused x Refusal.NotWaiting

pub begun_asleep : (x : SeatState) (sleeper : Sleeper) (call : Call) → IsBegun x (begin_asleep x sleeper call)
begun_asleep x sleeper Receive = goes x (record x { point = ReceiveWakeLoad sleeper }) refl
begun_asleep x sleeper _ = refused x Refusal.Asleep
