-- What the start of a call does to the takes and the depth of its seat.
use Rattle.std.proofs.Common.{◌≡◌, ℕ, Bool, true, false, ◌+◌, ◌&&◌, nat_eq, nat_lt, refl, inl, inr, arith, if◌then◌else◌}
use Rattle.std.proofs.lemmas.Bool.{cases_eq, eq-eqb, ne_eqb}
use Rattle.lfm_model.specs.declared.refusals.Refusal.{Refusal}
use Rattle.lfm_protocol.specs.declared.answers.Call.{Call}
use Rattle.lfm_protocol.specs.declared.answers.Call.TheVariants.{Lock, TryLock, Unlock, StartWait, SendLock, Receive}
use Rattle.lfm_protocol.specs.declared.answers.Turn.TheVariants.{Open}
use Rattle.lfm_protocol.specs.declared.limits.Limits.{Limits}
use Rattle.lfm_protocol.specs.declared.points.Point.{Point}
use Rattle.lfm_protocol.specs.declared.points.Point.TheVariants.{Rest, Asleep, LockCountAdd, TryCountExchange, SendWakeExchange, ReleaseOwnerStore, ReceiveWakeLoad}
use Rattle.lfm_protocol.specs.declared.points.Releaser.TheVariants.{Unlocker, Waiter}
use Rattle.lfm_protocol.specs.declared.points.Sleeper.{Sleeper}
use Rattle.lfm_protocol.specs.declared.seats.SeatState.{SeatState}
use Rattle.lfm_protocol.specs.Begin as Begin
use Rattle.lfm_protocol.specs.Begin.{Stepped, goes_on, refuses, charges, begin_entry, begin_unlock, begin_wait, begin_awake, begin_asleep}
use Rattle.lfm_protocol.specs.Turns.{is_open}
use Rattle.lfm_laws.specs.laws.Charges.{charge_of}
use Rattle.lfm_laws.proofs.lawful.calls.SeatSteps.{SaysDepth}

-- the seat has charged this if its call opens, and has the depth that its turn gives
pub record Begun (x : SeatState) (charge : ℕ) (m : Stepped) : Type 0 where
  pub takes : m.seat.takes ≡ x.takes + (if is_open m.turn then charge else 0)
  pub depth : SaysDepth x.depth m.seat.depth m.turn

begun_if : (x : SeatState) (charge : ℕ) (b : Bool) (m n : Stepped) → Begun x charge m → Begun x charge n → Begun x charge (if b then m else n)
begun_if x charge true m n first second = first
begun_if x charge false m n first second = second

refused : (x : SeatState) (charge : ℕ) (refusal : Refusal) → Begun x charge (refuses x refusal)
refused x charge refusal = record { takes = omega arith; depth = refl }

free : (x : SeatState) (p : Point) → Begun x 0 (goes_on x p)
free x p = record { takes = omega arith; depth = refl }

charged : (x : SeatState) (budget : ℕ) (p : Point) → Begun x 1 (charges x budget p)
charged x budget p =
    let y : SeatState = record x { point = p; takes = x.takes + 1 } in
    begun_if x 1 (nat_lt x.takes budget) (record { seat = y; turn = Open }) (refuses x Refusal.Spent) (record { takes = refl; depth = refl })
    (refused x 1 Refusal.Spent)

entered : (x : SeatState) (budget : ℕ) (p : Point) → Begun x (if nat_eq x.depth 0 then 1 else 0) (begin_entry x budget p)
entered x budget p =
    begun_if x (if nat_eq x.depth 0 then 1 else 0) (nat_lt 65534 x.depth) (refuses x Refusal.DepthFull)
    (if nat_eq x.depth 0 then charges x budget p else goes_on x p) (refused x (if nat_eq x.depth 0 then 1 else 0) Refusal.DepthFull)
    (elim (cases_eq x.depth 0) [
      | inl none ↦ rw (eq-eqb x.depth 0 none) (charged x budget p)
      | inr held ↦ rw (ne_eqb x.depth 0 held) (free x p)
    ])

unlocks : (x : SeatState) → Begun x 0 (begin_unlock x)
unlocks x =
    elim (cases_eq x.depth 0) [
      | inl none ↦ rw (eq-eqb x.depth 0 none) (refused x 0 Refusal.NotOwner)
      | inr held ↦ elim (cases_eq x.depth 1) [
        | inl last ↦ rw (ne_eqb x.depth 0 held, eq-eqb x.depth 1 last) (free x (ReleaseOwnerStore Unlocker))
        | inr more ↦
            rw (ne_eqb x.depth 0 held, ne_eqb x.depth 1 more)
            (record { takes = omega arith; depth = (omega (arith, held, more), omega (arith, held, more), refl) })
      ]
    ]

waits : (x : SeatState) (budget : ℕ) → Begun x 1 (begin_wait x budget)
waits x budget =
    begun_if x 1 (nat_eq x.depth 0) (refuses x Refusal.NotOwner) (if nat_lt 1 x.depth then refuses x Refusal.Nested else charges x budget (ReleaseOwnerStore Waiter))
    (refused x 1 Refusal.NotOwner)
    (begun_if x 1 (nat_lt 1 x.depth) (refuses x Refusal.Nested) (charges x budget (ReleaseOwnerStore Waiter)) (refused x 1 Refusal.Nested)
    (charged x budget (ReleaseOwnerStore Waiter)))

awake : (x : SeatState) (bounds : Limits) (call : Call) → Begun x (charge_of call x.depth) (begin_awake x bounds call)
awake x bounds Lock = entered x bounds.budget LockCountAdd
awake x bounds TryLock = entered x bounds.budget TryCountExchange
awake x bounds Unlock = unlocks x
awake x bounds StartWait = waits x bounds.budget
awake x bounds (SendLock t) =
    begun_if x 0 (nat_lt 0 t && nat_lt t (bounds.seats + 1)) (goes_on x (SendWakeExchange t)) (refuses x Refusal.NoSuchSeat)
    (free x (SendWakeExchange t)) (refused x 0 Refusal.NoSuchSeat)
awake x bounds Receive = refused x 0 Refusal.NotWaiting

asleep : (x : SeatState) (sleeper : Sleeper) (call : Call) → Begun x (charge_of call x.depth) (begin_asleep x sleeper call)
asleep x sleeper Receive = free x (ReceiveWakeLoad sleeper)
asleep x sleeper _ = refused x _ Refusal.Asleep

pub begin_counts : (x : SeatState) (bounds : Limits) (call : Call) (p : Point) → Begun x (charge_of call x.depth) (Begin.begin_at x bounds call p)
begin_counts x bounds call Rest = awake x bounds call
begin_counts x bounds call (Asleep sleeper) = asleep x sleeper call
begin_counts x bounds call _ = record { takes = omega arith; depth = refl }
