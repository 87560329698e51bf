-- After every start of a call and every step, the seat numbers that a seat has read fit the lower half of their word.
use Rattle.std.proofs.Common.{◌≡◌, ℕ, true, false, nat_eq, nat_lt, ◌&&◌, ◌+◌, ◌-◌, ◌%◌, ◌<◌, Bool, Option, Some, None, List, refl, inl, inr, arith, if◌then◌else◌}
use Rattle.std.proofs.lemmas.Bool.{cases_eq}
use Rattle.lfm_protocol.specs.declared.answers.Answer.{Answer}
use Rattle.lfm_protocol.specs.declared.answers.Answer.TheVariants.{Sent}
use Rattle.lfm_protocol.specs.declared.answers.Turn.TheVariants.{Open, Ended}
use Rattle.lfm_protocol.specs.declared.answers.Call.{Call}
use Rattle.lfm_protocol.specs.declared.answers.Call.TheVariants.{Lock, TryLock, Unlock, StartWait, SendLock, Receive}
use Rattle.lfm_protocol.specs.declared.limits.Limits.{Limits}
use Rattle.lfm_protocol.specs.declared.points.Carrier.{Carrier}
use Rattle.lfm_protocol.specs.declared.points.Entrant.TheVariants as Entrant
use Rattle.lfm_protocol.specs.declared.points.Point.{Point}
use Rattle.lfm_protocol.specs.declared.points.Point.TheVariants.{Rest, Asleep, LockCountAdd, LockOwnerLoad, LockCountSubtract, TryCountExchange, TryOwnerLoad, TryHandoffLoad, TryHandoffExchange, TryCountAdd, SendWakeExchange, SendCountAdd, SendPushRecheck, SendWakeStore, PushLoad, LinkStore, PushExchange, PushedHandoffLoad, PushedHandoffExchange, ReleaseOwnerStore, ReleaseCountSubtract, ReleaseHandoffStore, ReleasePushRecheck, ReleaseHandoffExchange, WaitWakeStore, TakeClearHead, TakeLinkLoad, GrantWakeStore, EnterOwnerStore, ReceiveWakeLoad, ReceiveWakeStore}
use Rattle.lfm_protocol.specs.declared.points.Pusher.{Pusher}
use Rattle.lfm_protocol.specs.declared.points.Releaser.{Releaser}
use Rattle.lfm_protocol.specs.declared.points.Releaser.TheVariants.{Unlocker, Waiter}
use Rattle.lfm_protocol.specs.declared.points.Sleeper.{Sleeper}
use Rattle.lfm_protocol.specs.declared.seats.SeatState.{SeatState}
use Rattle.lfm_model.specs.declared.answers.How.TheVariants as How
use Rattle.lfm_model.specs.declared.answers.How.TheVariants.{Queued}
use Rattle.lfm_model.specs.declared.answers.Locked.TheVariants as Locked
use Rattle.lfm_model.specs.declared.answers.Unlocked.{Unlocked}
use Rattle.lfm_model.specs.declared.refusals.Refusal.TheVariants as Refusal
use Rattle.lfm_words.specs.declared.pop_lists.Record.{Record}
use Rattle.lfm_words.specs.declared.wakes.Wake.{Wake}
use Rattle.lfm_words.specs.declared.wakes.Wake.TheVariants.{Waiting, Grant}
use Rattle.lfm_words.specs.Words.{seat_field_size}
use Rattle.lfm_protocol.specs.After.{same_link, same_handoff, deepens, busy, loaded, take, serves, once_cleared, found_posted, pushed, granted, releases, carrier_of, receives, claims}
use Rattle.lfm_protocol.specs.Begin as Begin
use Rattle.lfm_protocol.specs.Begin.{Stepped, goes_on, ends}
use Rattle.lfm_protocol.specs.Seats.{with_entry, IsSeat}
use Rattle.lfm_laws.proofs.steady.frames.Entries.{seat-with_same, seat-with_other}
use Rattle.std.proofs.lemmas.Nat.{mod_below}
use Rattle.lfm_laws.specs.table.Words.{IsNarrow, AreNarrow, stepped_by, link_of, handoff_of, wake_of}

abbrev IsNarrowStep : Stepped → Type 0
IsNarrowStep m = IsNarrow m.seat.point

point_if : (b : Bool) (p q : Point) → IsNarrow p → IsNarrow q → IsNarrow (if b then p else q)
point_if true p q yes_ no_ = yes_
point_if false p q yes_ no_ = no_

step_if : (b : Bool) (m k : Stepped) → IsNarrowStep m → IsNarrowStep k → IsNarrowStep (if b then m else k)
step_if true m k yes_ no_ = yes_
step_if false m k yes_ no_ = no_

-- What several steps share

lower_half : (n : ℕ) → n % seat_field_size < seat_field_size
lower_half n = mod_below n seat_field_size (omega arith)

narrow_serves : (carrier : Carrier) (s : ℕ) (r : Record) → IsNarrow (serves carrier s r)
narrow_serves Carrier.Locker s r =
    point_if (nat_eq r.seat s) (EnterOwnerStore Entrant.Locker (Queued r.stamp)) (GrantWakeStore Carrier.Locker r) tt tt
narrow_serves (Carrier.Releaser releaser) s r = tt
narrow_serves (Carrier.Reclaimer releaser) s r = tt
narrow_serves Carrier.Sender s r = tt

narrow_take : (carrier : Carrier) (s : ℕ) (oldest : Option Record) → IsNarrow (take carrier s oldest)
narrow_take carrier s None = tt
narrow_take carrier s (Some r) = narrow_serves carrier s r

narrow_cleared : (carrier : Carrier) (head : ℕ) → IsNarrow (once_cleared carrier head)
narrow_cleared (Carrier.Releaser releaser) head =
    point_if (nat_eq head 0) (ReleaseHandoffStore releaser) (TakeLinkLoad (Carrier.Releaser releaser) head) tt tt
narrow_cleared Carrier.Locker head = tt
narrow_cleared (Carrier.Reclaimer releaser) head = tt
narrow_cleared Carrier.Sender head = tt

narrow_found_posted : (pusher : Pusher) (n : ℕ) → IsNarrow (found_posted pusher (handoff_of n))
narrow_found_posted Pusher.Locker n = lower_half n
narrow_found_posted (Pusher.Sender t) n = lower_half n

narrow_releases : (x : SeatState) (releaser : Releaser) (answer : Unlocked) → IsNarrowStep (releases x releaser answer)
narrow_releases x Unlocker answer = tt
narrow_releases x Waiter answer = tt

narrow_pushed : (x : SeatState) (pusher : Pusher) → IsNarrowStep (pushed x pusher)
narrow_pushed x Pusher.Locker = tt
narrow_pushed x (Pusher.Sender t) = tt

narrow_granted : (x : SeatState) (carrier : Carrier) (r : Record) → IsNarrowStep (granted x carrier r)
narrow_granted x Carrier.Locker r = tt
narrow_granted x (Carrier.Releaser releaser) r = narrow_releases x releaser _
narrow_granted x (Carrier.Reclaimer releaser) r = narrow_releases x releaser _
narrow_granted x Carrier.Sender r = tt

narrow_receives : (x : SeatState) (sleeper : Sleeper) (w : Wake) → IsNarrowStep (receives x sleeper w)
narrow_receives x sleeper (Grant stamp) = tt
narrow_receives x sleeper _ = tt

narrow_claims : (x : SeatState) (t : ℕ) (w : Wake) → IsNarrowStep (claims x t w)
narrow_claims x t Waiting = tt
narrow_claims x t _ = tt

-- Steps

-- a try_lock has deepened the seat's hold
abbrev again : SeatState → Stepped
again x = record { seat = deepens x; turn = Ended (Answer.Locked (Locked.Again (x.depth + 1))) }

step_at : (x : SeatState) (s n : ℕ) (oldest : Option Record) (p : Point) → x.point ≡ p → IsNarrow x.point → IsNarrowStep (stepped_by x s n oldest)
step_at x s n oldest Rest at narrow = rw at tt
step_at x s n oldest (Asleep sleeper) at narrow = rw at tt
step_at x s n oldest LockCountAdd at narrow =
    rw at (point_if (nat_eq n 0) (EnterOwnerStore Entrant.Locker How.Free) LockOwnerLoad tt tt)
step_at x s n oldest LockOwnerLoad at narrow =
    rw at (point_if (nat_eq n s) LockCountSubtract (PushLoad Pusher.Locker) tt tt)
step_at x s n oldest LockCountSubtract at narrow = rw at tt
step_at x s n oldest TryCountExchange at narrow =
    rw at (point_if (nat_eq n 0) (EnterOwnerStore Entrant.Trier How.Free) TryOwnerLoad tt tt)
step_at x s n oldest TryOwnerLoad at narrow =
    rw at (step_if (nat_eq n s) (again x) (goes_on x TryHandoffLoad) tt tt)
step_at x s n oldest TryHandoffLoad at narrow =
    rw at (step_if (nat_eq (handoff_of n).seat 0) (busy x) (goes_on x (TryHandoffExchange (handoff_of n))) tt (lower_half n))
step_at x s n oldest (TryHandoffExchange seen) at narrow =
    rw at (step_if (same_handoff (handoff_of n) seen) (goes_on x TryCountAdd) (busy x) tt tt)
step_at x s n oldest TryCountAdd at narrow = rw at tt
step_at x s n oldest (SendWakeExchange t) at narrow = rw at (narrow_claims x t (wake_of n))
step_at x s n oldest (SendCountAdd t) at narrow =
    rw at (point_if (nat_eq n 0) (SendWakeStore t) (PushLoad (Pusher.Sender t)) tt tt)
step_at x s n oldest (SendPushRecheck t seen) at narrow =
    let small = rw at at narrow in
    rw at (step_if (nat_eq (link_of n).next 0) (ends x Sent) (goes_on x (PushedHandoffExchange (Pusher.Sender t) seen)) tt small)
step_at x s n oldest (SendWakeStore t) at narrow = rw at tt
step_at x s n oldest (PushLoad pusher) at narrow = rw at (lower_half n)
step_at x s n oldest (LinkStore pusher seen) at narrow = rw at (rw at at narrow)
step_at x s n oldest (PushExchange pusher seen) at narrow =
    rw at (point_if (same_link (link_of n) seen) (PushedHandoffLoad pusher) (LinkStore pusher (link_of n)) tt (lower_half n))
step_at x s n oldest (PushedHandoffLoad pusher) at narrow =
    rw at (step_if (nat_eq (handoff_of n).seat 0) (pushed x pusher) (goes_on x (found_posted pusher (handoff_of n))) (narrow_pushed x pusher) (narrow_found_posted pusher n))
step_at x s n oldest (PushedHandoffExchange pusher seen) at narrow =
    rw at (step_if (same_handoff (handoff_of n) seen) (goes_on x (take (carrier_of pusher) s oldest)) (pushed x pusher) (narrow_take (carrier_of pusher) s oldest) (narrow_pushed x pusher))
step_at x s n oldest (ReleaseOwnerStore releaser) at narrow = rw at tt
step_at x s n oldest (ReleaseCountSubtract releaser) at narrow =
    rw at (step_if (nat_eq n 1) (releases x releaser Unlocked.Free) (goes_on x (take (Carrier.Releaser releaser) s oldest)) (narrow_releases x releaser Unlocked.Free) (narrow_take (Carrier.Releaser releaser) s oldest))
step_at x s n oldest (ReleaseHandoffStore releaser) at narrow = rw at tt
step_at x s n oldest (ReleasePushRecheck releaser) at narrow =
    rw at (step_if (nat_eq (link_of n).next 0) (releases x releaser Unlocked.Posted) (goes_on x (ReleaseHandoffExchange releaser)) (narrow_releases x releaser Unlocked.Posted) tt)
step_at x s n oldest (ReleaseHandoffExchange releaser) at narrow =
    rw at (step_if (same_handoff (handoff_of n) (record { seat = s; post = x.posts })) (goes_on x (take (Carrier.Reclaimer releaser) s oldest)) (releases x releaser Unlocked.TakenOver) (narrow_take (Carrier.Reclaimer releaser) s oldest) (narrow_releases x releaser Unlocked.TakenOver))
step_at x s n oldest (WaitWakeStore released) at narrow = rw at tt
step_at x s n oldest (TakeClearHead carrier) at narrow = rw at (narrow_cleared carrier (n % seat_field_size))
step_at x s n oldest (TakeLinkLoad carrier next) at narrow =
    let r = loaded next (link_of n) in
    rw at (point_if (nat_eq (link_of n).next 0) (serves carrier s r) (TakeLinkLoad carrier (link_of n).next) (narrow_serves carrier s r) tt)
step_at x s n oldest (GrantWakeStore carrier r) at narrow = rw at (narrow_granted x carrier r)
step_at x s n oldest (EnterOwnerStore entrant how) at narrow = rw at tt
step_at x s n oldest (ReceiveWakeLoad sleeper) at narrow = rw at (narrow_receives x sleeper (wake_of n))
step_at x s n oldest (ReceiveWakeStore stamp) at narrow = rw at tt

-- a step of any kind, whatever number it finds
pub narrow_step : (x : SeatState) (s n : ℕ) (oldest : Option Record) → IsNarrow x.point → IsNarrow (stepped_by x s n oldest).seat.point
narrow_step x s n oldest narrow = step_at x s n oldest x.point refl narrow

-- Starts of calls

abbrev charged : SeatState → Point → Stepped
charged x p =
    record {
      seat = record x { point = p; takes = x.takes + 1 };
      turn = Open;
    }

narrow_charges : (x : SeatState) (budget : ℕ) (p : Point) → IsNarrow x.point → IsNarrow p → IsNarrowStep (Begin.charges x budget p)
narrow_charges x budget p narrow goes =
    step_if (nat_lt x.takes budget) (charged x p) (Begin.refuses x Refusal.Spent) goes narrow

narrow_entry : (x : SeatState) (budget : ℕ) (p : Point) → IsNarrow x.point → IsNarrow p → IsNarrowStep (Begin.begin_entry x budget p)
narrow_entry x budget p narrow goes =
    let held = if nat_eq x.depth 0 then Begin.charges x budget p else goes_on x p in
    let inner : IsNarrowStep held = step_if (nat_eq x.depth 0) (Begin.charges x budget p) (goes_on x p) (narrow_charges x budget p narrow goes) goes in
    step_if (nat_lt 65534 x.depth) (Begin.refuses x Refusal.DepthFull) held narrow inner

abbrev lowered : SeatState → Stepped
lowered x =
    record {
      seat = record x { depth = x.depth - 1 };
      turn = Ended (Answer.Unlocked (Unlocked.Still (x.depth - 1)));
    }

narrow_unlock : (x : SeatState) → IsNarrow x.point → IsNarrowStep (Begin.begin_unlock x)
narrow_unlock x narrow =
    let held = if nat_eq x.depth 1 then goes_on x (ReleaseOwnerStore Unlocker) else lowered x in
    let inner : IsNarrowStep held = step_if (nat_eq x.depth 1) (goes_on x (ReleaseOwnerStore Unlocker)) (lowered x) tt narrow in
    step_if (nat_eq x.depth 0) (Begin.refuses x Refusal.NotOwner) held narrow inner

narrow_wait : (x : SeatState) (budget : ℕ) → IsNarrow x.point → IsNarrowStep (Begin.begin_wait x budget)
narrow_wait x budget narrow =
    let p = ReleaseOwnerStore Waiter in
    let held = if nat_lt 1 x.depth then Begin.refuses x Refusal.Nested else Begin.charges x budget p in
    let inner : IsNarrowStep held =
    step_if (nat_lt 1 x.depth) (Begin.refuses x Refusal.Nested) (Begin.charges x budget p) narrow (narrow_charges x budget p narrow tt)
    in
    step_if (nat_eq x.depth 0) (Begin.refuses x Refusal.NotOwner) held narrow inner

narrow_awake : (x : SeatState) (limits : Limits) (call : Call) → IsNarrow x.point → IsNarrowStep (Begin.begin_awake x limits call)
narrow_awake x limits Lock narrow = narrow_entry x limits.budget LockCountAdd narrow tt
narrow_awake x limits TryLock narrow = narrow_entry x limits.budget TryCountExchange narrow tt
narrow_awake x limits Unlock narrow = narrow_unlock x narrow
narrow_awake x limits StartWait narrow = narrow_wait x limits.budget narrow
narrow_awake x limits (SendLock t) narrow =
    step_if (nat_lt 0 t && nat_lt t (limits.seats + 1)) (goes_on x (SendWakeExchange t)) (Begin.refuses x Refusal.NoSuchSeat) tt narrow
narrow_awake x limits Receive narrow = narrow

narrow_asleep : (x : SeatState) (sleeper : Sleeper) (call : Call) → IsNarrow x.point → IsNarrowStep (Begin.begin_asleep x sleeper call)
narrow_asleep x sleeper Receive narrow = tt
narrow_asleep x sleeper _ narrow = narrow

begin_at_point : (x : SeatState) (limits : Limits) (call : Call) (p : Point) → IsNarrow x.point → IsNarrowStep (Begin.begin_at x limits call p)
begin_at_point x limits call Rest narrow = narrow_awake x limits call narrow
begin_at_point x limits call (Asleep sleeper) narrow = narrow_asleep x sleeper call narrow
begin_at_point x limits call _ narrow = narrow

pub narrow_begin : (x : SeatState) (limits : Limits) (call : Call) → IsNarrow x.point → IsNarrow (Begin.begin x limits call).seat.point
narrow_begin x limits call narrow = begin_at_point x limits call x.point narrow

-- All seats

pub narrow_with : (seats : List SeatState) (s : ℕ) (y : SeatState) → IsSeat seats s → IsNarrow y.point → AreNarrow seats → AreNarrow (with_entry seats s y)
narrow_with seats s y is own narrow t =
    elim (cases_eq t s) [
      | inl e ↦ rw (e, seat-with_same seats s y is) own
      | inr other ↦ rw (seat-with_other seats s t y other) (narrow t)
    ]
