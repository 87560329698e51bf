-- An open call stays the call that began, whatever the others do, and ends with an answer of its own kind.
use Rattle.std.proofs.Common.{◌≡◌, ℕ, Bool, true, false, ◌+◌, ◌-◌, ◌&&◌, List, [], ◌∷◌, nat_eq, nat_lt, refl, sym, ap, ◌∙◌, inl, inr, if◌then◌else◌}
use Rattle.std.proofs.lemmas.Bool.{cases_Bool, cases_eq, false≢true}
use Rattle.std.specs.Prelude.{⊤}
use Rattle.lfm_model.specs.declared.refusals.Refusal.{Refusal}
use Rattle.lfm_model.specs.declared.answers.Unlocked.TheVariants.{Still}
use Rattle.lfm_protocol.specs.declared.answers.Answer.{Answer}
use Rattle.lfm_protocol.specs.declared.answers.Answer.TheVariants.{Unlocked}
use Rattle.lfm_protocol.specs.declared.answers.Call.{Call}
use Rattle.lfm_protocol.specs.declared.answers.Call.TheVariants.{Lock, TryLock, Unlock, StartWait, SendLock, Receive}
use Rattle.lfm_protocol.specs.declared.answers.Turn.{Turn}
use Rattle.lfm_protocol.specs.declared.answers.Turn.TheVariants.{Open, Ended, Refused}
use Rattle.lfm_protocol.specs.declared.limits.Limits.{Limits}
use Rattle.lfm_protocol.specs.declared.points.Point.{Point}
use Rattle.lfm_protocol.specs.declared.points.Point.TheVariants.{Rest, Asleep, LockCountAdd, TryCountExchange, SendWakeExchange, ReleaseOwnerStore}
use Rattle.lfm_protocol.specs.declared.points.Releaser.TheVariants.{Unlocker, Waiter}
use Rattle.lfm_protocol.specs.declared.points.Sleeper.{Sleeper}
use Rattle.lfm_protocol.specs.declared.seats.SeatState.{SeatState}
use Rattle.lfm_protocol.specs.Begin as Begin
use Rattle.lfm_protocol.specs.Begin.{Stepped, goes_on, refuses, charges, begin_entry, begin_awake, begin_asleep}
use Rattle.lfm_protocol.specs.Core.{Core, limits}
use Rattle.lfm_protocol.specs.Seats.{seat, is_seat}
use Rattle.lfm_protocol.specs.Step.{begin, step}
use Rattle.lfm_laws.specs.laws.Endings.{IsAnswerOf, CallsEndInTheirKind}
use Rattle.lfm_laws.specs.laws.Releases.{StaysInCall}
use Rattle.lfm_laws.specs.laws.Schedules.{Event, begins, makes, happens, run_of, is_call}
use Rattle.lfm_laws.proofs.lawful.bounds.Leaving.{stepped, own_made, other_made, seat_of_call, begin_leaves}
use Rattle.lfm_laws.proofs.lawful.calls.CallSteps.{call_at, StaysOrEnds, step_follows}
use Rattle.lfm_laws.proofs.lawful.refusals.PlainSteps.{turn_made}
use Rattle.lfm_laws.proofs.steady.frames.Entries.{seat-with_same}
use Rattle.lfm_laws.proofs.steady.frames.Seated.{seat_of_test, test_of_seat}

-- Steps

stays_in : (call : Call) (turn : Turn) (p : Point) → is_call p ≡ true → StaysOrEnds call turn p → call_at p ≡ call
stays_in call Open p inside goes = goes
stays_in call (Ended answer) p inside goes = absurd (false≢true (sym goes.1 ∙ inside))
stays_in call (Refused why) p inside goes = absurd (false≢true (sym goes ∙ inside))

ends_so : (call : Call) (turn : Turn) (p : Point) (answer : Answer) → turn ≡ Ended answer → StaysOrEnds call turn p → IsAnswerOf call answer
ends_so call turn p answer told goes = (rw told at goes).0

-- the call of seat s is the same after an event through which it stays open
pub event_stays : (c : Core) (e : Event) (s : ℕ) → is_call (seat c.seats s).point ≡ true → is_call (seat (happens c e).core.seats s).point ≡ true
    → call_at (seat (happens c e).core.seats s).point ≡ call_at (seat c.seats s).point
event_stays c (begins t call) s inside still = ap (λ x. call_at x.point) (begin_leaves c t s call inside).view
event_stays c (makes t) s inside still =
    elim (cases_eq s t) [
      | inl own ↦
          let is = seat_of_call c s inside in
          let after : seat (step c t).core.seats s ≡ (stepped c s).seat = rw (sym own, test_of_seat c.seats s is) (own_made c s is) in
          let goes = (step_follows c s (seat c.seats s).point refl inside).follows in
          ap (λ x. call_at x.point) after ∙ stays_in _ (stepped c s).turn (stepped c s).seat.point (sym (ap (λ x. is_call x.point) after) ∙ still) goes
      | inr other ↦ elim (cases_Bool (is_seat c.seats t)) [
        | inl is ↦ rw is (ap (λ x. call_at x.point) (other_made c t s other))
        | inr none ↦ rw none refl
      ]
    ]

pub first_inside : (c : Core) (s : ℕ) (events : List Event) → StaysInCall c s events → is_call (seat c.seats s).point ≡ true
first_inside c s [] stays = stays
first_inside c s (e ∷ later) stays = stays.0

-- it is the same after all events through which it stays open
pub run_stays : (c : Core) (s : ℕ) (events : List Event) → StaysInCall c s events
    → (call_at (seat (run_of c events).seats s).point ≡ call_at (seat c.seats s).point) × (is_call (seat (run_of c events).seats s).point ≡ true)
run_stays c s [] stays = (refl, stays)
run_stays c s (e ∷ later) stays =
    let d = (happens c e).core in
    let rest = run_stays (happens c e).core s later stays.1 in
    (rest.0 ∙ event_stays c e s stays.0 (first_inside (happens c e).core s later stays.1), rest.1)

step_ends : (c : Core) (s : ℕ) (answer : Answer) → is_call (seat c.seats s).point ≡ true → (step c s).turn ≡ Ended answer → IsAnswerOf (call_at (seat c.seats s).point) answer
step_ends c s answer inside turn =
    let test = test_of_seat c.seats s (seat_of_call c s inside) in
    let told : (stepped c s).turn ≡ Ended answer = sym (turn_made c s) ∙ rw test at turn in
    ends_so _ (stepped c s).turn (stepped c s).seat.point answer told (step_follows c s (seat c.seats s).point refl inside).follows

-- Starts of calls

-- one send represents the sends to all targets
abbrev pub kind_of : Call → Call
kind_of (SendLock t) = SendLock 0
kind_of call = call

answer_of : (call : Call) (answer : Answer) → IsAnswerOf (kind_of call) answer → IsAnswerOf call answer
answer_of (SendLock t) Answer.Sent is = tt
answer_of (SendLock t) _ is = absurd is
answer_of call answer is = is

abbrev pub BeginsOrEnds : Call → Turn → Point → Type 0
BeginsOrEnds call Open p = call_at p ≡ kind_of call
BeginsOrEnds call (Ended answer) p = IsAnswerOf call answer
BeginsOrEnds call (Refused why) p = ⊤

record Begun (call : Call) (m : Stepped) : Type 0 where
  so : BeginsOrEnds call m.turn m.seat.point

begun_if : (call : Call) (b : Bool) (m n : Stepped) → Begun call m → Begun call n → Begun call (if b then m else n)
begun_if call true m n first second = first
begun_if call false m n first second = second

refused : (x : SeatState) (call : Call) (refusal : Refusal) → Begun call (refuses x refusal)
refused x call refusal = record { so = tt }

charged : (x : SeatState) (call : Call) (budget : ℕ) (p : Point) → call_at p ≡ kind_of call → Begun call (charges x budget p)
charged x call budget p here =
    begun_if call (nat_lt x.takes budget) (record { seat = record x { point = p; takes = x.takes + 1 }; turn = Open }) (refuses x Refusal.Spent) (record { so = here })
    (refused x call Refusal.Spent)

entered : (x : SeatState) (call : Call) (budget : ℕ) (p : Point) → call_at p ≡ kind_of call → Begun call (begin_entry x budget p)
entered x call budget p here =
    begun_if call (nat_lt 65534 x.depth) (refuses x Refusal.DepthFull) (if nat_eq x.depth 0 then charges x budget p else goes_on x p) (refused x call Refusal.DepthFull)
    (begun_if call (nat_eq x.depth 0) (charges x budget p) (goes_on x p) (charged x call budget p here) (record { so = here }))

awake : (x : SeatState) (bounds : Limits) (call : Call) → Begun call (begin_awake x bounds call)
awake x bounds Lock = entered x Lock bounds.budget LockCountAdd refl
awake x bounds TryLock = entered x TryLock bounds.budget TryCountExchange refl
awake x bounds Unlock =
    let p : Point = ReleaseOwnerStore Unlocker in
    let lowered : Stepped = record { seat = record x { depth = x.depth - 1 }; turn = Ended (Unlocked (Still (x.depth - 1))) } in
    begun_if Unlock (nat_eq x.depth 0) (refuses x Refusal.NotOwner) (if nat_eq x.depth 1 then goes_on x p else lowered) (refused x Unlock Refusal.NotOwner)
    (begun_if Unlock (nat_eq x.depth 1) (goes_on x p) lowered (record { so = refl }) (record { so = tt }))
awake x bounds StartWait =
    let p : Point = ReleaseOwnerStore Waiter in
    begun_if StartWait (nat_eq x.depth 0) (refuses x Refusal.NotOwner) (if nat_lt 1 x.depth then refuses x Refusal.Nested else charges x bounds.budget p)
    (refused x StartWait Refusal.NotOwner)
    (begun_if StartWait (nat_lt 1 x.depth) (refuses x Refusal.Nested) (charges x bounds.budget p) (refused x StartWait Refusal.Nested)
    (charged x StartWait bounds.budget p refl))
awake x bounds (SendLock t) =
    begun_if (SendLock t) (nat_lt 0 t && nat_lt t (bounds.seats + 1)) (goes_on x (SendWakeExchange t)) (refuses x Refusal.NoSuchSeat)
    (record { so = refl }) (refused x (SendLock t) Refusal.NoSuchSeat)
awake x bounds Receive = refused x Receive Refusal.NotWaiting

asleep : (x : SeatState) (sleeper : Sleeper) (call : Call) → Begun call (begin_asleep x sleeper call)
asleep x sleeper Receive = record { so = refl }
asleep x sleeper call = refused x call Refusal.Asleep

begun : (x : SeatState) (bounds : Limits) (call : Call) (p : Point) → Begun call (Begin.begin_at x bounds call p)
begun x bounds call Rest = awake x bounds call
begun x bounds call (Asleep sleeper) = asleep x sleeper call
begun x bounds call _ = record { so = tt }

-- what the turn at the start of a call means for the call
pub begin_says : (c : Core) (s : ℕ) (call : Call) → BeginsOrEnds call (begin c s call).turn (seat (begin c s call).core.seats s).point
begin_says c s call =
    let m = Begin.begin (seat c.seats s) (limits c) call in
    elim (cases_Bool (is_seat c.seats s)) [
      | inl is ↦ rw (is, seat-with_same c.seats s m.seat (seat_of_test c.seats s is)) (begun (seat c.seats s) (limits c) call (seat c.seats s).point).so
      | inr none ↦ rw none tt
    ]

-- Whole calls

call_ends : (c : Core) (s : ℕ) (call : Call) (answer : Answer) (events : List Event) → (begin c s call).turn ≡ Open → StaysInCall (begin c s call).core s events
    → (step (run_of (begin c s call).core events) s).turn ≡ Ended answer → IsAnswerOf call answer
call_ends c s call answer events opens stays turn =
    let first = rw opens at (begin_says c s call) in
    let last = run_stays (begin c s call).core s events stays in
    let ends = step_ends (run_of (begin c s call).core events) s answer last.1 turn in
    answer_of call answer (rw (last.0 ∙ first) at ends)

pub calls_end_in_their_kind : CallsEndInTheirKind
calls_end_in_their_kind c s call answer = (λ ends. rw ends at (begin_says c s call), call_ends c s call answer)
