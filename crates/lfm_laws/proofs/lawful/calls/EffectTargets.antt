-- The target of a send stays the one with which the send began until it is counted, whatever the others do in between.
use Rattle.std.proofs.Common.{◌≡◌, ℕ, Bool, true, false, ◌+◌, ◌&&◌, List, [], ◌∷◌, nat_eq, nat_lt, refl, sym, ap, ◌∙◌, inl, inr}
use Rattle.std.proofs.lemmas.Bool.{cases_Bool, cases_eq, false≢true}
use Rattle.std.specs.Prelude.{Option, Some, None}
use Rattle.lfm_model.specs.declared.refusals.Refusal.{Refusal}
use Rattle.lfm_protocol.specs.declared.answers.Call.{Call}
use Rattle.lfm_protocol.specs.declared.answers.Call.TheVariants.{Lock, TryLock, Unlock, StartWait, SendLock, Receive}
use Rattle.lfm_protocol.specs.declared.answers.Turn.TheVariants.{Open}
use Rattle.lfm_protocol.specs.declared.answers.Why.{Why}
use Rattle.lfm_protocol.specs.declared.answers.Why.TheVariants.{By}
use Rattle.lfm_protocol.specs.declared.limits.Limits.{Limits}
use Rattle.lfm_protocol.specs.declared.points.Carrier.{Carrier}
use Rattle.lfm_protocol.specs.declared.points.Point.{Point}
use Rattle.lfm_protocol.specs.declared.points.Point.TheVariants.{Rest, Asleep, LockCountAdd, LockOwnerLoad, TryCountExchange, TryOwnerLoad, TryHandoffLoad, TryHandoffExchange, SendWakeExchange, SendCountAdd, SendPushRecheck, LinkStore, PushExchange, PushedHandoffLoad, PushedHandoffExchange, ReleaseCountSubtract, ReleasePushRecheck, ReleaseHandoffExchange, TakeClearHead, TakeLinkLoad, GrantWakeStore, ReceiveWakeLoad}
use Rattle.lfm_protocol.specs.declared.points.Pusher.{Pusher}
use Rattle.lfm_protocol.specs.declared.seats.SeatState.{SeatState}
use Rattle.lfm_words.specs.declared.handoffs.Handoff.{Handoff}
use Rattle.lfm_words.specs.declared.pop_lists.Record.{Record}
use Rattle.lfm_words.specs.declared.wakes.Wake.{Wake}
use Rattle.lfm_words.specs.Popped.{oldest}
use Rattle.lfm_protocol.specs.After.{same_link, same_handoff, pushed, loaded, found_posted, carrier_of, serves, take, once_cleared, claims}
use Rattle.lfm_protocol.specs.Begin as Begin
use Rattle.lfm_protocol.specs.Core.{Core, limits}
use Rattle.lfm_protocol.specs.Seats.{seat, link, wake, is_seat}
use Rattle.lfm_protocol.specs.Step.{begin, step}
use Rattle.lfm_laws.specs.laws.Releases.{StaysInCall}
use Rattle.lfm_laws.specs.laws.Schedules.{Event, begins, makes, happens, run_of, is_call}
use Rattle.lfm_laws.proofs.lawful.bounds.Branches.{of_points, of_turns, of_release, of_granted, of_received}
use Rattle.lfm_laws.proofs.lawful.bounds.Leaving.{stepped, seat_of_call, begin_leaves}
use Rattle.lfm_laws.proofs.lawful.calls.CallSteps.{call_at}
use Rattle.lfm_laws.proofs.lawful.calls.CallsEnded.{kind_of, begin_says}
use Rattle.lfm_laws.proofs.lawful.calls.WaitsTold.{not_open, own_after, other_step}
use Rattle.lfm_laws.proofs.steady.frames.Entries.{seat-with_same}
use Rattle.lfm_laws.proofs.steady.frames.Seated.{seat_of_test}

-- the target of a send at this point, until its count add
abbrev pub target_at : Point → Option ℕ
target_at (SendWakeExchange t) = Some t
target_at (SendCountAdd t) = Some t
target_at _ = None

-- Steps

-- the point has no target
abbrev HasNoTarget : Point → Type 0
HasNoTarget p = target_at p ≡ None

none_some : (t : ℕ) → None ≡ Some t → ⊥
none_some t e = cc

no_target_pushed : (x : SeatState) (pusher : Pusher) → HasNoTarget (pushed x pusher).seat.point
no_target_pushed x Pusher.Locker = refl
no_target_pushed x (Pusher.Sender t) = refl

no_target_found_posted : (pusher : Pusher) (found : Handoff) → HasNoTarget (found_posted pusher found)
no_target_found_posted Pusher.Locker found = refl
no_target_found_posted (Pusher.Sender t) found = refl

no_target_serves : (carrier : Carrier) (s : ℕ) (r : Record) → HasNoTarget (serves carrier s r)
no_target_serves Carrier.Locker s r = of_points HasNoTarget (nat_eq r.seat s) _ _ refl refl
no_target_serves (Carrier.Releaser releaser) s r = refl
no_target_serves (Carrier.Reclaimer releaser) s r = refl
no_target_serves Carrier.Sender s r = refl

no_target_take : (carrier : Carrier) (s : ℕ) (first : Option Record) → HasNoTarget (take carrier s first)
no_target_take carrier s None = refl
no_target_take carrier s (Some r) = no_target_serves carrier s r

no_target_cleared : (carrier : Carrier) (head : ℕ) → HasNoTarget (once_cleared carrier head)
no_target_cleared Carrier.Locker head = refl
no_target_cleared (Carrier.Releaser releaser) head = of_points HasNoTarget (nat_eq head 0) _ _ refl refl
no_target_cleared (Carrier.Reclaimer releaser) head = refl
no_target_cleared Carrier.Sender head = refl

-- a send claims its target
abbrev claims_at : Point → Bool
claims_at (SendWakeExchange t) = true
claims_at _ = false

no_target : (c : Core) (s : ℕ) (p : Point) → (seat c.seats s).point ≡ p → is_call p ≡ true → claims_at p ≡ false → HasNoTarget (stepped c s).seat.point
no_target c s Rest at inside other = absurd (false≢true inside)
no_target c s (Asleep sleeper) at inside other = absurd (false≢true inside)
no_target c s (SendWakeExchange t) at inside other = absurd (false≢true (sym other))
no_target c s LockCountAdd at inside other = rw (at, at) (of_points HasNoTarget (nat_eq c.count 0) _ _ refl refl)
no_target c s LockOwnerLoad at inside other = rw (at, at) (of_points HasNoTarget (nat_eq c.owner s) _ _ refl refl)
no_target c s TryCountExchange at inside other = rw (at, at) (of_points HasNoTarget (nat_eq c.count 0) _ _ refl refl)
no_target c s TryOwnerLoad at inside other = rw (at, at) (of_turns HasNoTarget (nat_eq c.owner s) _ _ refl refl)
no_target c s TryHandoffLoad at inside other = rw (at, at) (of_turns HasNoTarget (nat_eq c.handoff.seat 0) _ _ refl refl)
no_target c s (TryHandoffExchange seen) at inside other = rw (at, at) (of_turns HasNoTarget (same_handoff c.handoff seen) _ _ refl refl)
no_target c s (SendCountAdd t) at inside other = rw (at, at) (of_points HasNoTarget (nat_eq c.count 0) _ _ refl refl)
no_target c s (SendPushRecheck t seen) at inside other = rw (at, at) (of_turns HasNoTarget (nat_eq c.push.next 0) _ _ refl refl)
no_target c s (PushExchange pusher seen) at inside other =
    rw (at, at) (of_points HasNoTarget (same_link c.push seen) (PushedHandoffLoad pusher) (LinkStore pusher c.push) refl refl)
no_target c s (PushedHandoffLoad pusher) at inside other =
    rw (at, at) (of_turns HasNoTarget (nat_eq c.handoff.seat 0) _ _ (no_target_pushed (seat c.seats s) pusher) (no_target_found_posted pusher c.handoff))
no_target c s (PushedHandoffExchange pusher seen) at inside other =
    rw (at, at) (of_turns HasNoTarget _ _ _ (no_target_take (carrier_of pusher) s (oldest c.popped)) (no_target_pushed (seat c.seats s) pusher))
no_target c s (ReleaseCountSubtract releaser) at inside other =
    rw (at, at) (of_turns HasNoTarget (nat_eq c.count 1) _ _ (of_release HasNoTarget (seat c.seats s) releaser _ refl refl) (no_target_take (Carrier.Releaser releaser) s (oldest c.popped)))
no_target c s (ReleasePushRecheck releaser) at inside other =
    rw (at, at) (of_turns HasNoTarget (nat_eq c.push.next 0) _ _ (of_release HasNoTarget (seat c.seats s) releaser _ refl refl) refl)
no_target c s (ReleaseHandoffExchange releaser) at inside other =
    rw (at, at)
    (of_turns HasNoTarget _ _ _ (no_target_take (Carrier.Reclaimer releaser) s (oldest c.popped)) (of_release HasNoTarget (seat c.seats s) releaser _ refl refl))
no_target c s (TakeClearHead carrier) at inside other = rw (at, at) (no_target_cleared carrier c.push.next)
no_target c s (TakeLinkLoad carrier next) at inside other =
    rw (at, at)
    (of_points HasNoTarget (nat_eq (link c.links next).next 0) (serves carrier s (loaded next (link c.links next))) (TakeLinkLoad carrier (link c.links next).next)
    (no_target_serves carrier s (loaded next (link c.links next))) refl)
no_target c s (GrantWakeStore carrier r) at inside other =
    rw (at, at) (of_granted HasNoTarget (seat c.seats s) carrier r refl (λ sleeper. refl) (λ answer. refl))
no_target c s (ReceiveWakeLoad sleeper) at inside other =
    rw (at, at) (of_received HasNoTarget (seat c.seats s) sleeper (wake c.wakes s) (λ stamp. refl) refl)
no_target c s _ at inside other = rw (at, at) refl

claims_same : (x : SeatState) (u t : ℕ) (w : Wake) → target_at (claims x u w).seat.point ≡ Some t → Some u ≡ Some t
claims_same x u t Wake.Waiting e = e
claims_same x u t _ e = absurd (none_some t e)

-- a step keeps the target or leads to a point without one
step_target : (c : Core) (s t : ℕ) (p : Point) → (seat c.seats s).point ≡ p → is_call p ≡ true → target_at (stepped c s).seat.point ≡ Some t → target_at p ≡ Some t
step_target c s t (SendWakeExchange u) at inside e = claims_same (seat c.seats s) u t (wake c.wakes u) (rw (at, at) at e)
step_target c s t p at inside e = absurd (none_some t (sym (no_target c s p at inside refl) ∙ e))

-- Events and runs

abbrev target_of : Core → ℕ → Option ℕ
target_of c s = target_at (seat c.seats s).point

event_target : (c : Core) (e : Event) (s t : ℕ) → is_call (seat c.seats s).point ≡ true → target_of (happens c e).core s ≡ Some t → target_of c s ≡ Some t
event_target c (begins u call) s t inside e = ap (λ x. target_at x.point) (sym (begin_leaves c u s call inside).view) ∙ e
event_target c (makes u) s t inside e =
    elim (cases_eq s u) [
      | inl own ↦
          let after = own_after c s (seat_of_call c s inside) in
          let told : target_of (step c s).core s ≡ Some t = rw (sym own) at e in
          step_target c s t (seat c.seats s).point refl inside (ap (λ x. target_at x.point) (sym after) ∙ told)
      | inr other ↦ ap (λ x. target_at x.point) (sym (other_step c u s other)) ∙ e
    ]

run_target : (c : Core) (s t : ℕ) (events : List Event) → StaysInCall c s events → target_of (run_of c events) s ≡ Some t → target_of c s ≡ Some t
run_target c s t [] stays e = e
run_target c s t (first ∷ later) stays e = event_target c first s t stays.0 (run_target (happens c first).core s t later stays.1 e)

-- The start

opens_send : (x : SeatState) (bounds : Limits) (u : ℕ) (p : Point) → (Begin.begin_at x bounds (SendLock u) p).turn ≡ Open
    → (Begin.begin_at x bounds (SendLock u) p).seat.point ≡ SendWakeExchange u
opens_send x bounds u Rest opens =
    elim (cases_Bool (nat_lt 0 u && nat_lt u (bounds.seats + 1))) [
      | inl there ↦ rw there refl
      | inr none ↦ absurd (not_open (By Refusal.NoSuchSeat) (rw none at opens))
    ]
opens_send x bounds u (Asleep sleeper) opens = absurd (not_open (By Refusal.Asleep) opens)
opens_send x bounds u _ opens = absurd (not_open Why.InCall opens)

begun_target : (c : Core) (s u : ℕ) → (begin c s (SendLock u)).turn ≡ Open → target_of (begin c s (SendLock u)).core s ≡ Some u
begun_target c s u opens =
    let m = Begin.begin (seat c.seats s) (limits c) (SendLock u) in
    elim (cases_Bool (is_seat c.seats s)) [
      | inl is ↦
          let first = opens_send (seat c.seats s) (limits c) u (seat c.seats s).point (rw is at opens) in
          rw (is, seat-with_same c.seats s m.seat (seat_of_test c.seats s is)) (ap target_at first)
      | inr none ↦ absurd (not_open Why.NoSuchSeat (rw none at opens))
    ]

target_sends : (p : Point) (t : ℕ) → target_at p ≡ Some t → call_at p ≡ SendLock 0
target_sends (SendWakeExchange u) t e = refl
target_sends (SendCountAdd u) t e = refl
target_sends _ t e = absurd (none_some t e)

sends_to : (call : Call) → kind_of call ≡ SendLock 0 → (u : ℕ) × (call ≡ SendLock u)
sends_to (SendLock u) e = (u, refl)
sends_to Lock e = absurd (cc)
sends_to TryLock e = absurd (cc)
sends_to Unlock e = absurd (cc)
sends_to StartWait e = absurd (cc)
sends_to Receive e = absurd (cc)

begun_for : (c : Core) (s u t : ℕ) (call : Call) → call ≡ SendLock u → (begin c s call).turn ≡ Open → target_of (begin c s call).core s ≡ Some t → call ≡ SendLock t
begun_for c s u t call sends opens e =
    let first = begun_target c s u (rw sends at opens) in
    let same : Some u ≡ Some t = sym first ∙ rw sends at e in
    let to : u ≡ t = cc in
    sends ∙ ap SendLock to

-- a call that is at a send to this target began as a send to it
pub sends_so : (c : Core) (s t : ℕ) (call : Call) (events : List Event) → (begin c s call).turn ≡ Open → StaysInCall (begin c s call).core s events
    → target_of (run_of (begin c s call).core events) s ≡ Some t → call ≡ SendLock t
sends_so c s t call events opens stays e =
    let first = run_target (begin c s call).core s t events stays e in
    let kind = target_sends (seat (begin c s call).core.seats s).point t first in
    let says = rw opens at (begin_says c s call) in
    let sends = sends_to call (sym says ∙ kind) in
    begun_for c s sends.0 t call sends.1 opens first
