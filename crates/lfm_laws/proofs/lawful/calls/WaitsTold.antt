-- A start_wait answers what its own release did: it keeps the answer from the step that ends the release to the wake store that
-- ends the call.
use Rattle.std.proofs.Common.{◌≡◌, ◌≢◌, ◌⊎◌, ℕ, true, List, [], ◌∷◌, refl, sym, ap, ◌∙◌, inl, inr}
use Rattle.std.proofs.lemmas.Bool.{cases_Bool, cases_eq, cases_lt, eq-eqb, ne_eqb, lt-ltb, le-ltb, false≢true}
use Rattle.std.specs.Prelude.{Option, Some, None}
use Rattle.lfm_model.specs.declared.answers.Unlocked.{Unlocked}
use Rattle.lfm_model.specs.declared.refusals.Refusal.{Refusal}
use Rattle.lfm_protocol.specs.declared.answers.Answer.TheVariants.{Waiting}
use Rattle.lfm_protocol.specs.declared.answers.Call.{Call}
use Rattle.lfm_protocol.specs.declared.answers.Call.TheVariants.{StartWait}
use Rattle.lfm_protocol.specs.declared.answers.Turn.{Turn}
use Rattle.lfm_protocol.specs.declared.answers.Turn.TheVariants.{Open, Ended, Refused}
use Rattle.lfm_protocol.specs.declared.answers.Why.{Why}
use Rattle.lfm_protocol.specs.declared.answers.Why.TheVariants.{By}
use Rattle.lfm_protocol.specs.declared.limits.Limits.{Limits}
use Rattle.lfm_protocol.specs.declared.points.Entrant.{Entrant}
use Rattle.lfm_protocol.specs.declared.points.Point.{Point}
use Rattle.lfm_protocol.specs.declared.points.Point.TheVariants.{Rest, Asleep, ReleaseOwnerStore, WaitWakeStore, EnterOwnerStore}
use Rattle.lfm_protocol.specs.declared.points.Releaser.TheVariants.{Waiter}
use Rattle.lfm_protocol.specs.declared.points.Sleeper.{Sleeper}
use Rattle.lfm_protocol.specs.declared.seats.SeatState.{SeatState}
use Rattle.lfm_protocol.specs.Begin as Begin
use Rattle.lfm_protocol.specs.Core.{Core, limits}
use Rattle.lfm_protocol.specs.Seats.{seat, is_seat, IsSeat}
use Rattle.lfm_protocol.specs.Step.{begin, step}
use Rattle.lfm_laws.specs.laws.Releases.{Released, release_of_step, StaysInCall, HasReleased, WaitsAnswerTheirRelease}
use Rattle.lfm_laws.specs.laws.Schedules.{Event, begins, makes, happens, run_of, is_call}
use Rattle.lfm_laws.specs.steady.Steady.{Steady}
use Rattle.lfm_laws.proofs.lawful.bounds.Leaving.{stepped, own_made, other_made, seat_of_call, begin_leaves}
use Rattle.lfm_laws.proofs.lawful.calls.CallSteps.{StaysOrEnds, kept_told, kept_at, step_follows}
use Rattle.lfm_laws.proofs.lawful.calls.CallsEnded.{first_inside, run_stays}
use Rattle.lfm_laws.proofs.lawful.calls.ReleasesTold.{releases_answer_what_they_did}
use Rattle.lfm_laws.proofs.lawful.refusals.PlainSteps.{turn_made}
use Rattle.lfm_laws.proofs.lawful.runs.Reached.{run_keeps}
use Rattle.lfm_laws.proofs.steady.frames.Entries.{seat-with_same}
use Rattle.lfm_laws.proofs.steady.frames.Seated.{seat_of_test, test_of_seat}

-- What a seat keeps for its last step

-- the answer that the last point of a start_wait keeps
abbrev wait_at : Point → Option Unlocked
wait_at (WaitWakeStore answer) = Some answer
wait_at _ = None

abbrev kept : Core → ℕ → Option Unlocked
kept c s = wait_at (seat c.seats s).point

-- a point that keeps an answer is the last one of a start_wait
keeps_as : (p : Point) (answer : Unlocked) → wait_at p ≡ Some answer → p ≡ WaitWakeStore answer
keeps_as (WaitWakeStore kept) answer e = cc
keeps_as _ answer e = absurd (cc)

told_once : (a b : Unlocked) → WaitWakeStore a ≡ WaitWakeStore b → a ≡ b
told_once a b e = cc

pub not_open : (why : Why) → Refused why ≡ Open → ⊥
not_open why e = cc

open_turn : (call : Call) (turn : Turn) (p : Point) → is_call p ≡ true → StaysOrEnds call turn p → turn ≡ Open
open_turn call Open p inside goes = refl
open_turn call (Ended answer) p inside goes = absurd (false≢true (sym goes.1 ∙ inside))
open_turn call (Refused why) p inside goes = absurd (false≢true (sym goes ∙ inside))

pub own_after : (c : Core) (s : ℕ) → IsSeat c.seats s → seat (step c s).core.seats s ≡ (stepped c s).seat
own_after c s is = rw (test_of_seat c.seats s is) (own_made c s is)

pub own_turn : (c : Core) (s : ℕ) → IsSeat c.seats s → (step c s).turn ≡ (stepped c s).turn
own_turn c s is = rw (test_of_seat c.seats s is) (turn_made c s)

-- a step of the seat after which its call is open
pub stays_open : (c : Core) (s : ℕ) → is_call (seat c.seats s).point ≡ true → is_call (seat (step c s).core.seats s).point ≡ true → (step c s).turn ≡ Open
stays_open c s inside still =
    let is = seat_of_call c s inside in
    let goes = (step_follows c s (seat c.seats s).point refl inside).follows in
    own_turn c s is ∙ open_turn _ (stepped c s).turn (stepped c s).seat.point (sym (ap (λ x. is_call x.point) (own_after c s is)) ∙ still) goes

-- Events

pub other_step : (c : Core) (t s : ℕ) → s ≢ t → seat (step c t).core.seats s ≡ seat c.seats s
other_step c t s other =
    elim (cases_Bool (is_seat c.seats t)) [
      | inl is ↦ rw is (other_made c t s other)
      | inr none ↦ rw none refl
    ]

-- the step at the last point of a start_wait ends it
leaves_wait : (c : Core) (s : ℕ) (answer : Unlocked) → (seat c.seats s).point ≡ WaitWakeStore answer → is_call (seat (step c s).core.seats s).point ≡ true → ⊥
leaves_wait c s answer at still =
    let is = seat_of_call c s (rw at refl) in
    let after : (seat (step c s).core.seats s).point ≡ Asleep Sleeper.Waiter = ap (λ x. x.point) (own_after c s is) ∙ rw (at, at) refl in
    false≢true (rw after at still)

event_keeps : (c : Core) (e : Event) (s : ℕ) (answer : Unlocked) → (seat c.seats s).point ≡ WaitWakeStore answer → is_call (seat (happens c e).core.seats s).point ≡ true
    → (seat (happens c e).core.seats s).point ≡ WaitWakeStore answer
event_keeps c (begins t call) s answer at still = ap (λ x. x.point) (begin_leaves c t s call (rw at refl)).view ∙ at
event_keeps c (makes t) s answer at still =
    elim (cases_eq s t) [
      | inl own ↦ absurd (leaves_wait c s answer at (rw (sym own) at still))
      | inr other ↦ ap (λ x. x.point) (other_step c t s other) ∙ at
    ]

run_keeps_wait : (c : Core) (s : ℕ) (events : List Event) (answer : Unlocked) → (seat c.seats s).point ≡ WaitWakeStore answer → StaysInCall c s events
    → (seat (run_of c events).seats s).point ≡ WaitWakeStore answer
run_keeps_wait c s [] answer at stays = at
run_keeps_wait c s (e ∷ later) answer at stays =
    run_keeps_wait (happens c e).core s later answer (event_keeps c e s answer at (first_inside (happens c e).core s later stays.1)) stays.1

-- a seat reaches that point by its own step, which ends the release with this answer
comes_by : (c : Core) (e : Event) (s : ℕ) (answer : Unlocked) → Steady c → is_call (seat c.seats s).point ≡ true → kept c s ≡ None
    → (seat (happens c e).core.seats s).point ≡ WaitWakeStore answer → (e ≡ makes s) × Released c (happens c e).core s answer
comes_by c (begins t call) s answer steady inside none at =
    let same = begin_leaves c t s call inside in
    let f : None ≡ Some answer = sym none ∙ ap (λ x. wait_at x.point) (sym same.view) ∙ ap wait_at at in
    absurd (cc)
comes_by c (makes t) s answer steady inside none at =
    elim (cases_eq s t) [
      | inl own ↦
          let here : (seat (step c s).core.seats s).point ≡ WaitWakeStore answer = rw (sym own) at at in
          let opens = stays_open c s inside (rw here refl) in
          let ended : release_of_step c s ≡ Some answer = rw (opens, here) refl in
          rw (sym own) (refl, releases_answer_what_they_did c s answer steady ended)
      | inr other ↦
          let f : None ≡ Some answer = sym none ∙ ap (λ x. wait_at x.point) (sym (other_step c t s other)) ∙ ap wait_at at in
          absurd (cc)
    ]

-- Runs

cases_kept : (kept : Option Unlocked) → (kept ≡ None) ⊎ ((answer : Unlocked) × (kept ≡ Some answer))
cases_kept None = inl refl
cases_kept (Some answer) = inr (answer, refl)

waits_told : (c : Core) (s : ℕ) (events : List Event) (answer : Unlocked) → Steady c → StaysInCall c s events → kept c s ≡ None
    → (seat (run_of c events).seats s).point ≡ WaitWakeStore answer → HasReleased c s events answer
waits_told c s [] answer steady stays none at = let f : None ≡ Some answer = sym none ∙ ap wait_at at in absurd (cc)
waits_told c s (e ∷ later) answer steady stays none at =
    elim (cases_kept (kept (happens c e).core s)) [
      | inl still ↦ inr (waits_told (happens c e).core s later answer (run_keeps c (e ∷ []) steady) stays.1 still at)
      | inr found ↦
          let here = keeps_as (seat (happens c e).core.seats s).point found.0 found.1 in
          let last = run_keeps_wait (happens c e).core s later found.0 here stays.1 in
          let same : found.0 ≡ answer = told_once found.0 answer (sym last ∙ at) in
          inl (comes_by c e s answer steady stays.0 none (here ∙ ap WaitWakeStore same))
    ]

-- The start and the end

opens_release : (x : SeatState) (bounds : Limits) (p : Point) → (Begin.begin_at x bounds StartWait p).turn ≡ Open → (Begin.begin_at x bounds StartWait p).seat.point ≡ ReleaseOwnerStore Waiter
opens_release x bounds Rest opens =
    elim (cases_eq x.depth 0) [
      | inl none ↦ absurd (not_open (By Refusal.NotOwner) (rw (eq-eqb x.depth 0 none) at opens))
      | inr held ↦ elim (cases_lt 1 x.depth) [
        | inl more ↦ absurd (not_open (By Refusal.Nested) (rw (ne_eqb x.depth 0 held, lt-ltb 1 x.depth more) at opens))
        | inr once ↦ elim (cases_lt x.takes bounds.budget) [
          | inl left ↦ rw (ne_eqb x.depth 0 held, le-ltb 1 x.depth once, lt-ltb x.takes bounds.budget left) refl
          | inr spent ↦
              absurd (not_open (By Refusal.Spent) (rw (ne_eqb x.depth 0 held, le-ltb 1 x.depth once, le-ltb x.takes bounds.budget spent) at opens))
        ]
      ]
    ]
opens_release x bounds (Asleep sleeper) opens = absurd (not_open (By Refusal.Asleep) opens)
opens_release x bounds _ opens = absurd (not_open Why.InCall opens)

begins_unkept : (c : Core) (s : ℕ) → (begin c s StartWait).turn ≡ Open → kept (begin c s StartWait).core s ≡ None
begins_unkept c s opens =
    let m = Begin.begin (seat c.seats s) (limits c) StartWait in
    elim (cases_Bool (is_seat c.seats s)) [
      | inl is ↦
          let first = opens_release (seat c.seats s) (limits c) (seat c.seats s).point (rw is at opens) in
          rw (is, seat-with_same c.seats s m.seat (seat_of_test c.seats s is)) (ap wait_at first)
      | inr none ↦ absurd (not_open Why.NoSuchSeat (rw none at opens))
    ]

waits_as : (p : Point) (answer : Unlocked) → kept_at p ≡ Some (Waiting answer) → p ≡ WaitWakeStore answer
waits_as (WaitWakeStore kept) answer e = cc
waits_as (EnterOwnerStore Entrant.Locker how) answer e = absurd (cc)
waits_as (EnterOwnerStore Entrant.Trier how) answer e = absurd (cc)
waits_as (EnterOwnerStore Entrant.Receiver how) answer e = absurd (cc)
waits_as _ answer e = absurd (cc)

-- a seat that answers Waiting is at the last point of a start_wait
answers_kept : (c : Core) (s : ℕ) (answer : Unlocked) → is_call (seat c.seats s).point ≡ true → (step c s).turn ≡ Ended (Waiting answer) → (seat c.seats s).point ≡ WaitWakeStore answer
answers_kept c s answer inside turn =
    let is = seat_of_call c s inside in
    let told : (stepped c s).turn ≡ Ended (Waiting answer) = sym (own_turn c s is) ∙ turn in
    let keeps = (step_follows c s (seat c.seats s).point refl inside).told in
    waits_as (seat c.seats s).point answer (sym keeps ∙ ap kept_told told)

pub waits_answer_their_release : WaitsAnswerTheirRelease
waits_answer_their_release c s events answer steady opens stays turn =
    let begun = run_keeps c (begins s StartWait ∷ []) steady in
    let last = run_stays (begin c s StartWait).core s events stays in
    waits_told (begin c s StartWait).core s events answer begun stays (begins_unkept c s opens)
    (answers_kept (run_of (begin c s StartWait).core events) s answer last.1 turn)
