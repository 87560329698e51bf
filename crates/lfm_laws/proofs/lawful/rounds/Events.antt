-- One event, while a record is queued and no seat owns: the weight falls, or the carrier collects a record, or a record
-- leaves, or everything stays and the seat that has to go on hasn't gone on by this event. Its call is open, or it sleeps
-- and has its grant.
use Rattle.std.proofs.Common.{◌≡◌, ◌≢◌, ℕ, Bool, true, false, ◌≤◌, None, [], length, refl, sym, ap, subst, ◌∙◌, inl, inr, arith}
use Rattle.std.specs.Prelude.{◌⊎◌}
use Rattle.std.proofs.lemmas.Bool.{cases_eq, eq-eqb, false≢true}
use Rattle.lfm_model.specs.Abstract.{AbstractPlace, AbstractStep, free, owner, passed, carried}
use Rattle.lfm_model.specs.Abstract as Abstract
use Rattle.lfm_protocol.specs.declared.answers.Call.{Call}
use Rattle.lfm_protocol.specs.declared.answers.Call.TheVariants.{Lock, TryLock, Unlock, StartWait, SendLock, Receive}
use Rattle.lfm_protocol.specs.declared.answers.Turn.TheVariants.{Open}
use Rattle.lfm_protocol.specs.declared.points.Point.{Point}
use Rattle.lfm_protocol.specs.declared.points.Point.TheVariants.{Rest, Asleep, ReceiveWakeLoad}
use Rattle.lfm_protocol.specs.declared.points.Sleeper.{Sleeper}
use Rattle.lfm_protocol.specs.declared.seats.SeatState.{SeatState}
use Rattle.lfm_protocol.specs.declared.limits.Limits.{Limits}
use Rattle.lfm_words.specs.declared.wakes.Wake.TheVariants.{Grant}
use Rattle.lfm_protocol.specs.Begin as Begin
use Rattle.lfm_protocol.specs.Core.{Core, limits}
use Rattle.lfm_protocol.specs.Seats.{seat, wake, IsSeat}
use Rattle.lfm_protocol.specs.Step.{made, begin}
use Rattle.lfm_laws.specs.laws.Cases.{GoesBy}
use Rattle.lfm_laws.specs.laws.Events.{case_of_step, popped_by}
use Rattle.lfm_laws.specs.laws.Schedules.{begins, makes, is_call}
use Rattle.lfm_laws.specs.steady.Ghost as Places
use Rattle.lfm_laws.specs.steady.Ghost.{Responsibility, nobody, owned, posted, entering, accepting, leaving, serving, Ghost}
use Rattle.lfm_laws.specs.steady.EventOutcome.{abstract, abstract_place}
use Rattle.lfm_laws.specs.steady.Steady.{HasQueue, Fits, awaits_grant}
use Rattle.lfm_laws.specs.steady.Views.{claim_at}
use Rattle.lfm_laws.specs.laws.Rounds.{GoesOnBy}
use Rattle.lfm_laws.proofs.lawful.bounds.DueCalls.{granted_word}
use Rattle.lfm_laws.proofs.lawful.bounds.Served.{begun_view}
use Rattle.lfm_laws.proofs.lawful.bounds.Leaving.{KeepsSeat, begun_other, begun_popped, begin_leaves, seat_of_call}
use Rattle.lfm_laws.proofs.steady.frames.SameSeats.{seats-begin}
use Rattle.lfm_laws.proofs.steady.frames.Seated.{test_of_seat, seat_of_point}
use Rattle.lfm_laws.proofs.lawful.rounds.TriedPosts.{will_try_same, trier_calls, begun_handoff}
use Rattle.lfm_laws.proofs.lawful.rounds.Weights.{Due}
use Rattle.lfm_laws.proofs.lawful.rounds.OwnSteps.{WeightFell, fell_passed, posted_goes_on, granted_goes_on}
use Rattle.lfm_laws.proofs.lawful.rounds.CarrierSteps.{Collected, carrier_goes_on}
use Rattle.lfm_laws.proofs.lawful.rounds.Carriers.{IsCarried, not_carried}
use Rattle.lfm_laws.proofs.lawful.rounds.OtherSteps.{Stays, IsOwned, beside, carry_same}
use Rattle.lfm_laws.proofs.lawful.rounds.OwnerSteps.{Near, pops_or_none, near_served}

-- what an event of this kind does, by which this number of records leave
pub data Outcome (c d : Core) (g h : Ghost) (u m pops : ℕ) (going : Type 0) : Type 0 where
  fell : WeightFell d h m → Outcome c d g h u m pops going
  walked : pops ≡ 0 → Collected c d g h u m → Outcome c d g h u m pops going
  left : pops ≡ 1 → Near d h 7 → Outcome c d g h u m pops going
  stays : Stays d g h u m → (going → ⊥) → Outcome c d g h u m pops going

-- The seat that has to go on has a call open, or sleeps and has its grant

carrier_calls : (depth s : ℕ) (p : Point) → IsCarried (claim_at depth s p) → is_call p ≡ true
carrier_calls depth s Rest bears = absurd (not_carried depth s Rest refl bears)
carrier_calls depth s (Asleep sleeper) bears = absurd bears
carrier_calls depth s _ bears = refl

pub record Sleeps (c : Core) (g : Ghost) (u : ℕ) : Type 0 where
  pub since : Sleeper
  pub stamp : ℕ
  pub here : (seat c.seats u).point ≡ Asleep since
  pub word : wake c.wakes u ≡ Grant stamp
  pub place : abstract_place g.place ≡ passed u

sleeps_or_calls : (c : Core) (g : Ghost) (u stamp : ℕ) (p : Point) → abstract_place g.place ≡ passed u → (seat c.seats u).point ≡ p → awaits_grant p ≡ true → wake c.wakes u ≡ Grant stamp → (is_call p ≡ true) ⊎ Sleeps c g u
sleeps_or_calls c g u stamp Rest place at awaits word = absurd (false≢true awaits)
sleeps_or_calls c g u stamp (Asleep since) place at awaits word = inr (record { since = since; stamp = stamp; here = at; word = word; place = place })
sleeps_or_calls c g u stamp _ place at awaits word = inl refl

granted_can_go_on : (c : Core) (g : Ghost) (u stamp : ℕ) → Fits c g → g.place ≡ Places.granted u stamp → (is_call (seat c.seats u).point ≡ true) ⊎ Sleeps c g u
granted_can_go_on c g u stamp fits place =
    let awaits = ((fits.each u).granted (rw (place, eq-eqb u u refl) refl)).0 in
    sleeps_or_calls c g u stamp (seat c.seats u).point (ap abstract_place place) refl awaits (granted_word c g u stamp fits place)

can_go_on_at : (c : Core) (g : Ghost) (u m : ℕ) (p : Responsibility) → g.place ≡ p → Fits c g → (IsOwned (abstract_place p) → ⊥) → Due c u m (abstract_place p)
    → (is_call (seat c.seats u).point ≡ true) ⊎ Sleeps c g u
can_go_on_at c g u m nobody place fits unowned due = absurd due
can_go_on_at c g u m (owned s again) place fits unowned due = absurd (unowned tt)
can_go_on_at c g u m (Places.granted s stamp) place fits unowned due = granted_can_go_on c g u stamp fits (place ∙ ap (λ x. Places.granted x stamp) (sym due.0))
can_go_on_at c g u m posted place fits unowned due = inl (trier_calls c u (seat c.seats u) (seat c.seats u).point due.0)
can_go_on_at c g u m (entering s into stamp) place fits unowned due =
    inl (carrier_calls (seat c.seats u).depth u (seat c.seats u).point (rw ((fits.each u).claims, place, eq-eqb s u (sym due.0)) tt))
can_go_on_at c g u m (accepting s) place fits unowned due =
    inl (carrier_calls (seat c.seats u).depth u (seat c.seats u).point (rw ((fits.each u).claims, place, eq-eqb s u (sym due.0)) tt))
can_go_on_at c g u m (leaving s) place fits unowned due =
    inl (carrier_calls (seat c.seats u).depth u (seat c.seats u).point (rw ((fits.each u).claims, place, eq-eqb s u (sym due.0)) tt))
can_go_on_at c g u m (serving s) place fits unowned due =
    inl (carrier_calls (seat c.seats u).depth u (seat c.seats u).point (rw ((fits.each u).claims, place, eq-eqb s u (sym due.0)) tt))

pub can_go_on : (c : Core) (g : Ghost) (u m : ℕ) → Fits c g → (IsOwned (abstract_place g.place) → ⊥) → Due c u m (abstract_place g.place) → (is_call (seat c.seats u).point ≡ true) ⊎ Sleeps c g u
can_go_on c g u m fits unowned due = can_go_on_at c g u m g.place refl fits unowned due

-- Its own step

own_goes_on : (c : Core) (g h : Ghost) (u m : ℕ) (p : Responsibility) → g.place ≡ p → (IsOwned (abstract_place p) → ⊥) → Fits c g → HasQueue g → IsSeat c.seats u
    → is_call (seat c.seats u).point ≡ true → Due c u m (abstract_place p) → popped_by c u ≡ [] → Fits (made c u).core h → GoesBy (case_of_step c u) (abstract g) (abstract h)
    → WeightFell (made c u).core h m ⊎ Collected c (made c u).core g h u m
own_goes_on c g h u m nobody place unowned fits some is inside due none after goes = absurd due
own_goes_on c g h u m (owned s again) place unowned fits some is inside due none after goes = absurd (unowned tt)
own_goes_on c g h u m (Places.granted s stamp) place unowned fits some is inside due none after goes =
    let here : g.place ≡ Places.granted u stamp = place ∙ ap (λ x. Places.granted x stamp) (sym due.0) in
    inl (granted_goes_on c g h u m stamp (seat c.seats u).point refl inside fits here is (granted_word c g u stamp fits here) due.1 after goes)
own_goes_on c g h u m posted place unowned fits some is inside due none after goes = inl (posted_goes_on c g h u m (seat c.seats u).point refl fits place some is due.0 due.1 after goes)
own_goes_on c g h u m (entering s into stamp) place unowned fits some is inside due none after goes =
    carrier_goes_on c g h u m (seat c.seats u).point refl fits some is (rw ((fits.each u).claims, place, eq-eqb s u (sym due.0)) tt) due.1 none after goes
own_goes_on c g h u m (accepting s) place unowned fits some is inside due none after goes =
    carrier_goes_on c g h u m (seat c.seats u).point refl fits some is (rw ((fits.each u).claims, place, eq-eqb s u (sym due.0)) tt) due.1 none after goes
own_goes_on c g h u m (leaving s) place unowned fits some is inside due none after goes =
    carrier_goes_on c g h u m (seat c.seats u).point refl fits some is (rw ((fits.each u).claims, place, eq-eqb s u (sym due.0)) tt) due.1 none after goes
own_goes_on c g h u m (serving s) place unowned fits some is inside due none after goes =
    carrier_goes_on c g h u m (seat c.seats u).point refl fits some is (rw ((fits.each u).claims, place, eq-eqb s u (sym due.0)) tt) due.1 none after goes

own_outcome : (c : Core) (g h : Ghost) (u m : ℕ) (going : Type 0) → (IsOwned (abstract_place g.place) → ⊥) → Fits c g → HasQueue g → IsSeat c.seats u → is_call (seat c.seats u).point ≡ true
    → Due c u m (abstract_place g.place) → HasQueue h → Fits (made c u).core h → GoesBy (case_of_step c u) (abstract g) (abstract h)
    → Outcome c (made c u).core g h u m (length (popped_by c u)) going
own_outcome c g h u m going unowned fits some is inside due still after goes =
    elim (pops_or_none c u (seat c.seats u) (seat c.seats u).point) [
      | inl none ↦ elim (own_goes_on c g h u m g.place refl unowned fits some is inside due none after goes) [
        | inl less ↦ fell less
        | inr same ↦ walked (ap length none) same
      ]
      | inr pops ↦ left pops.0 (near_served (made c u).core g h (case_of_step c u) after still pops.1 goes)
    ]

-- a granted seat that sleeps makes no step
sleeper_made : (c : Core) (u : ℕ) (since : Sleeper) → (seat c.seats u).point ≡ Asleep since → (made c u).core ≡ c
sleeper_made c u since at = rw at refl

sleeper_stays : (c : Core) (g h : Ghost) (u m : ℕ) (since : Sleeper) → (seat c.seats u).point ≡ Asleep since → Due c u m (abstract_place g.place)
    → GoesBy (case_of_step c u) (abstract g) (abstract h) → Stays (made c u).core g h u m
sleeper_stays c g h u m since at due goes =
    let stays : GoesBy None (abstract g) (abstract h) = rw at at goes in
    record { place = stays.place; due = rw (stays.place, sleeper_made c u since at) due }

made_own : (c : Core) (g h : Ghost) (u m : ℕ) → (IsOwned (abstract_place g.place) → ⊥) → Fits c g → HasQueue g → IsSeat c.seats u → Due c u m (abstract_place g.place) → HasQueue h
    → Fits (made c u).core h → GoesBy (case_of_step c u) (abstract g) (abstract h) → Outcome c (made c u).core g h u m (length (popped_by c u)) (GoesOnBy c u (makes u))
made_own c g h u m unowned fits some is due still after goes =
    elim (can_go_on c g u m fits unowned due) [
      | inl inside ↦ own_outcome c g h u m (GoesOnBy c u (makes u)) unowned fits some is inside due still after goes
      | inr sleeps ↦ stays (sleeper_stays c g h u m sleeps.since sleeps.here due goes) (λ going. false≢true (rw sleeps.here at going.1))
    ]

pub made_outcome : (c : Core) (g h : Ghost) (t u m : ℕ) → (IsOwned (abstract_place g.place) → ⊥) → Fits c g → HasQueue g → IsSeat c.seats t → Due c u m (abstract_place g.place) → HasQueue h
    → Fits (made c t).core h → GoesBy (case_of_step c t) (abstract g) (abstract h) → Outcome c (made c t).core g h u m (length (popped_by c t)) (GoesOnBy c u (makes t))
made_outcome c g h t u m unowned fits some is due still after goes =
    elim (cases_eq u t) [
      | inl own ↦ rw own (made_own c g h t m unowned fits some is (rw own at due) still after goes)
      | inr other ↦ elim (beside c g h t u m unowned fits some is other due after goes) [
        | inl less ↦ fell less
        | inr same ↦ stays same (λ going. other (sym going.0))
      ]
    ]

-- The start of a call

due_kept : (c d : Core) (u m : ℕ) (p : AbstractPlace) → KeepsSeat c d u → d.handoff ≡ c.handoff → Due c u m p → Due d u m p
due_kept c d u m free leaves word due = due
due_kept c d u m (owner s) leaves word due = due
due_kept c d u m (passed s) leaves word due = (due.0, rw leaves.view due.1)
due_kept c d u m Abstract.posted leaves word due =
    (rw leaves.view (will_try_same c d u (seat c.seats u) (seat c.seats u).point word due.0), rw leaves.view due.1)
due_kept c d u m (carried s how) leaves word due = let same = carry_same c d u leaves in (due.0, omega (arith, same, due.1))

pub no_begin_at : (x : SeatState) (limits : Limits) (call : Call) (p : Point) → is_call p ≡ true → (Begin.begin_at x limits call p).turn ≡ Open → ⊥
no_begin_at x limits call Rest inside opens = false≢true inside
no_begin_at x limits call (Asleep sleeper) inside opens = false≢true inside
no_begin_at x limits call _ inside opens = cc

pub no_begin : (c : Core) (u : ℕ) (call : Call) → is_call (seat c.seats u).point ≡ true → (begin c u call).turn ≡ Open → ⊥
no_begin c u call inside opens =
    let known = test_of_seat c.seats u (seat_of_call c u inside) in
    no_begin_at (seat c.seats u) (limits c) call (seat c.seats u).point inside (rw known at opens)

pub no_start : (c : Core) (t u : ℕ) (call : Call) → is_call (seat c.seats u).point ≡ true → GoesOnBy c u (begins t call) → ⊥
no_start c t u Receive inside going = no_begin c u Receive inside going.1
no_start c t u Lock inside going = going
no_start c t u TryLock inside going = going
no_start c t u Unlock inside going = going
no_start c t u StartWait inside going = going
no_start c t u (SendLock s) inside going = going

pub not_own_start : (c : Core) (t u : ℕ) (call : Call) → u ≢ t → GoesOnBy c u (begins t call) → ⊥
not_own_start c t u Receive other going = other (sym going.0)
not_own_start c t u Lock other going = going
not_own_start c t u TryLock other going = going
not_own_start c t u Unlock other going = going
not_own_start c t u StartWait other going = going
not_own_start c t u (SendLock s) other going = going

abbrev pub is_receive : Call → Bool
is_receive Receive = true
is_receive _ = false

pub refused_asleep : (x : SeatState) (limits : Limits) (call : Call) (p : Point) (since : Sleeper) → p ≡ Asleep since → is_receive call ≡ false → (Begin.begin_at x limits call p).seat ≡ x
refused_asleep x limits Receive p since at other = absurd (false≢true (sym other))
refused_asleep x limits Lock p since at other = rw at refl
refused_asleep x limits TryLock p since at other = rw at refl
refused_asleep x limits Unlock p since at other = rw at refl
refused_asleep x limits StartWait p since at other = rw at refl
refused_asleep x limits (SendLock t) p since at other = rw at refl

pub begun_kept : (c : Core) (t u : ℕ) (call : Call) → seat (begin c t call).core.seats u ≡ seat c.seats u → KeepsSeat c (begin c t call).core u
begun_kept c t u call view = record { view = view; size = seats-begin c t call; popped = λ e. begun_popped c t call }

begun_stays : (c : Core) (g : Ghost) (t u m : ℕ) (call : Call) → Due c u m (abstract_place g.place) → KeepsSeat c (begin c t call).core u → Stays (begin c t call).core g g u m
begun_stays c g t u m call due leaves =
    record { place = refl; due = due_kept c (begin c t call).core u m (abstract_place g.place) leaves (begun_handoff c t call) due }

-- a granted seat that sleeps begins a call
sleeper_begins : (c : Core) (g : Ghost) (u m : ℕ) (call : Call) → Fits c g → Sleeps c g u → Due c u m (abstract_place g.place)
    → Outcome c (begin c u call).core g g u m 0 (GoesOnBy c u (begins u call))
sleeper_begins c g u m Receive fits sleeps due =
    let is = seat_of_point c.seats u (λ rests. let e = sym sleeps.here ∙ rests in cc) in
    let view : (seat (begin c u Receive).core.seats u).point ≡ ReceiveWakeLoad sleeps.since = rw (begun_view c u Receive is (test_of_seat c.seats u is)) (rw sleeps.here refl) in
    let due : Due c u m (passed u) = rw sleeps.place at due in
    let least : 6 ≤ m = rw sleeps.here at due.1 in
    let size = seats-begin c u Receive in
    fell (fell_passed (begin c u Receive).core g u m (ReceiveWakeLoad sleeps.since) sleeps.place view (omega (arith, least, size)))
sleeper_begins c g u m Lock fits sleeps due =
    let is = seat_of_point c.seats u (λ rests. let e = sym sleeps.here ∙ rests in cc) in
    stays (begun_stays c g u u m Lock due (begun_kept c u u Lock (begun_view c u Lock is (test_of_seat c.seats u is) ∙ refused_asleep (seat c.seats u) (limits c) Lock (seat c.seats u).point sleeps.since sleeps.here refl))) (λ going. going)
sleeper_begins c g u m TryLock fits sleeps due =
    let is = seat_of_point c.seats u (λ rests. let e = sym sleeps.here ∙ rests in cc) in
    stays (begun_stays c g u u m TryLock due (begun_kept c u u TryLock (begun_view c u TryLock is (test_of_seat c.seats u is) ∙ refused_asleep (seat c.seats u) (limits c) TryLock (seat c.seats u).point sleeps.since sleeps.here refl))) (λ going. going)
sleeper_begins c g u m Unlock fits sleeps due =
    let is = seat_of_point c.seats u (λ rests. let e = sym sleeps.here ∙ rests in cc) in
    stays (begun_stays c g u u m Unlock due (begun_kept c u u Unlock (begun_view c u Unlock is (test_of_seat c.seats u is) ∙ refused_asleep (seat c.seats u) (limits c) Unlock (seat c.seats u).point sleeps.since sleeps.here refl))) (λ going. going)
sleeper_begins c g u m StartWait fits sleeps due =
    let is = seat_of_point c.seats u (λ rests. let e = sym sleeps.here ∙ rests in cc) in
    stays (begun_stays c g u u m StartWait due (begun_kept c u u StartWait (begun_view c u StartWait is (test_of_seat c.seats u is) ∙ refused_asleep (seat c.seats u) (limits c) StartWait (seat c.seats u).point sleeps.since sleeps.here refl))) (λ going. going)
sleeper_begins c g u m (SendLock t) fits sleeps due =
    let is = seat_of_point c.seats u (λ rests. let e = sym sleeps.here ∙ rests in cc) in
    stays (begun_stays c g u u m (SendLock t) due (begun_kept c u u (SendLock t) (begun_view c u (SendLock t) is (test_of_seat c.seats u is) ∙ refused_asleep (seat c.seats u) (limits c) (SendLock t) (seat c.seats u).point sleeps.since sleeps.here refl))) (λ going. going)

pub begun_outcome : (c : Core) (g : Ghost) (t u m : ℕ) (call : Call) → (IsOwned (abstract_place g.place) → ⊥) → Fits c g → Due c u m (abstract_place g.place)
    → Outcome c (begin c t call).core g g u m 0 (GoesOnBy c u (begins t call))
begun_outcome c g t u m call unowned fits due =
    elim (can_go_on c g u m fits unowned due) [
      | inl inside ↦ stays (begun_stays c g t u m call due (begin_leaves c t u call inside)) (λ going. no_start c t u call inside going)
      | inr sleeps ↦ elim (cases_eq u t) [
        | inl own ↦ subst (λ (x : ℕ). Outcome c (begin c x call).core g g u m 0 (GoesOnBy c u (begins x call))) own (sleeper_begins c g u m call fits sleeps due)
        | inr other ↦ stays (begun_stays c g t u m call due (begun_kept c t u call (begun_other c t u call other))) (λ going. not_own_start c t u call other going)
      ]
    ]
