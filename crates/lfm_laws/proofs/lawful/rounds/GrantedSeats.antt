-- A seat that has its grant, one event at a time: how many rounds are left until it owns. No other seat moves the
-- responsibility, so only its own steps matter: it ends its `lock`, begins its receive, loads the grant, stores QUIET and
-- stores the owner.
use Rattle.std.proofs.Common.{◌≡◌, ◌≢◌, ℕ, Bool, true, false, ◌≤◌, ◌<◌, refl, sym, ap, subst, ◌∙◌, inl, inr, arith}
use Rattle.std.specs.Prelude.{◌⊎◌}
use Rattle.std.proofs.lemmas.Bool.{cases_Bool, cases_eq, eq-eqb, false≢true}
use Rattle.lfm_model.specs.Abstract.{passed}
use Rattle.lfm_protocol.specs.declared.answers.Call.{Call}
use Rattle.lfm_protocol.specs.declared.answers.Call.TheVariants.{Lock, TryLock, Unlock, StartWait, SendLock, Receive}
use Rattle.lfm_protocol.specs.declared.points.Entrant.{Entrant}
use Rattle.lfm_protocol.specs.declared.points.Point.{Point}
use Rattle.lfm_protocol.specs.declared.points.Point.TheVariants.{Rest, Asleep, PushedHandoffLoad, PushedHandoffExchange, EnterOwnerStore, ReceiveWakeLoad, ReceiveWakeStore}
use Rattle.lfm_protocol.specs.declared.points.Pusher.{Pusher}
use Rattle.lfm_protocol.specs.declared.points.Sleeper.{Sleeper}
use Rattle.lfm_protocol.specs.After.{same_handoff, how_granted}
use Rattle.lfm_protocol.specs.Core.{Core, limits}
use Rattle.lfm_protocol.specs.Seats.{seat, is_seat, IsSeat}
use Rattle.lfm_protocol.specs.Step.{made, begin}
use Rattle.lfm_laws.specs.laws.Cases.{GoesBy}
use Rattle.lfm_laws.specs.laws.Events.{case_at, case_of_step}
use Rattle.lfm_laws.specs.laws.Rounds.{GoesOnBy}
use Rattle.lfm_laws.specs.laws.Schedules.{Event, begins, makes, happens, is_call}
use Rattle.lfm_laws.specs.steady.Ghost as Places
use Rattle.lfm_laws.specs.steady.Ghost.{Responsibility, nobody, Ghost}
use Rattle.lfm_laws.specs.steady.EventOutcome.{abstract, abstract_place}
use Rattle.lfm_laws.specs.steady.Steady.{Fits}
use Rattle.lfm_laws.specs.steady.Views.{held_by}
use Rattle.lfm_laws.proofs.lawful.bounds.DueCalls.{granted_word, passed_place}
use Rattle.lfm_laws.proofs.lawful.bounds.Leaving.{own_made, other_made, begun_other, begin_leaves}
use Rattle.lfm_laws.proofs.lawful.bounds.LockFree.{idle_made}
use Rattle.lfm_laws.proofs.lawful.bounds.Served.{begun_view}
use Rattle.lfm_laws.proofs.lawful.runs.Reached.{absent_tested, begin_keeps, made_keeps}
use Rattle.lfm_laws.proofs.steady.frames.Seated.{seat_of_point, seat_of_test, test_of_seat}
use Rattle.lfm_laws.proofs.lawful.rounds.Weights.{grant_weight-le}
use Rattle.lfm_laws.proofs.lawful.rounds.OwnSteps.{granted_handoff, not_unposted}
use Rattle.lfm_laws.proofs.lawful.rounds.OtherSteps.{passed_case}
use Rattle.lfm_laws.proofs.lawful.rounds.Events.{no_start, not_own_start, is_receive, refused_asleep}

-- the rounds until a seat at this point owns, if it has its grant
abbrev pub rounds_to_hold : Point → ℕ
rounds_to_hold (EnterOwnerStore entrant how) = 1
rounds_to_hold (ReceiveWakeStore stamp) = 2
rounds_to_hold (ReceiveWakeLoad sleeper) = 3
rounds_to_hold (Asleep sleeper) = 4
rounds_to_hold _ = 5

-- a call that has gained the mutex for its own seat and has yet to store the owner
abbrev pub has_gained : Point → Bool
has_gained (ReceiveWakeStore stamp) = true
has_gained (EnterOwnerStore entrant how) = true
has_gained _ = false

-- seat s has its grant, or has gained the mutex by it, and owns within m rounds
pub data Comes (c : Core) (g : Ghost) (s m : ℕ) : Type 0 where
  awaits : abstract_place g.place ≡ passed s → rounds_to_hold (seat c.seats s).point ≤ m → Comes c g s m
  gained : has_gained (seat c.seats s).point ≡ true → rounds_to_hold (seat c.seats s).point ≤ m → Comes c g s m

-- what an event does: the seat owns, or fewer rounds are left, or as many are left and the seat hasn't gone on by this event
pub data Nearer (d : Core) (h : Ghost) (s m : ℕ) (going : Type 0) : Type 0 where
  owns : d.owner ≡ s → Nearer d h s m going
  nearer : (n : ℕ) → n < m → Comes d h s n → Nearer d h s m going
  stays : Comes d h s m → (going → ⊥) → Nearer d h s m going

-- Its own step

awaiting_step : (c : Core) (g h : Ghost) (u m stamp : ℕ) (p : Point) (going : Type 0) → (seat c.seats u).point ≡ p → is_call p ≡ true → Fits c g → g.place ≡ Places.granted u stamp
    → IsSeat c.seats u → rounds_to_hold p ≤ m → GoesBy (case_at c u (seat c.seats u) p) (abstract g) (abstract h) → Nearer (made c u).core h u m going
awaiting_step c g h u m stamp (PushedHandoffLoad Pusher.Locker) going at inside fits place is more goes =
    let none = granted_handoff c.seats g.place u stamp c.handoff place fits.words.handoff in
    let view : seat (made c u).core.seats u ≡ record (seat c.seats u) { point = Asleep Sleeper.Locker } = own_made c u is ∙ rw (at, at, none) refl in
    nearer 4 (omega (arith, more)) (awaits (goes.place ∙ ap abstract_place place) (rw view (omega arith)))
awaiting_step c g h u m stamp (PushedHandoffExchange Pusher.Locker seen) going at inside fits place is more goes =
    let none = granted_handoff c.seats g.place u stamp c.handoff place fits.words.handoff in
    let knows = rw at at (fits.each u).knows in
    let lost : same_handoff c.handoff seen ≡ false = rw none (not_unposted seen knows.0.above) in
    let view : seat (made c u).core.seats u ≡ record (seat c.seats u) { point = Asleep Sleeper.Locker } = own_made c u is ∙ rw (at, at, lost) refl in
    let same = rw lost at goes in
    nearer 4 (omega (arith, more)) (awaits (same.place ∙ ap abstract_place place) (rw view (omega arith)))
awaiting_step c g h u m stamp (ReceiveWakeLoad sleeper) going at inside fits place is more goes =
    let word = granted_word c g u stamp fits place in
    let view : seat (made c u).core.seats u ≡ record (seat c.seats u) { point = ReceiveWakeStore stamp } = own_made c u is ∙ rw (at, at, word) refl in
    nearer 2 (omega (arith, more)) (gained (rw view refl) (rw view (omega arith)))
awaiting_step c g h u m stamp Rest going at inside fits place is more goes = absurd (false≢true inside)
awaiting_step c g h u m stamp (Asleep sleeper) going at inside fits place is more goes = absurd (false≢true inside)
awaiting_step c g h u m stamp _ going at inside fits place is more goes =
    let awaits = ((fits.each u).granted (rw (place, eq-eqb u u refl) refl)).0 in
    absurd (false≢true (rw at at awaits))

gained_step : (c : Core) (h : Ghost) (u m : ℕ) (p : Point) (going : Type 0) → (seat c.seats u).point ≡ p → has_gained p ≡ true → IsSeat c.seats u → rounds_to_hold p ≤ m
    → Nearer (made c u).core h u m going
gained_step c h u m (ReceiveWakeStore stamp) going at has is more =
    let view : seat (made c u).core.seats u ≡ record (seat c.seats u) { point = EnterOwnerStore Entrant.Receiver (how_granted stamp) } = own_made c u is ∙ rw (at, at) refl in
    nearer 1 (omega (arith, more)) (gained (rw view refl) (rw view (omega arith)))
gained_step c h u m (EnterOwnerStore entrant how) going at has is more = owns (rw (at, at) refl)
gained_step c h u m _ going at has is more = absurd (false≢true has)

gained_calls : (p : Point) → has_gained p ≡ true → is_call p ≡ true
gained_calls Rest has = absurd (false≢true has)
gained_calls (Asleep sleeper) has = absurd (false≢true has)
gained_calls _ has = refl

-- a seat that makes no step
idle_stays : (c : Core) (g h : Ghost) (u m : ℕ) → is_call (seat c.seats u).point ≡ false → abstract_place h.place ≡ passed u → rounds_to_hold (seat c.seats u).point ≤ m
    → Nearer (made c u).core h u m (GoesOnBy c u (makes u))
idle_stays c g h u m closed place more =
    let same = idle_made c u (seat c.seats u).point refl closed in
    rw same (stays (awaits place more) (λ going. false≢true (sym closed ∙ going.1)))

own_step : (c : Core) (g h : Ghost) (u m : ℕ) → Fits c g → IsSeat c.seats u → Comes c g u m → GoesBy (case_of_step c u) (abstract g) (abstract h)
    → Nearer (made c u).core h u m (GoesOnBy c u (makes u))
own_step c g h u m fits is (awaits place more) goes =
    elim (cases_Bool (is_call (seat c.seats u).point)) [
      | inl inside ↦
          let here = passed_place g.place u place in
          awaiting_step c g h u m here.0 (seat c.seats u).point (GoesOnBy c u (makes u)) refl inside fits here.1 is more goes
      | inr closed ↦ idle_stays c g h u m closed (closed_place c g h u (seat c.seats u).point closed goes ∙ place) more
    ]
  where
    closed_place : (c : Core) (g h : Ghost) (u : ℕ) (p : Point) → is_call p ≡ false → GoesBy (case_at c u (seat c.seats u) p) (abstract g) (abstract h)
        → abstract_place h.place ≡ abstract_place g.place
    closed_place c g h u Rest closed goes = goes.place
    closed_place c g h u (Asleep sleeper) closed goes = goes.place
    closed_place c g h u _ closed goes = absurd (false≢true (sym closed))
own_step c g h u m fits is (gained has more) goes = gained_step c h u m (seat c.seats u).point (GoesOnBy c u (makes u)) refl has is more

-- The step of another seat

other_step : (c : Core) (g h : Ghost) (t u m : ℕ) → Fits c g → u ≢ t → Comes c g u m → Fits (made c t).core h → GoesBy (case_of_step c t) (abstract g) (abstract h)
    → Comes (made c t).core h u m
other_step c g h t u m fits other (awaits place more) after goes =
    let here = passed_place g.place u place in
    let idle : held_by g.place u ≡ nobody = rw here.1 refl in
    let same = passed_case c g h t u 7 (case_of_step c t) fits idle place other (grant_weight-le (seat c.seats u).point) after goes in
    awaits (same.place ∙ place) (rw (other_made c t u other) more)
other_step c g h t u m fits other (gained has more) after goes =
    let view = other_made c t u other in gained (rw view has) (rw view more)

-- The start of a call

kept : (c d : Core) (g : Ghost) (u m : ℕ) → seat d.seats u ≡ seat c.seats u → Comes c g u m → Comes d g u m
kept c d g u m view (awaits place more) = awaits place (rw view more)
kept c d g u m view (gained has more) = gained (rw view has) (rw view more)

sleeper_refused : (c : Core) (g : Ghost) (u m : ℕ) (call : Call) (since : Sleeper) → (seat c.seats u).point ≡ Asleep since → is_receive call ≡ false → Comes c g u m
    → (GoesOnBy c u (begins u call) → ⊥) → Nearer (begin c u call).core g u m (GoesOnBy c u (begins u call))
sleeper_refused c g u m call since at other comes none =
    let is = seat_of_point c.seats u (λ rests. let e = sym at ∙ rests in cc) in
    let view = begun_view c u call is (test_of_seat c.seats u is) ∙ refused_asleep (seat c.seats u) (limits c) call (seat c.seats u).point since at other in
    stays (kept c (begin c u call).core g u m view comes) none

sleeper_begins : (c : Core) (g : Ghost) (u m : ℕ) (call : Call) (since : Sleeper) → (seat c.seats u).point ≡ Asleep since → abstract_place g.place ≡ passed u → Comes c g u m
    → rounds_to_hold (seat c.seats u).point ≤ m → Nearer (begin c u call).core g u m (GoesOnBy c u (begins u call))
sleeper_begins c g u m Receive since at place comes more =
    let is = seat_of_point c.seats u (λ rests. let e = sym at ∙ rests in cc) in
    let view : (seat (begin c u Receive).core.seats u).point ≡ ReceiveWakeLoad since = rw (begun_view c u Receive is (test_of_seat c.seats u is)) (rw at refl) in
    let least : 4 ≤ m = rw at at more in
    nearer 3 (omega (arith, least)) (awaits place (rw view (omega arith)))
sleeper_begins c g u m Lock since at place comes more = sleeper_refused c g u m Lock since at refl comes (λ going. going)
sleeper_begins c g u m TryLock since at place comes more = sleeper_refused c g u m TryLock since at refl comes (λ going. going)
sleeper_begins c g u m Unlock since at place comes more = sleeper_refused c g u m Unlock since at refl comes (λ going. going)
sleeper_begins c g u m StartWait since at place comes more = sleeper_refused c g u m StartWait since at refl comes (λ going. going)
sleeper_begins c g u m (SendLock t) since at place comes more = sleeper_refused c g u m (SendLock t) since at refl comes (λ going. going)

-- a seat that has its grant has a call open, or sleeps
asleep_or_calls : (c : Core) (g : Ghost) (u : ℕ) (p : Point) → Fits c g → abstract_place g.place ≡ passed u → (seat c.seats u).point ≡ p
    → (is_call p ≡ true) ⊎ ((since : Sleeper) × (p ≡ Asleep since))
asleep_or_calls c g u Rest fits place at =
    let here = passed_place g.place u place in
    let awaits = ((fits.each u).granted (rw (here.1, eq-eqb u u refl) refl)).0 in
    absurd (false≢true (rw at at awaits))
asleep_or_calls c g u (Asleep since) fits place at = inr (since, refl)
asleep_or_calls c g u _ fits place at = inl refl

pub can_come : (c : Core) (g : Ghost) (u m : ℕ) → Fits c g → Comes c g u m → (is_call (seat c.seats u).point ≡ true) ⊎ ((abstract_place g.place ≡ passed u) × ((since : Sleeper) × ((seat c.seats u).point ≡ Asleep since)))
can_come c g u m fits (awaits place more) =
    elim (asleep_or_calls c g u (seat c.seats u).point fits place refl) [
      | inl inside ↦ inl inside
      | inr sleeps ↦ inr (place, sleeps)
    ]
can_come c g u m fits (gained has more) = inl (gained_calls (seat c.seats u).point has)

within : (c : Core) (g : Ghost) (u m : ℕ) → Comes c g u m → rounds_to_hold (seat c.seats u).point ≤ m
within c g u m (awaits place more) = more
within c g u m (gained has more) = more

begun_step : (c : Core) (g : Ghost) (t u m : ℕ) (call : Call) → Fits c g → Comes c g u m → Nearer (begin c t call).core g u m (GoesOnBy c u (begins t call))
begun_step c g t u m call fits comes =
    elim (can_come c g u m fits comes) [
      | inl inside ↦ stays (kept c (begin c t call).core g u m (begin_leaves c t u call inside).view comes) (λ going. no_start c t u call inside going)
      | inr sleeps ↦ elim (cases_eq u t) [
        | inl own ↦
            subst (λ (x : ℕ). Nearer (begin c x call).core g u m (GoesOnBy c u (begins x call))) own
            (sleeper_begins c g u m call sleeps.1.0 sleeps.1.1 sleeps.0 comes (within c g u m comes))
        | inr other ↦ stays (kept c (begin c t call).core g u m (begun_other c t u call other) comes) (λ going. not_own_start c t u call other going)
      ]
    ]

-- Any event

pub record AfterEvent (d : Core) (s m : ℕ) (going : Type 0) : Type 0 where
  pub to : Ghost
  pub fits : Fits d to
  pub outcome : Nearer d to s m going

made_event : (c : Core) (g : Ghost) (t u m : ℕ) → Fits c g → IsSeat c.seats t → Comes c g u m → AfterEvent (made c t).core u m (GoesOnBy c u (makes t))
made_event c g t u m fits is comes =
    let kept = made_keeps c g t is fits in
    record {
      to = kept.to;
      fits = kept.fits;
      outcome = elim (cases_eq u t) [
        | inl own ↦ rw own (own_step c g kept.to t m fits is (rw own at comes) kept.goes)
        | inr other ↦ stays (other_step c g kept.to t u m fits other comes kept.fits kept.goes) (λ going. other (sym going.0))
      ];
    }

pub comes_event : (c : Core) (g : Ghost) (s m : ℕ) (e : Event) → Fits c g → Comes c g s m → AfterEvent (happens c e).core s m (GoesOnBy c s e)
comes_event c g s m (begins t call) fits comes =
    record { to = g; fits = begin_keeps c g t call fits; outcome = begun_step c g t s m call fits comes }
comes_event c g s m (makes t) fits comes =
    elim (cases_Bool (is_seat c.seats t)) [
      | inl known ↦ rw known (made_event c g t s m fits (seat_of_test c.seats t known) comes)
      | inr none ↦
          let absent = absent_tested c.seats t none in
          rw none (record { to = g; fits = fits; outcome = stays comes (λ going. false≢true (rw (sym going.0, absent) at going.1)) })
    ]
