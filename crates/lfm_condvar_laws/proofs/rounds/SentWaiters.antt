-- A waiter that was sent holds: once the seat of a wait that receives owns the user mutex, the wait is about to end. Until then
-- its stage stays, so the laws of the user mutex say after how many rounds that is.
use Rattle.std.proofs.Common.{◌≡◌, ◌≢◌, ℕ, true, false, ◌+◌, ◌*◌, ◌<◌, Option, Some, None, List, [], ◌∷◌, length, refl, sym, ap, subst, ◌∙◌, inl, inr, arith}
use Rattle.std.proofs.lemmas.Bool.{cases_eq, false≢true}
use Rattle.lfm_protocol.specs.declared.points.Entrant.{Entrant}
use Rattle.lfm_protocol.specs.declared.points.Point.{Point}
use Rattle.lfm_protocol.specs.declared.points.Point.TheVariants.{Rest, Asleep, EnterOwnerStore, ReceiveWakeLoad, ReceiveWakeStore}
use Rattle.lfm_protocol.specs.Core.{Core}
use Rattle.lfm_protocol.specs.Seats.{seat, IsSeat}
use Rattle.lfm_laws.specs.laws.HoldingInRounds.{OwnsIn}
use Rattle.lfm_laws.specs.laws.Schedules.{Event}
use Rattle.lfm_laws.specs.steady.Ghost.{entering, Ghost}
use Rattle.lfm_laws.specs.steady.Steady.{Fits}
use Rattle.lfm_laws.specs.steady.Views.{claim, stamp_of}
use Rattle.lfm_laws.proofs.lawful.calls.RecursiveCalls.{owner_of_claim}
use Rattle.lfm_laws.proofs.lawful.rounds.HoldingInRounds.{any_rounds, granted_seats_hold_in_rounds, queued_seats_hold_in_rounds}
use Rattle.lfm_laws.proofs.steady.frames.Entries.{seat_or_absent}
use Rattle.lfm_laws.proofs.steady.frames.Frames.{place_of_claim}
use Rattle.lfm_laws.proofs.steady.frames.Quiet.{owner_of-held}
use Rattle.lfm_condvar_laws.specs.Condvars.{receiving, CondvarCore, point_of}
use Rattle.lfm_condvar_laws.specs.Events.{CondvarEvent, receives_at, goes_on, happens}
use Rattle.lfm_condvar_laws.specs.Laws.{reached_by}
use Rattle.lfm_condvar_laws.specs.Rounds.{IsAboutToEnd, HoldsIn, SentWaitersHoldInRounds, GrantedWaitersHoldInRounds}
use Rattle.lfm_condvar_laws.proofs.Invariant.{CondvarGhost, ReceivingFits, CoreFits, comes_to_hold, comes_to_hold_at}
use Rattle.lfm_condvar_laws.proofs.LockMoves.{stage_by}
use Rattle.lfm_condvar_laws.proofs.Runs.{event_outcome, run_reaches}
use Rattle.lfm_condvar_laws.proofs.mutex.MutexRuns.{cores_are_reached}
use Rattle.lfm_condvar_laws.proofs.points.ReceivePoints.{holds_once}
use Rattle.lfm_condvar_laws.proofs.rounds.UserMutexEvents.{mutex_event, after, event_so, with_first, mutex_record}
use Rattle.lfm_condvar_laws.proofs.rounds.UserMutexRounds.{rounds_go}

-- A wait whose seat owns

seat_of : (c : Core) (s : ℕ) → comes_to_hold (seat c.seats s) ≡ true → IsSeat c.seats s
seat_of c s comes =
    elim (seat_or_absent c.seats s) [
      | inl is ↦ is
      | inr absent ↦ absurd (false≢true (rw absent at comes))
    ]

-- a seat that owns has not yet to enter
owns_not_entering : (c : Core) (g : Ghost) (s into stamp : ℕ) → Fits c g → 0 < s → c.owner ≡ s → claim (seat c.seats s) s ≡ entering s into stamp → ⊥
owns_not_entering c g s into stamp fits some own claims =
    let place = place_of_claim g.place (entering s into stamp) s (λ e. cc) (sym claims ∙ (fits.each s).claims) in
    let none : c.owner ≡ 0 = fits.words.owner ∙ rw place refl in
    omega (arith, some, own, none)

owner_rests : (c : Core) (g : Ghost) (s : ℕ) (p : Point) → (seat c.seats s).point ≡ p → Fits c g → IsSeat c.seats s → c.owner ≡ s
    → comes_to_hold_at (seat c.seats s).depth p ≡ true → p ≡ Rest
owner_rests c g s Rest at fits is own comes = refl
owner_rests c g s (Asleep sleeper) at fits is own comes =
    absurd (owner_of-held g.place s is.above (sym fits.words.owner ∙ own) (sym (rw at at (fits.each s).claims)))
owner_rests c g s (ReceiveWakeLoad sleeper) at fits is own comes =
    absurd (owner_of-held g.place s is.above (sym fits.words.owner ∙ own) (sym (rw at at (fits.each s).claims)))
owner_rests c g s (ReceiveWakeStore stamp) at fits is own comes = absurd (owns_not_entering c g s s stamp fits is.above own (rw at refl))
owner_rests c g s (EnterOwnerStore Entrant.Receiver how) at fits is own comes = absurd (owns_not_entering c g s s (stamp_of how) fits is.above own (rw at refl))
owner_rests c g s _ at fits is own comes = absurd (false≢true comes)

own_ends : (k : CondvarCore) (g : CondvarGhost) (s v ticket : ℕ) → CoreFits k g → k.stage s ≡ receiving v ticket → k.mutex.owner ≡ s → IsAboutToEnd k s v ticket
own_ends k g s v ticket fits stage own =
    let waits : ReceivingFits k g s v ticket = rw stage at (fits.stages s) in
    let is = seat_of k.mutex s waits.at in
    let rests = owner_rests k.mutex g.mutex s (point_of k s) refl fits.mutex is own waits.at in
    record { stage = stage; rests = rests; owns = own; depth = holds_once (seat k.mutex.seats s) rests waits.at }

-- a wait that is about to end owns
rests_owns : (k : CondvarCore) (g : CondvarGhost) (s v ticket : ℕ) → CoreFits k g → k.stage s ≡ receiving v ticket → point_of k s ≡ Rest → k.mutex.owner ≡ s
rests_owns k g s v ticket fits stage rests =
    let waits : ReceivingFits k g s v ticket = rw stage at (fits.stages s) in
    let deep = holds_once (seat k.mutex.seats s) rests waits.at in
    owner_of_claim k.mutex g.mutex s false fits.mutex (rw (rests, deep) at (fits.mutex.each s).claims)

-- A wait whose seat doesn't own yet

receives_stays : (k : CondvarCore) (s : ℕ) (p : Point) → p ≢ Rest → (receives_at k s p).stage s ≡ k.stage s
receives_stays k s Rest awake = absurd (awake refl)
receives_stays k s (Asleep sleeper) awake = refl
receives_stays k s _ awake = refl

wait_stays : (k : CondvarCore) (g : CondvarGhost) (s v ticket : ℕ) (e : CondvarEvent) → CoreFits k g → k.stage s ≡ receiving v ticket → k.mutex.owner ≢ s
    → (happens k e).stage s ≡ receiving v ticket
wait_stays k g s v ticket e fits stage other =
    elim (stage_by k e s (rw stage refl)) [
      | inl same ↦ same ∙ stage
      | inr own ↦
          let awake : point_of k s ≢ Rest = λ rests. other (rests_owns k g s v ticket fits stage rests) in
          let here : (goes_on k s (receiving v ticket)).stage s ≡ k.stage s = receives_stays k s (point_of k s) awake in
          ap (λ f. (happens k f).stage s) own ∙ ap (λ d. (goes_on k s d).stage s) stage ∙ here ∙ stage
    ]

owns_after : (c : Core) (s : ℕ) (x : Option Event) (later : List Event) → c.owner ≢ s → OwnsIn c s (with_first x later) → OwnsIn (after c x) s later
owns_after c s None later other owns = owns
owns_after c s (Some e) later other (inl own) = absurd (other own)
owns_after c s (Some e) later other (inr soon) = soon

-- the first moment at which the seat owns
hold_run : (k : CondvarCore) (g : CondvarGhost) (s v ticket : ℕ) (events : List CondvarEvent) → CoreFits k g → k.stage s ≡ receiving v ticket
    → OwnsIn k.mutex s (mutex_record k events) → HoldsIn k s v ticket events
hold_run k g s v ticket [] fits stage owns = own_ends k g s v ticket fits stage owns
hold_run k g s v ticket (e ∷ later) fits stage owns =
    elim (cases_eq k.mutex.owner s) [
      | inl own ↦ inl (own_ends k g s v ticket fits stage own)
      | inr other ↦
          let one = event_outcome k g e fits in
          let soon = owns_after k.mutex s (mutex_event k e) (mutex_record (happens k e) later) other owns in
          inr (hold_run (happens k e) one.to s v ticket later one.fits (wait_stays k g s v ticket e fits stage other)
          (subst (λ (c : Core). OwnsIn c s (mutex_record (happens k e) later)) (sym (event_so k e)) soon))
    ]

-- The laws

pub sent_waiters_hold_in_rounds : SentWaitersHoldInRounds
sent_waiters_hold_in_rounds r events v ticket first behind x stage queue has =
    let is = run_reaches r in
    let k = reached_by r in
    let rounds = rounds_go (length k.mutex.seats + 8 * length first + 11) k is.ghost_state events is.fits has in
    hold_run k is.ghost_state x.seat v ticket events is.fits stage
    (queued_seats_hold_in_rounds k.mutex (mutex_record k events) first behind x (cores_are_reached r).0 queue rounds)

pub granted_waiters_hold_in_rounds : GrantedWaitersHoldInRounds
granted_waiters_hold_in_rounds r events s v ticket stamp stage word has =
    let is = run_reaches r in
    let k = reached_by r in
    let rounds = any_rounds 5 k.mutex (mutex_record k events) (rounds_go 5 k is.ghost_state events is.fits has) in
    hold_run k is.ghost_state s v ticket events is.fits stage
    (granted_seats_hold_in_rounds k.mutex (mutex_record k events) s stamp (record { ghost_state = is.ghost_state.mutex; fits = is.fits.mutex }) word rounds)
