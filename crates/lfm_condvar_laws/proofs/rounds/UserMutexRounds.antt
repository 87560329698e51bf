-- A round of the model is a round of the user mutex: a seat that goes on in the user mutex makes an event of a schedule there, by
-- which it goes on. A seat whose call of the user mutex is open is at a stage that makes its steps.
use Rattle.std.proofs.Common.{◌≡◌, ◌⊎◌, ℕ, zero, suc, true, Option, Some, None, List, [], ◌∷◌, ◌++◌, refl, sym, ap, subst, ◌∙◌, inl, inr}
use Rattle.std.proofs.lemmas.Bool.{false≢true}
use Rattle.lfm_protocol.specs.declared.answers.Call.TheVariants.{Lock, TryLock, Unlock, StartWait, SendLock, Receive}
use Rattle.lfm_protocol.specs.declared.answers.Turn.{Turn}
use Rattle.lfm_protocol.specs.declared.answers.Turn.TheVariants.{Open}
use Rattle.lfm_protocol.specs.declared.points.Point.{Point}
use Rattle.lfm_protocol.specs.declared.points.Point.TheVariants.{Rest, Asleep}
use Rattle.lfm_protocol.specs.Core.{Core}
use Rattle.lfm_protocol.specs.Turns.{is_open}
use Rattle.lfm_laws.specs.laws.Rounds as Rounds
use Rattle.lfm_laws.specs.laws.Schedules as Schedules
use Rattle.lfm_laws.specs.laws.Schedules.{Event, is_call}
use Rattle.lfm_laws.proofs.lawful.rounds.Events.{no_begin}
use Rattle.lfm_laws.proofs.lawful.rounds.Made.{opens}
use Rattle.lfm_condvar_laws.specs.Condvars.{Stage, outside, locking_to_wait, starting, receiving, locking_to_wake, claiming, sending, unlocking, CondvarCore, point_of}
use Rattle.lfm_condvar_laws.specs.Events.{CondvarEvent, begins, waits, wakes, makes, happens, run_of}
use Rattle.lfm_condvar_laws.specs.Rounds.{ReceivesNext, GoesOnBy, GoesOnIn, IsRound, HasUnownedRounds}
use Rattle.lfm_condvar_laws.proofs.Invariant.{CondvarGhost, StageFits, CoreFits}
use Rattle.lfm_condvar_laws.proofs.Runs.{event_outcome, run_outcome}
use Rattle.lfm_condvar_laws.proofs.rounds.UserMutexEvents.{received_event, stage_event, mutex_event, after, event_so, with_first, mutex_record, run_so, record_append}

-- One event

-- by this event of the user mutex, if it is one, seat s goes on
abbrev GoesBy : Core → ℕ → Option Event → Type 0
GoesBy c s None = ⊥
GoesBy c s (Some e) = Rounds.GoesOnBy c s e

turn_open : (t : Turn) → is_open t ≡ true → t ≡ Open
turn_open Open is = refl
turn_open _ is = absurd (false≢true is)

received_step : (s : ℕ) (p : Point) → is_call p ≡ true → received_event s p ≡ Some (Schedules.makes s)
received_step s Rest inside = absurd (false≢true inside)
received_step s (Asleep sleeper) inside = absurd (false≢true inside)
received_step s _ inside = refl

at_rest : (k : CondvarCore) (s : ℕ) → point_of k s ≡ Rest → is_call (point_of k s) ≡ true → ⊥
at_rest k s rests inside = false≢true (rw rests at inside)

call_goes : (k : CondvarCore) (g : CondvarGhost) (s : ℕ) (d : Stage) → StageFits k g s d → is_call (point_of k s) ≡ true → GoesBy k.mutex s (stage_event k s d)
call_goes k g s outside own inside = (refl, inside)
call_goes k g s (locking_to_wait v) own inside = absurd (no_begin k.mutex s StartWait inside (turn_open _ own))
call_goes k g s (starting v ticket) own inside = rw inside (refl, inside)
call_goes k g s (receiving v ticket) own inside = rw (received_step s (point_of k s) inside) (refl, inside)
call_goes k g s (locking_to_wake v all) own inside = absurd (at_rest k s own.at inside)
call_goes k g s (claiming v all oldest) own inside = (refl, inside)
call_goes k g s (sending v all oldest) own inside = rw inside (refl, inside)
call_goes k g s (unlocking v) own inside = absurd (at_rest k s own.at inside)

receive_goes : (k : CondvarCore) (s : ℕ) → ReceivesNext k s → GoesBy k.mutex s (stage_event k s (k.stage s))
receive_goes k s next = rw (next.waits, next.sleeps) (refl, opens k.mutex s next.since next.sleeps)

step_goes : (k : CondvarCore) (g : CondvarGhost) (s : ℕ) → CoreFits k g → (is_call (point_of k s) ≡ true) ⊎ ReceivesNext k s
    → GoesBy k.mutex s (stage_event k s (k.stage s))
step_goes k g s fits (inl inside) = call_goes k g s (k.stage s) (fits.stages s) inside
step_goes k g s fits (inr next) = receive_goes k s next

event_goes : (k : CondvarCore) (g : CondvarGhost) (s : ℕ) (e : CondvarEvent) → CoreFits k g → GoesOnBy k s e → GoesBy k.mutex s (mutex_event k e)
event_goes k g s (makes t) fits going =
    subst (λ (u : ℕ). GoesBy k.mutex s (stage_event k u (k.stage u))) (sym going.0) (step_goes k g s fits going.1)
event_goes k g s (begins t Receive) fits going = rw (going.0, going.1) (refl, going.2)
event_goes k g s (begins t Lock) fits going = absurd going
event_goes k g s (begins t TryLock) fits going = absurd going
event_goes k g s (begins t Unlock) fits going = absurd going
event_goes k g s (begins t StartWait) fits going = absurd going
event_goes k g s (begins t (SendLock u)) fits going = absurd going
event_goes k g s (waits t v) fits going = absurd going
event_goes k g s (wakes t v all) fits going = absurd going

-- Runs

goes_now : (c : Core) (s : ℕ) (x : Option Event) (later : List Event) → GoesBy c s x → Rounds.GoesOnIn c s (with_first x later)
goes_now c s None later going = absurd going
goes_now c s (Some e) later going = inl going

goes_later : (c : Core) (s : ℕ) (x : Option Event) (later : List Event) → Rounds.GoesOnIn (after c x) s later → Rounds.GoesOnIn c s (with_first x later)
goes_later c s None later going = going
goes_later c s (Some e) later going = inr going

run_goes : (k : CondvarCore) (g : CondvarGhost) (s : ℕ) (events : List CondvarEvent) → CoreFits k g → GoesOnIn k s events
    → Rounds.GoesOnIn k.mutex s (mutex_record k events)
run_goes k g s [] fits going = absurd going
run_goes k g s (e ∷ later) fits (inl now) =
    goes_now k.mutex s (mutex_event k e) (mutex_record (happens k e) later) (event_goes k g s e fits now)
run_goes k g s (e ∷ later) fits (inr soon) =
    let one = event_outcome k g e fits in
    let rest = run_goes (happens k e) one.to s later one.fits soon in
    goes_later k.mutex s (mutex_event k e) (mutex_record (happens k e) later)
    (subst (λ (c : Core). Rounds.GoesOnIn c s (mutex_record (happens k e) later)) (event_so k e) rest)

round_goes : (k : CondvarCore) (g : CondvarGhost) (round : List CondvarEvent) → CoreFits k g → IsRound k round → Rounds.IsRound k.mutex (mutex_record k round)
round_goes k g round fits is s can = run_goes k g s round fits (is s can)

-- the rounds of a run of the model are rounds of the user mutex
pub rounds_go : (n : ℕ) (k : CondvarCore) (g : CondvarGhost) (events : List CondvarEvent) → CoreFits k g → HasUnownedRounds n k events
    → Rounds.HasUnownedRounds n k.mutex (mutex_record k events)
rounds_go zero k g events fits has = tt
rounds_go (suc n) k g events fits has =
    let before : List CondvarEvent = has.0 in
    let round : List CondvarEvent = has.1 in
    let later : List CondvarEvent = has.2 in
    let first = run_outcome k g before fits in
    let second = run_outcome (run_of k before) first.to round first.fits in
    let start = run_so k before in
    let end = run_so (run_of k before) round ∙ ap (λ c. Schedules.run_of c (mutex_record (run_of k before) round)) start in (
      mutex_record k before,
      mutex_record (run_of k before) round,
      mutex_record (run_of (run_of k before) round) later,
      ap (mutex_record k) has.3 ∙ record_append k before (round ++ later)
          ∙ ap (λ l. mutex_record k before ++ l) (record_append (run_of k before) round later),
      ap (λ (c : Core). c.owner) (sym start) ∙ has.4,
      subst (λ (c : Core). Rounds.IsRound c (mutex_record (run_of k before) round)) start (round_goes (run_of k before) first.to round first.fits has.5),
      subst (λ (c : Core). Rounds.HasUnownedRounds n c (mutex_record (run_of (run_of k before) round) later)) end
          (rounds_go n (run_of (run_of k before) round) second.to later second.fits has.6),
    )
