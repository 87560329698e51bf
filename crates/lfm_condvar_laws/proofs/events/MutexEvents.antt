-- The events by which a seat moves in the user mutex alone, and those by which a call on a condvar begins or a wait ends.
use Rattle.std.proofs.Common.{◌≡◌, ℕ, Bool, true, false, ◌&&◌, [], refl, sym, ap, ◌∙◌, inl, inr}
use Rattle.std.proofs.lemmas.Bool.{cases_Bool, and_parts, false≢true}
use Rattle.lfm_protocol.specs.declared.answers.Call.{Call}
use Rattle.lfm_protocol.specs.declared.answers.Call.TheVariants.{StartWait, Receive}
use Rattle.lfm_protocol.specs.declared.points.Point.{Point}
use Rattle.lfm_protocol.specs.declared.points.Point.TheVariants.{Rest, Asleep}
use Rattle.lfm_protocol.specs.Core.{Core}
use Rattle.lfm_protocol.specs.Turns.{is_open}
use Rattle.lfm_protocol.specs.Seats.{seat, is_seat}
use Rattle.lfm_protocol.specs.Step.{begin, step}
use Rattle.lfm_laws.proofs.steady.frames.Seated.{seat_of_test}
use Rattle.lfm_condvar_laws.specs.Condvars.{Waiter, Stage, outside, locking_to_wait, starting, receiving, locking_to_wake, sending, CondvarCore, point_of, put_stage, put_mutex}
use Rattle.lfm_condvar_laws.specs.Events.{mutex_steps, is_own_call, is_outside, is_rest, begins_call, begins_wait, begins_wake, receives_at}
use Rattle.lfm_condvar_laws.proofs.Invariant.{CondvarGhost, is_of_condvar, comes_to_hold, waits_at, Locks, StartingFits, ReceivingFits, SendingFits, IsPending, CoreFits}
use Rattle.lfm_condvar_laws.proofs.Outcomes.{CondvarOutcome, quiet_outcome, with_mutex, append_none, moves_mutex, moves_stage}
use Rattle.lfm_condvar_laws.proofs.mutex.MutexMoves.{MutexMoves, step_moves, begin_moves, seat_after, step_is_made}
use Rattle.lfm_condvar_laws.proofs.mutex.OwnSeat.{outside_unclaimed, sends_unclaimed, waits_unclaimed, at_rest, step_outside, made_sending, begin_outside}
use Rattle.lfm_condvar_laws.proofs.points.ReceivePoints.{receives_unclaimed, receives_unstarted, step_receives, begin_receives}
use Rattle.lfm_condvar_laws.proofs.points.WaitPoints.{stays_starting}
use Rattle.lfm_condvar_laws.proofs.mutex.WakeWords.{rests_unwaiting}

-- Seats that do not wait

-- a wait that has added its ticket
abbrev pub has_ticket : Stage → Bool
has_ticket (starting v ticket) = true
has_ticket (receiving v ticket) = true
has_ticket _ = false

pub not_pending : (k : CondvarCore) (s v ticket : ℕ) (d : Stage) → k.stage s ≡ d → has_ticket d ≡ false → IsPending k v ticket s → ⊥
not_pending k s v ticket d stage none (inl starts) = false≢true (sym none ∙ ap has_ticket (sym stage ∙ starts))
not_pending k s v ticket d stage none (inr waits) = false≢true (sym none ∙ ap has_ticket (sym stage ∙ waits.0))

is_none : (d : Stage) → is_outside d ≡ true → d ≡ outside
is_none outside e = refl
is_none _ e = absurd (false≢true e)

-- nothing has changed
pub stays : (k : CondvarCore) (g : CondvarGhost) → CoreFits k g → CondvarOutcome k g []
stays k g fits = record { to = g; fits = fits; history = λ v. append_none _ }

-- Outside of condvars

pub at_begins : (k : CondvarCore) (g : CondvarGhost) (s : ℕ) (call : Call) → CoreFits k g → CondvarOutcome (begins_call k s call) g []
at_begins k g s call fits =
    elim (cases_Bool (is_outside (k.stage s) && is_own_call call)) [
      | inr not ↦ rw not (stays k g fits)
      | inl both ↦
          let parts = and_parts _ _ both in
          let stage = is_none (k.stage s) parts.0 in
          let own : is_of_condvar (point_of k s) ≡ false = rw stage at (fits.stages s) in
          let m = begin_moves k.mutex g.mutex s call fits.mutex in
          rw both (quiet_outcome _ g m.to (moves_mutex k g (begin k.mutex s call).core s fits m
          (rw stage (begin_outside k.mutex s call parts.1 own))))
    ]

pub at_outside : (k : CondvarCore) (g : CondvarGhost) (s : ℕ) → CoreFits k g → k.stage s ≡ outside → CondvarOutcome (mutex_steps k s) g []
at_outside k g s fits stage =
    let own : is_of_condvar (point_of k s) ≡ false = rw stage at (fits.stages s) in
    let m = step_moves k.mutex g.mutex s (outside_unclaimed (point_of k s) own) fits.mutex in
    quiet_outcome _ g m.to (moves_mutex k g (step k.mutex s).core s fits m (rw stage (step_outside k.mutex s own)))

-- Calls on condvars begin

pub at_waits : (k : CondvarCore) (g : CondvarGhost) (s v : ℕ) → CoreFits k g → CondvarOutcome (begins_wait k s v) g []
at_waits k g s v fits =
    elim (cases_Bool (is_outside (k.stage s) && is_open (begin k.mutex s StartWait).turn)) [
      | inr not ↦ rw not (stays k g fits)
      | inl both ↦
          let parts = and_parts _ _ both in
          let stage = is_none (k.stage s) parts.0 in
          rw both (stays (put_stage k s (locking_to_wait v)) g
          (moves_stage k g s (locking_to_wait v) fits parts.1 (λ w ticket unclaimed pending.
          absurd (not_pending k s w ticket outside stage refl pending))))
    ]

pub at_wakes : (k : CondvarCore) (g : CondvarGhost) (s v : ℕ) (all : Bool) → CoreFits k g → CondvarOutcome (begins_wake k s v all) g []
at_wakes k g s v all fits =
    elim (cases_Bool (is_outside (k.stage s) && (is_seat k.mutex.seats s && is_rest (point_of k s)))) [
      | inr not ↦ rw not (stays k g fits)
      | inl both ↦
          let parts = and_parts _ _ both in
          let rests = and_parts _ _ parts.1 in
          let stage = is_none (k.stage s) parts.0 in
          rw both (stays (put_stage k s (locking_to_wake v all)) g (moves_stage k g s (locking_to_wake v all) fits
          (record { is = seat_of_test k.mutex.seats s rests.0; at = at_rest (point_of k s) rests.1 }) (λ w ticket unclaimed pending.
          absurd (not_pending k s w ticket outside stage refl pending))))
    ]

-- Steps inside of calls on condvars

locks_stay : (k : CondvarCore) (d : Core) (s v : ℕ) → MutexMoves k.mutex d s → Locks k s v → Locks (put_mutex k d) s v
locks_stay k d s v m locks = record { is = seat_after k.mutex d s s m.leaves locks.is; holds = locks.holds }

pub starting_steps : (k : CondvarCore) (g : CondvarGhost) (s v ticket : ℕ) → CoreFits k g → k.stage s ≡ starting v ticket
    → StartingFits k g s v ticket
    → waits_at (point_of k s) ≡ true → CondvarOutcome (mutex_steps k s) g []
starting_steps k g s v ticket fits stage own waits =
    let m = step_moves k.mutex g.mutex s (waits_unclaimed (point_of k s) waits) fits.mutex in
    quiet_outcome _ g m.to (moves_mutex k g (step k.mutex s).core s fits m (rw stage (record {
      locks = locks_stay k (step k.mutex s).core s v m own.locks;
      given = own.given;
      last = own.last;
      pending = own.pending;
      unclaimed = own.unclaimed;
      at = rw (step_is_made k.mutex s own.locks.is) (stays_starting k.mutex g.mutex s waits own.locks.is fits.mutex);
    })))

pub sending_steps : (k : CondvarCore) (g : CondvarGhost) (s v : ℕ) (all : Bool) (oldest : Waiter) → CoreFits k g
    → k.stage s ≡ sending v all oldest → SendingFits k g s v
    → CondvarOutcome (mutex_steps k s) g []
sending_steps k g s v all oldest fits stage own =
    let m = step_moves k.mutex g.mutex s (sends_unclaimed (point_of k s) own.at) fits.mutex in
    quiet_outcome _ g m.to (moves_mutex k g (step k.mutex s).core s fits m (rw stage (record {
      locks = locks_stay k (step k.mutex s).core s v m own.locks;
      claimed = own.claimed;
      pending = own.pending;
      at = rw (step_is_made k.mutex s own.locks.is) (made_sending k.mutex s own.locks.is own.at);
    })))

receiving_stays : (k : CondvarCore) (g : CondvarGhost) (d : Core) (s v ticket : ℕ) → (m : MutexMoves k.mutex d s)
    → ReceivingFits k g s v ticket
    → comes_to_hold (seat d.seats s) ≡ true → ReceivingFits (put_mutex k d) (with_mutex g m.to) s v ticket
receiving_stays k g d s v ticket m own at =
    record {
      given = own.given;
      some = own.some;
      within = own.within;
      waits = λ unclaimed. m.waits s (own.waits unclaimed);
      sent = λ claimed word.
          own.sent claimed (m.waited s (inr (receives_unstarted (seat k.mutex.seats s).depth (point_of k s) own.at)) word);
      at = at;
    }

receiving_steps : (k : CondvarCore) (g : CondvarGhost) (s v ticket : ℕ) → CoreFits k g → k.stage s ≡ receiving v ticket
    → ReceivingFits k g s v ticket
    → CondvarOutcome (mutex_steps k s) g []
receiving_steps k g s v ticket fits stage own =
    let m = step_moves k.mutex g.mutex s (receives_unclaimed (seat k.mutex.seats s).depth (point_of k s) own.at) fits.mutex in
    quiet_outcome _ g m.to (moves_mutex k g (step k.mutex s).core s fits m
    (rw stage (receiving_stays k g (step k.mutex s).core s v ticket m own (step_receives k.mutex s own.at))))

-- a wait that holds was claimed
rests_unpending : (k : CondvarCore) (g : CondvarGhost) (s v ticket w y : ℕ) → CoreFits k g → k.stage s ≡ receiving v ticket
    → point_of k s ≡ Rest → IsPending k w y s → ⊥
rests_unpending k g s v ticket w y fits stage at (inl starts) =
    let clash : receiving v ticket ≡ starting w y = sym stage ∙ starts in cc
rests_unpending k g s v ticket w y fits stage at (inr waits) = rests_unwaiting k.mutex g.mutex s fits.mutex at waits.1

pub at_receiving : (k : CondvarCore) (g : CondvarGhost) (s v ticket : ℕ) (p : Point) → CoreFits k g → k.stage s ≡ receiving v ticket
    → ReceivingFits k g s v ticket
    → point_of k s ≡ p → CondvarOutcome (receives_at k s p) g []
at_receiving k g s v ticket Rest fits stage own at =
    stays (put_stage k s outside) g (moves_stage k g s outside fits
    (rw at refl)
    (λ w y unclaimed pending. absurd (rests_unpending k g s v ticket w y fits stage at pending)))
at_receiving k g s v ticket (Asleep sleeper) fits stage own at =
    let m = begin_moves k.mutex g.mutex s Receive fits.mutex in
    quiet_outcome _ g m.to (moves_mutex k g (begin k.mutex s Receive).core s fits m
    (rw stage (receiving_stays k g (begin k.mutex s Receive).core s v ticket m own (begin_receives k.mutex s sleeper at own.at))))
at_receiving k g s v ticket _ fits stage own at = receiving_steps k g s v ticket fits stage own
