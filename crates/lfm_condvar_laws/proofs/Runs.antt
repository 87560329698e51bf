-- Every event keeps a state fitting. So each run reaches a state that fits, with the claims that its ghost has.
use Rattle.std.proofs.Common.{◌≡◌, ℕ, zero, suc, replicate, Bool, false, List, [], ◌∷◌, ◌++◌, nat_eq, refl, sym, ap, ◌∙◌, inl, inr, arith, append_assoc}
use Rattle.std.proofs.lemmas.Bool.{cases_Bool}
use Rattle.lfm_protocol.specs.declared.limits.Limits.{Limits}
use Rattle.lfm_laws.specs.steady.Ghost.{Ghost}
use Rattle.lfm_protocol.specs.Seats.{entry, absent}
use Rattle.lfm_laws.specs.steady.Steady.{Fits}
use Rattle.lfm_protocol.specs.Step.{start}
use Rattle.lfm_laws.proofs.steady.Start.{start_steady, few_seats}
use Rattle.lfm_condvar_laws.specs.Condvars.{Stage, outside, locking_to_wait, starting, receiving, locking_to_wake, claiming, sending, unlocking, CondvarCore, point_of, condvar_start}
use Rattle.lfm_condvar_laws.specs.Claims.{Claim, claimed_at, claimed_in, claim_record, claims_on}
use Rattle.lfm_condvar_laws.specs.Events.{CondvarEvent, begins, waits, wakes, makes, goes_on, happens, run_of}
use Rattle.lfm_condvar_laws.specs.Laws.{CondvarRun, reached_by, claims_of}
use Rattle.lfm_condvar_laws.proofs.events.AppendEvent.{at_locking_to_wait}
use Rattle.lfm_condvar_laws.proofs.Outcomes.{CondvarOutcome, append_none}
use Rattle.lfm_condvar_laws.proofs.events.ClaimEvent.{at_claiming}
use Rattle.lfm_condvar_laws.proofs.events.MutexEvents.{at_begins, at_waits, at_wakes, at_outside, starting_steps, sending_steps, at_receiving}
use Rattle.lfm_condvar_laws.proofs.Invariant.{CondvarGhost, is_of_condvar, StartsAt, StartingFits, SendingFits, StageFits, CoreFits, claims_told}
use Rattle.lfm_condvar_laws.proofs.events.LockEvents.{wait_gives_back, at_unlocking, at_locking_to_wake, at_removes}
use Rattle.lfm_condvar_laws.proofs.mutex.OwnSeat.{waits_in_call}
use Rattle.lfm_laws.specs.laws.Schedules.{is_call}

-- Steps of calls

at_starting : (k : CondvarCore) (g : CondvarGhost) (s v ticket : ℕ) → CoreFits k g → k.stage s ≡ starting v ticket
    → StartingFits k g s v ticket → StartsAt k.mutex s
    → CondvarOutcome (goes_on k s (starting v ticket)) g []
at_starting k g s v ticket fits stage own (inl at) =
    rw (waits_in_call (point_of k s) at) (starting_steps k g s v ticket fits stage own at)
at_starting k g s v ticket fits stage own (inr sleeps) =
    let over : is_call (point_of k s) ≡ false = rw sleeps.0 refl in
    rw over (wait_gives_back k g s v ticket fits stage own sleeps.0 sleeps.1)

at_sending : (k : CondvarCore) (g : CondvarGhost) (s v : ℕ) (all : Bool) (oldest : _) → CoreFits k g
    → k.stage s ≡ sending v all oldest → SendingFits k g s v
    → CondvarOutcome (goes_on k s (sending v all oldest)) g []
at_sending k g s v all oldest fits stage own =
    elim (cases_Bool (is_call (point_of k s))) [
      | inl inside ↦ rw inside (sending_steps k g s v all oldest fits stage own)
      | inr over ↦ rw over (at_removes k g s v all oldest fits stage own over)
    ]

step_outcome : (k : CondvarCore) (g : CondvarGhost) (s : ℕ) (d : Stage) → CoreFits k g → k.stage s ≡ d → StageFits k g s d
    → CondvarOutcome (goes_on k s d) g (claimed_at k s d)
step_outcome k g s outside fits stage own = at_outside k g s fits stage
step_outcome k g s (locking_to_wait v) fits stage own = at_locking_to_wait k g s v fits stage
step_outcome k g s (starting v ticket) fits stage own = at_starting k g s v ticket fits stage own own.at
step_outcome k g s (receiving v ticket) fits stage own = at_receiving k g s v ticket (point_of k s) fits stage own refl
step_outcome k g s (locking_to_wake v all) fits stage own = at_locking_to_wake k g s v all fits stage own
step_outcome k g s (claiming v all oldest) fits stage own = at_claiming k g s v all oldest fits stage own
step_outcome k g s (sending v all oldest) fits stage own = at_sending k g s v all oldest fits stage own
step_outcome k g s (unlocking v) fits stage own = at_unlocking k g s v fits stage own

-- every event keeps a state fitting. By cases on the event
pub event_outcome : (k : CondvarCore) (g : CondvarGhost) (e : CondvarEvent) → CoreFits k g
    → CondvarOutcome (happens k e) g (claimed_in k e)
event_outcome k g (begins s call) fits = at_begins k g s call fits
event_outcome k g (waits s v) fits = at_waits k g s v fits
event_outcome k g (wakes s v all) fits = at_wakes k g s v all fits
event_outcome k g (makes s) fits = step_outcome k g s (k.stage s) fits refl (fits.stages s)

-- Runs

pub claims_on-append : (v : ℕ) (first later : List Claim) → claims_on v (first ++ later) ≡ claims_on v first ++ claims_on v later
claims_on-append v [] later = refl
claims_on-append v (x ∷ rest) later =
    elim (cases_Bool (nat_eq x.condvar v)) [
      | inl same ↦ rw same (ap (λ those. record { seat = x.seat; ticket = x.ticket } ∷ those) (claims_on-append v rest later))
      | inr other ↦ rw other (claims_on-append v rest later)
    ]

pub run_outcome : (k : CondvarCore) (g : CondvarGhost) (events : List CondvarEvent) → CoreFits k g
    → CondvarOutcome (run_of k events) g (claim_record k events)
run_outcome k g [] fits = record { to = g; fits = fits; history = λ v. append_none (claims_told g v) }
run_outcome k g (e ∷ later) fits =
    let one = event_outcome k g e fits in
    let rest = run_outcome (happens k e) one.to later one.fits in
    record {
      to = rest.to;
      fits = rest.fits;
      history = λ v.
          let claims = claim_record (happens k e) later in
          rest.history v ∙ ap (λ those. those ++ claims_on v claims) (one.history v)
          ∙ append_assoc (claims_told g v) (claims_on v (claimed_in k e)) (claims_on v claims)
          ∙ ap (λ those. claims_told g v ++ those) (sym (claims_on-append v (claimed_in k e) claims));
    }

-- The start

entry_replicate : {A : Type 0} (d : A) (n s : ℕ) → entry d (replicate n d) s ≡ d
unfolding entry
entry_replicate d n zero = refl
entry_replicate d zero (suc s) = refl
entry_replicate d (suc n) (suc zero) = refl
entry_replicate d (suc n) (suc (suc s)) = entry_replicate d n (suc s)

abbrev pub start_ghost : Ghost → CondvarGhost
start_ghost m = record { mutex = m; given = λ v ticket. 0; claimed = λ v. 0 }

pub start_fits : (limits : Limits) (m : Ghost) → Fits (start limits) m → CoreFits (condvar_start limits) (start_ghost m)
start_fits limits m fits =
    record {
      mutex = fits;
      condvars = λ v. record {
        order = omega arith;
        counted = omega arith;
        waiters = refl;
        free = λ e. refl;
        pending = λ ticket above within. absurd
            (omega (arith, above, within));
      };
      stages = λ s. ap (λ x. is_of_condvar x.point) (entry_replicate absent limits.seats s);
    }

-- what a run reaches: a state that fits, with its ghost
pub record Reached (r : CondvarRun) : Type 0 where
  pub ghost_state : CondvarGhost
  pub fits : CoreFits (reached_by r) ghost_state
  pub history : (v : ℕ) → claims_told ghost_state v ≡ claims_of r v

pub run_reaches : (r : CondvarRun) → Reached r
run_reaches r =
    let l = r.limits in
    let begun = start_steady l (few_seats l.seats l.budget r.allowed) in
    let goes = run_outcome (condvar_start l) (start_ghost begun.ghost_state) r.events (start_fits l begun.ghost_state begun.fits) in
    record {
      ghost_state = goes.to;
      fits = goes.fits;
      history = goes.history;
    }
