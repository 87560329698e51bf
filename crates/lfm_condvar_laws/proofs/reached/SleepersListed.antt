-- No seat that sleeps is lost: each seat whose wake word is WAITING is in the list of a condvar. By cases on the stage of its
-- call.
use Rattle.std.proofs.Common.{◌≡◌, ℕ, true, false, refl, sym, ap, ◌∙◌, inl, inr, arith}
use Rattle.std.proofs.lemmas.Bool.{cases_Bool, cases_lt, false≢true}
use Rattle.lfm_words.specs.declared.wakes.Wake.TheVariants.{Waiting}
use Rattle.lfm_protocol.specs.declared.answers.Call.TheVariants.{StartWait}
use Rattle.lfm_protocol.specs.declared.points.Point.{Point}
use Rattle.lfm_protocol.specs.declared.points.Point.TheVariants.{Asleep, ReceiveWakeLoad}
use Rattle.lfm_protocol.specs.declared.points.Sleeper.{Sleeper}
use Rattle.lfm_protocol.specs.Core.{Core}
use Rattle.lfm_protocol.specs.Seats.{seat, wake, is_seat}
use Rattle.lfm_protocol.specs.Step.{begin}
use Rattle.lfm_protocol.specs.Turns.{is_open}
use Rattle.lfm_laws.specs.steady.Steady.{sleeps_as_waiter}
use Rattle.lfm_condvar_laws.specs.Condvars.{Stage, outside, locking_to_wait, starting, receiving, locking_to_wake, claiming, sending, unlocking, CondvarCore, point_of}
use Rattle.lfm_condvar_laws.specs.Laws.{reached_by, IsListed, SleepersAreListed}
use Rattle.lfm_condvar_laws.proofs.Invariant.{CondvarGhost, sends_at, ReceivingFits, StageFits, CoreFits}
use Rattle.lfm_condvar_laws.proofs.Runs.{run_reaches}
use Rattle.lfm_condvar_laws.proofs.mutex.OwnSeat.{outside_awake}
use Rattle.lfm_condvar_laws.proofs.mutex.WakeWords.{waiting_tells}
use Rattle.lfm_condvar_laws.proofs.reached.ListOrder.{given_listed}

-- Seats that are awake

awake : (p : Point) → sleeps_as_waiter p ≡ true → sleeps_as_waiter p ≡ false → ⊥
awake p sleeps wakes = false≢true (sym wakes ∙ sleeps)

sends_awake : (p : Point) → sends_at p ≡ true → sleeps_as_waiter p ≡ false
sends_awake (Asleep sleeper) sends = absurd (false≢true sends)
sends_awake (ReceiveWakeLoad sleeper) sends = absurd (false≢true sends)
sends_awake _ sends = refl

-- a seat that may begin start_wait does not sleep
begins_awake : (c : Core) (s : ℕ) (p : Point) → (seat c.seats s).point ≡ p → sleeps_as_waiter p ≡ true
    → is_open (begin c s StartWait).turn ≡ true → ⊥
begins_awake c s (Asleep Sleeper.Waiter) at sleeps opens =
    elim (cases_Bool (is_seat c.seats s)) [
      | inl is ↦ false≢true (rw (is, at) at opens)
      | inr none ↦ false≢true (rw none at opens)
    ]
begins_awake c s (ReceiveWakeLoad Sleeper.Waiter) at sleeps opens =
    elim (cases_Bool (is_seat c.seats s)) [
      | inl is ↦ false≢true (rw (is, at) at opens)
      | inr none ↦ false≢true (rw none at opens)
    ]
begins_awake c s _ at sleeps opens = false≢true sleeps

-- Seats that are listed

-- a wait that has released the lock
receiving_listed : (k : CondvarCore) (g : CondvarGhost) (s v ticket : ℕ) → CoreFits k g → ReceivingFits k g s v ticket
    → wake k.mutex.wakes s ≡ Waiting → IsListed k s
receiving_listed k g s v ticket fits own word =
    elim (cases_lt (g.claimed v) ticket) [
      | inr claimed ↦ absurd (own.sent claimed word)
      | inl above ↦
          let counted = (fits.condvars v).counted in
          record {
            condvar = v;
            ticket = ticket;
            listed = given_listed k g v ticket s fits (omega (arith, above, counted)) own.within own.given;
          }
    ]

sleeper_listed : (k : CondvarCore) (g : CondvarGhost) (s : ℕ) (stage : Stage) → CoreFits k g → StageFits k g s stage
    → wake k.mutex.wakes s ≡ Waiting → sleeps_as_waiter (point_of k s) ≡ true → IsListed k s
sleeper_listed k g s outside fits own word sleeps = absurd (awake (point_of k s) sleeps (outside_awake (point_of k s) own))
sleeper_listed k g s (locking_to_wait v) fits own word sleeps = absurd (begins_awake k.mutex s (point_of k s) refl sleeps own)
sleeper_listed k g s (starting v ticket) fits own word sleeps =
    let last = own.last in
    record { condvar = v; ticket = ticket; listed = given_listed k g v ticket s fits own.pending (omega (arith, last)) own.given }
sleeper_listed k g s (receiving v ticket) fits own word sleeps = receiving_listed k g s v ticket fits own word
sleeper_listed k g s (locking_to_wake v all) fits own word sleeps =
    absurd (awake (point_of k s) sleeps (ap sleeps_as_waiter own.at))
sleeper_listed k g s (claiming v all oldest) fits own word sleeps =
    absurd (awake (point_of k s) sleeps (ap sleeps_as_waiter own.at))
sleeper_listed k g s (sending v all oldest) fits own word sleeps =
    absurd (awake (point_of k s) sleeps (sends_awake (point_of k s) own.at))
sleeper_listed k g s (unlocking v) fits own word sleeps = absurd (awake (point_of k s) sleeps (ap sleeps_as_waiter own.at))

pub sleepers_are_listed : SleepersAreListed
sleepers_are_listed r s word =
    let is = run_reaches r in
    let k = reached_by r in
    let waits = waiting_tells k.mutex is.ghost_state.mutex s is.fits.mutex word in
    sleeper_listed k is.ghost_state s (k.stage s) is.fits (is.fits.stages s) word waits.sleeps
