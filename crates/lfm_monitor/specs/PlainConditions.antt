-- How `wait`, `wait_within` and the wakes end, on a plain condition of the monitor. The pass's seat has the sight s before and
-- t after; its plain seats are cs before and ds after. The mutex of the monitor has the limits `user`, and each of its
-- conditions the limits `own`. A pass makes at most `tries` tries before it queues, for the list of a condition and for the
-- monitor. It may write `share` entries, and take the monitor that many times. The monitor has `count` plain conditions.
use Rattle.std.specs.Prelude.{◌≡◌, ◌⊎◌, ℕ, ◌+◌, ◌<◌, List, false, slice_set, Option, Result, Ok, Err}
use mathlib.Core.Option.{some}
use lib.ListN.{get_elem?}
use Rattle.lfm_model.specs.declared.answers.How.{How}
use Rattle.lfm_model.specs.declared.journals.What.TheVariants.{Took}
use Rattle.lfm_model.specs.declared.refusals.Refusal.{Refusal}
use Rattle.lfm_protocol.specs.declared.limits.Limits.{Limits}
use Rattle.lfm_mutex.specs.calls.Sight.{Sight, sight}
use Rattle.lfm_plain_condvar.specs.declared.plain_seat.PlainSeat.{PlainSeat}
use Rattle.lfm_plain_condvar.specs.declared.wait_for.Waited.{Waited}
use Rattle.lfm_plain_condvar.specs.Belongs.{NotifiesNobody}
use Rattle.lfm_plain_condvar.specs.Waits.{FindsFull, WaitWithHowEnds, WaitWithinEnds}
use Rattle.lfm_plain_condvar.specs.Wakes.{WakeAllEnds, WakeOneWithNumberEnds}
use Rattle.lfm_monitor.specs.declared.journaled.Journaled.{Journaled}
use Rattle.lfm_monitor.specs.Conditions.{Adds, IsMissing, MayWait, WaitRefused, WakeRefused}
use Rattle.lfm_monitor.specs.Journaled.{JournalFits, JournalFollows}

-- the plain seat c of this condition is now d, and was used in this way; those of the other conditions are as before
abbrev pub OnPlain : ℕ → List PlainSeat → List PlainSeat → (PlainSeat → PlainSeat → Type 0) → Type 0
OnPlain condition cs ds used =
    (n : ℕ) × (c : PlainSeat) × (d : PlainSeat) × (condition ≡ n + 1) × (get_elem? cs n ≡ some c) × (ds ≡ slice_set cs n d) × used c d

-- how a wait ended, as its ticket
abbrev pub ticket_in : Waited → ℕ
ticket_in (Waited.Woken ticket) = ticket
ticket_in (Waited.TimedOut ticket) = ticket

-- the same for an answer or a refusal
abbrev pub ticket_of : Result (How × Waited) Refusal → Result (How × ℕ) Refusal
ticket_of (Ok r) = Ok (r.0, ticket_in r.1)
ticket_of (Err r) = Err r

module _ {O A R : Type 0} {K : _} where
  -- why a wait is refused that needs this number of takes of the plain seat
  abbrev pub PlainWaitRefused : Limits → ℕ → ℕ → ℕ → ℕ → ℕ → List PlainSeat → List PlainSeat → Sight (Journaled O A R K) → Sight (Journaled O A R K) → ℕ → Refusal → Type 0
  PlainWaitRefused own needs tries share count condition cs ds s t mine Refusal.NoSuchSeat = MayWait share s mine × IsMissing count condition × (ds ≡ cs) × (t ≡ s)
  PlainWaitRefused own needs tries share count condition cs ds s t mine Refusal.Spent =
      (WaitRefused share s mine Refusal.Spent × (ds ≡ cs) ⊎ (MayWait share s mine × OnPlain condition cs ds (λ c d. (own.budget < (sight c.seat).takes + needs) × (sight d.seat ≡ sight c.seat)))) × (t ≡ s)
  PlainWaitRefused own needs tries share count condition cs ds s t mine Refusal.Busy =
      MayWait share s mine × OnPlain condition cs ds (λ c d. FindsFull own tries (sight c.seat) (sight d.seat)) × (t ≡ s)
  PlainWaitRefused own needs tries share count condition cs ds s t mine r = WaitRefused share s mine r × (ds ≡ cs) × (t ≡ s)

  -- How wait ends. Between s and t the pass has the sight m: it waited as on a plain condvar, and then its take was written
  abbrev pub PlainWaitEnds : Limits → Limits → ℕ → ℕ → ℕ → ℕ → List PlainSeat → List PlainSeat → Sight (Journaled O A R K) → Sight (Journaled O A R K) → ℕ → Result (How × ℕ) Refusal → Type 0
  PlainWaitEnds user own tries share count condition cs ds s t mine (Ok r) =
      MayWait share s mine × OnPlain condition cs ds (λ c d. NotifiesNobody c d
      × ((m : Sight (Journaled O A R K)) × WaitWithHowEnds JournalFollows JournalFits user own tries tries (sight c.seat) (sight d.seat) s m (Ok r) × Adds (Took r.0) m t))
  PlainWaitEnds user own tries share count condition cs ds s t mine (Err r) = PlainWaitRefused own 1 tries share count condition cs ds s t mine r

  -- the same for wait_within, whose wait may have timed out
  abbrev pub PlainWaitWithinEnds : Limits → Limits → ℕ → ℕ → ℕ → ℕ → List PlainSeat → List PlainSeat → Sight (Journaled O A R K) → Sight (Journaled O A R K) → ℕ → Result (How × Waited) Refusal → Type 0
  PlainWaitWithinEnds user own tries share count condition cs ds s t mine (Ok r) =
      MayWait share s mine × OnPlain condition cs ds (λ c d. NotifiesNobody c d
      × ((m : Sight (Journaled O A R K)) × WaitWithinEnds JournalFollows JournalFits user own tries tries (sight c.seat) (sight d.seat) s m (Ok r) × Adds (Took r.0) m t))
  PlainWaitWithinEnds user own tries share count condition cs ds s t mine (Err r) = PlainWaitRefused own 2 tries share count condition cs ds s t mine r

  -- how wake_one ends: it notifies the pass that has waited longest
  abbrev pub PlainWakeOneEnds : Limits → ℕ → ℕ → ℕ → List PlainSeat → List PlainSeat → Sight (Journaled O A R K) → Sight (Journaled O A R K) → Result (Option (ℕ × ℕ)) Refusal → Type 0
  PlainWakeOneEnds own tries count condition cs ds s t (Err Refusal.Asleep) = WakeRefused count condition s Refusal.Asleep × (ds ≡ cs) × (t ≡ s)
  PlainWakeOneEnds own tries count condition cs ds s t (Err Refusal.NoSuchSeat) = WakeRefused count condition s Refusal.NoSuchSeat × (ds ≡ cs) × (t ≡ s)
  PlainWakeOneEnds own tries count condition cs ds s t r = (s.asleep ≡ false) × OnPlain condition cs ds (λ c d. WakeOneWithNumberEnds own tries c d r) × (t ≡ s)

  -- how wake_all ends: it notifies all that wait
  abbrev pub PlainWakeAllEnds : Limits → ℕ → ℕ → ℕ → List PlainSeat → List PlainSeat → Sight (Journaled O A R K) → Sight (Journaled O A R K) → Result ℕ Refusal → Type 0
  PlainWakeAllEnds own tries count condition cs ds s t (Err Refusal.Asleep) = WakeRefused count condition s Refusal.Asleep × (ds ≡ cs) × (t ≡ s)
  PlainWakeAllEnds own tries count condition cs ds s t (Err Refusal.NoSuchSeat) = WakeRefused count condition s Refusal.NoSuchSeat × (ds ≡ cs) × (t ≡ s)
  PlainWakeAllEnds own tries count condition cs ds s t r = (s.asleep ≡ false) × OnPlain condition cs ds (λ c d. WakeAllEnds own tries c d r) × (t ≡ s)
