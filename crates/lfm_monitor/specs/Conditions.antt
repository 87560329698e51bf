-- How `wait` and the wakes end, on a condition of the monitor. The pass's seat has the sight s before and t after; its cond
-- seats are cs before and ds after. The mutex of the monitor has the limits `user`, and each of its conditions the limits
-- `own`. A pass makes at most `tries` tries before it queues for the list of a condition. It may write `share` entries, and
-- take the monitor that many times.
use Rattle.std.specs.Prelude.{◌≡◌, ◌⊎◌, ℕ, ◌+◌, ◌<◌, ◌≤◌, List, [], ◌∷◌, ◌++◌, length, true, false, slice_set, Option, Some, Result, Ok, Err}
use mathlib.Core.Option.{some}
use lib.ListN.{get_elem?}
use Rattle.lfm_model.specs.declared.answers.How.{How}
use Rattle.lfm_model.specs.declared.journals.What.{What}
use Rattle.lfm_model.specs.declared.journals.What.TheVariants.{Took}
use Rattle.lfm_model.specs.declared.refusals.Refusal.{Refusal}
use Rattle.lfm_model.specs.Journals.{entry}
use Rattle.lfm_protocol.specs.declared.limits.Limits.{Limits}
use Rattle.lfm_mutex.specs.calls.Sight.{Sight}
use Rattle.lfm_condvar.specs.declared.cond_seat.CondSeat.{CondSeat}
use Rattle.lfm_condvar.specs.declared.waiters.Waiters.{Waiters}
use Rattle.lfm_condvar.specs.Belongs.{cond_sight}
use Rattle.lfm_condvar.specs.Waits.{WaitEnds as CondWaitEnds}
use Rattle.lfm_condvar.specs.Wakes.{WakeOneEnds as CondWakeOneEnds, WakeAllEnds as CondWakeAllEnds}
use Rattle.lfm_monitor.specs.declared.journaled.Journaled.{Journaled}
use Rattle.lfm_monitor.specs.Journaled.{JournalFits, JournalFollows, SameOpening}
use Rattle.lfm_monitor.specs.Passes.{Enters, journal_of}

-- the conditions are numbered 1 to count, and this number is none of them
abbrev pub IsMissing : ℕ → ℕ → Type 0
IsMissing count condition = condition ≡ 0 ⊎ (count < condition)

-- the cond seat of this condition, with the sight c before and d after, was used in this way; those of the other conditions are
-- as before
abbrev pub OnCondition : ℕ → List CondSeat → List CondSeat → (Sight Waiters → Sight Waiters → Type 0) → Type 0
OnCondition condition cs ds used =
    (n : ℕ) × (c : CondSeat) × (d : CondSeat) × (condition ≡ n + 1) × (get_elem? cs n ≡ some c) × (ds ≡ slice_set cs n d) × used (cond_sight c) (cond_sight d)

-- the cond seat has no take left, and has not changed
abbrev pub IsSpent : Limits → Sight Waiters → Sight Waiters → Type 0
IsSpent own c d = (own.budget ≤ c.takes) × (d ≡ c)

-- at most the trail of the seat and its list of sends have changed
abbrev pub OnlySends : {T : Type 0} → Sight T → Sight T → Type 0
OnlySends s t = t ≡ record s { trail = t.trail; sends = t.sends }

module _ {O A R : Type 0} {K : _} where
  -- this entry of the pass was written, and nothing else of its seat has changed
  abbrev pub Adds : What A → Sight (Journaled O A R K) → Sight (Journaled O A R K) → Type 0
  Adds what s t =
      (v : Journaled O A R K) × (w : Journaled O A R K) × (s.value ≡ Some v) × (t ≡ record s { value = Some w }) × (w.journal.items ≡ v.journal.items ++ entry s.number what ∷ [])
      × SameOpening v w

  -- the pass may wait: it holds once, and has a take and an entry left
  abbrev pub MayWait : ℕ → Sight (Journaled O A R K) → ℕ → Type 0
  MayWait share s mine = (s.asleep ≡ false) × (s.depth ≡ 1) × (s.takes < share) × (mine < share)

  -- why the pass may not wait, on any condition
  abbrev pub WaitRefused : ℕ → Sight (Journaled O A R K) → ℕ → Refusal → Type 0
  WaitRefused share s mine Refusal.Asleep = s.asleep ≡ true
  WaitRefused share s mine Refusal.NotOwner = (s.asleep ≡ false) × (s.depth ≡ 0)
  WaitRefused share s mine Refusal.Nested = (s.asleep ≡ false) × (1 < s.depth)
  WaitRefused share s mine Refusal.Spent = (s.asleep ≡ false) × (s.depth ≡ 1) × (share ≤ s.takes ⊎ (share ≤ mine))
  WaitRefused share s mine _ = ⊥

  -- How wait ends, for a pass with this number of entries. Between s and t it has the sight m: it waited as on a condvar, and
  -- then its take was written
  abbrev pub WaitEnds : Limits → Limits → ℕ → ℕ → ℕ → ℕ → List CondSeat → List CondSeat → Sight (Journaled O A R K) → Sight (Journaled O A R K) → ℕ → Result (How × ℕ) Refusal → Type 0
  WaitEnds user own tries share count condition cs ds s t mine (Ok r) =
      MayWait share s mine × OnCondition condition cs ds (λ c d. (m : Sight (Journaled O A R K)) × CondWaitEnds JournalFollows JournalFits user own tries c d s m (Ok r) × Adds (Took r.0) m t)
  WaitEnds user own tries share count condition cs ds s t mine (Err Refusal.NoSuchSeat) = MayWait share s mine × IsMissing count condition × (ds ≡ cs) × (t ≡ s)
  WaitEnds user own tries share count condition cs ds s t mine (Err Refusal.Spent) =
      (WaitRefused share s mine Refusal.Spent × (ds ≡ cs) ⊎ (MayWait share s mine × OnCondition condition cs ds (IsSpent own))) × (t ≡ s)
  WaitEnds user own tries share count condition cs ds s t mine (Err Refusal.Busy) =
      MayWait share s mine × OnCondition condition cs ds (λ c d. CondWaitEnds JournalFollows JournalFits user own tries c d s t (Err Refusal.Busy))
  WaitEnds user own tries share count condition cs ds s t mine (Err r) = WaitRefused share s mine r × (ds ≡ cs) × (t ≡ s)

  -- What a wait does to its pass: the pass leaves, and acquires the monitor again. A refusal leaves it as it was
  abbrev pub WaitReturns : Sight (Journaled O A R K) → Sight (Journaled O A R K) → ℕ → ℕ → ℕ → ℕ → Result (How × ℕ) Refusal → Type 0
  WaitReturns s t seen seen' mine mine' (Ok r) =
      (s.asleep ≡ false) × (s.depth ≡ 1) × (t.number ≡ s.number) × (t.depth ≡ 1) × (t.asleep ≡ false) × (t.takes ≡ s.takes + 1) × (seen' ≡ length (journal_of s)) × (mine' ≡ mine + 1)
      × Enters r.0 s t
  WaitReturns s t seen seen' mine mine' (Err r) = (t ≡ s) × (seen' ≡ seen) × (mine' ≡ mine)

  -- why a wake is refused before anything is changed
  abbrev pub WakeRefused : ℕ → ℕ → Sight (Journaled O A R K) → Refusal → Type 0
  WakeRefused count condition s Refusal.Asleep = s.asleep ≡ true
  WakeRefused count condition s Refusal.NoSuchSeat = (s.asleep ≡ false) × IsMissing count condition
  WakeRefused count condition s _ = ⊥

  -- how wake_one ends, for a monitor with n passes
  abbrev pub WakeOneEnds : ℕ → Limits → ℕ → ℕ → ℕ → List CondSeat → List CondSeat → Sight (Journaled O A R K) → Sight (Journaled O A R K) → Result (Option (ℕ × ℕ)) Refusal → Type 0
  WakeOneEnds n own tries count condition cs ds s t (Err Refusal.Asleep) = WakeRefused count condition s Refusal.Asleep × (ds ≡ cs) × (t ≡ s)
  WakeOneEnds n own tries count condition cs ds s t (Err Refusal.NoSuchSeat) = WakeRefused count condition s Refusal.NoSuchSeat × (ds ≡ cs) × (t ≡ s)
  WakeOneEnds n own tries count condition cs ds s t r = OnCondition condition cs ds (λ c d. CondWakeOneEnds n own tries c d s t r)

  -- how wake_all ends, for a monitor with n passes
  abbrev pub WakeAllEnds : ℕ → Limits → ℕ → ℕ → ℕ → List CondSeat → List CondSeat → Sight (Journaled O A R K) → Sight (Journaled O A R K) → Result ℕ Refusal → Type 0
  WakeAllEnds n own tries count condition cs ds s t (Err Refusal.Asleep) = WakeRefused count condition s Refusal.Asleep × (ds ≡ cs) × (t ≡ s)
  WakeAllEnds n own tries count condition cs ds s t (Err Refusal.NoSuchSeat) = WakeRefused count condition s Refusal.NoSuchSeat × (ds ≡ cs) × (t ≡ s)
  WakeAllEnds n own tries count condition cs ds s t r = OnCondition condition cs ds (λ c d. CondWakeAllEnds n own tries c d s t r)
