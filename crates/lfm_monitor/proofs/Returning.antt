-- A pass that waits: it leaves, sleeps, and acquires the monitor again.
use Rattle.std.proofs.Common.{◌≡◌, ⊎_elim, inr, ℕ, ◌+◌, ◌<◌, ◌≤◌, false, List, [], ◌∷◌, ◌++◌, length, Some, Ok, Err, refl, sym, ◌∙◌, ap, arith}
use Rattle.lfm_model.specs.declared.answers.How.{How}
use Rattle.lfm_model.specs.declared.answers.Unlocked.{Unlocked}
use Rattle.lfm_model.specs.declared.journals.What.TheVariants.{Took}
use Rattle.lfm_model.specs.declared.refusals.Refusal.{Refusal}
use Rattle.lfm_model.specs.Journals.{entry, own}
use Rattle.lfm_protocol.specs.declared.limits.Limits.{Limits}
use Rattle.lfm_mutex.specs.declared.seat.Seat.{Seat}
use Rattle.lfm_mutex.specs.calls.Sight.{Sight, sight, StartsWait as MutexWaits}
use Rattle.lfm_condvar.specs.declared.cond_seat.CondSeat.{CondSeat}
use Rattle.lfm_condvar.specs.declared.waiters.Waiters.{Waiters}
use Rattle.lfm_condvar.specs.Waits.{WaitEnds as CondWaitEnds}
use Rattle.lfm_monitor.specs.declared.journaled.Journaled.{Journaled}
use Rattle.lfm_monitor.specs.Journaled.{JournalFits, JournalFollows}
use Rattle.lfm_monitor.specs.Passes.{PassKept, Began, Enters, journal_of}
use Rattle.lfm_monitor.specs.Conditions.{MayWait, OnCondition, WaitEnds, WaitReturns}
use Rattle.lfm_monitor.specs.Writes.{Writes}
use Rattle.lfm_monitor.proofs.Knowing.{Comes, arrived, left_it, left_journal, left_length, left_of, woken}

module _ {O A R : Type 0} {K : _} where
  -- a pass that fell asleep on a condition and holds again: it has the sight m while it sleeps, and t after that
  pub record SleepsAndComes (how : How) (s m t : Sight (Journaled O A R K)) (n mine : ℕ) (opening : O) (seats share : ℕ) : Type 0 where
    pub kept : PassKept m n mine
    pub of : Began opening seats share m
    pub number : m.number ≡ s.number
    pub takes : t.takes ≡ s.takes + 1
    pub journal : journal_of m ≡ journal_of s
    pub comes : Comes how m t

  slept : (u : Unlocked) (budget : ℕ) (s m : Sight (Journaled O A R K)) (seen mine n : ℕ) (opening : O) (seats share : ℕ) → PassKept s seen mine → Began opening seats share s → mine < share → MutexWaits budget s m (Ok u)
      → ((v : Journaled O A R K) → s.value ≡ Some v → n ≡ length v.journal.items) → PassKept m n mine
  slept u budget s m seen mine n opening seats share kept of room w long = left_it s m seen mine n kept w.1
      (λ z. record { out = w.1.3; quiet = w.5; room = λ l at. let e = (left_of opening seats share s m seen mine kept of w.1 l at).2 in omega arith }) long

  -- what the condvar's wait states about the pass
  pub waited : (user own : Limits) (tries : ℕ) (c d : Sight Waiters) (s t : Sight (Journaled O A R K)) (r : How × ℕ) (seen mine n : ℕ) (opening : O) (seats share : ℕ) → PassKept s seen mine → Began opening seats share s → mine < share
      → ((v : Journaled O A R K) → s.value ≡ Some v → n ≡ length v.journal.items) → CondWaitEnds JournalFollows JournalFits user own tries c d s t (Ok r)
      → (m : Sight (Journaled O A R K)) × SleepsAndComes r.0 s m t n mine opening seats share
  waited user own tries c d s t r seen mine n opening seats share kept of room long h = let m = h.0 in let w = h.1.3.2.1 in let back = h.2.0 in let in_sleep = slept h.1.3.2.0 user.budget s m seen mine n opening seats share kept of room w long in (
    m,
    record {
      kept = in_sleep;
      of = left_of opening seats share s m seen mine kept of w.1;
      number = w.1.2;
      takes = back.5 ∙ w.3;
      journal = left_journal s m seen mine kept w.1;
      comes = woken r.0 m t n mine in_sleep back;
    },
  )

  enters_since : (how : How) (s m u : Sight (Journaled O A R K)) → m.number ≡ s.number → journal_of m ≡ journal_of s → Enters how m u → Enters how s u
  enters_since how s m u number journal e = (
    e.0,
    ap (λ (k : ℕ). own k e.0) (sym number) ∙ e.1,
    e.2 ∙ (ap (λ js. (js ++ e.0) ++ entry m.number (Took how) ∷ []) journal ∙ ap (λ (k : ℕ). (journal_of s ++ e.0) ++ entry k (Took how) ∷ []) number),
  )

  -- the pass after its take was written
  pub record Returned (r : How × ℕ) (s u : Sight (Journaled O A R K)) (seen n mine : ℕ) (opening : O) (seats share : ℕ) : Type 0 where
    pub kept : PassKept u n (mine + 1)
    pub of : Began opening seats share u
    pub waits : WaitReturns s u seen n mine (mine + 1) (Ok r)

  pub returned : (r : How × ℕ) (s m : Sight (Journaled O A R K)) (t u : Seat (Journaled O A R K)) (seen mine n : ℕ) (opening : O) (seats share : ℕ) → PassKept s seen mine → s.asleep ≡ false → s.depth ≡ 1
      → ((v : Journaled O A R K) → s.value ≡ Some v → n ≡ length v.journal.items) → SleepsAndComes r.0 s m (sight t) n mine opening seats share → Writes (Took r.0) t u → Returned r s (sight u) seen n mine opening seats share
  returned r s m t u seen mine n opening seats share kept awake deep long h w = let came = arrived r.0 m t u n mine opening seats share h.kept h.of h.comes w in let e = came.comes in record {
    kept = came.kept;
    of = came.still;
    waits = (
      awake,
      deep,
      e.2 ∙ h.number,
      e.1,
      e.3,
      ap (λ (x : Sight (Journaled O A R K)). x.takes) w.3 ∙ h.takes,
      left_length s seen mine n kept (omega arith) long,
      refl,
      enters_since r.0 s m (sight u) h.number h.journal e.6,
    );
  }

  -- a refusal of the condvar's wait leaves the user seat as it was
  pub wait_refused : (user own : Limits) (tries : ℕ) (c d : Sight Waiters) (s t : Sight (Journaled O A R K)) (r : Refusal) → CondWaitEnds JournalFollows JournalFits user own tries c d s t (Err r) → t ≡ s
  wait_refused user own tries c d s t Refusal.Asleep h = h.2
  wait_refused user own tries c d s t Refusal.NotOwner h = h.2
  wait_refused user own tries c d s t Refusal.Nested h = h.2
  wait_refused user own tries c d s t Refusal.DepthFull h = h.2
  wait_refused user own tries c d s t Refusal.Spent h = h.4
  wait_refused user own tries c d s t Refusal.NoSuchSeat h = h.4
  wait_refused user own tries c d s t Refusal.NotWaiting h = h.2
  wait_refused user own tries c d s t Refusal.Busy h = h.3.4

  -- how wait ends if the pass may wait, and the condvar refused it
  pub refused : (user own : Limits) (tries share count condition : ℕ) (cs ds : List CondSeat) (s t : Sight (Journaled O A R K)) (mine : ℕ) (r : Refusal) → user.budget ≡ share → MayWait share s mine → s.number ≤ own.seats
      → OnCondition condition cs ds (λ c d. CondWaitEnds JournalFollows JournalFits user own tries c d s t (Err r)) → WaitEnds user own tries share count condition cs ds s t mine (Err r)
  refused user own tries share count condition cs ds s t mine Refusal.Asleep spent may named h = absurd (let a = may.0 in let b = h.6.0 in cc)
  refused user own tries share count condition cs ds s t mine Refusal.NotOwner spent may named h = absurd (let a = may.1 in let b = h.6.0.1 in omega arith)
  refused user own tries share count condition cs ds s t mine Refusal.Nested spent may named h = absurd (let a = may.1 in let b = h.6.0.1 in omega arith)
  refused user own tries share count condition cs ds s t mine Refusal.DepthFull spent may named h = absurd h.6.0
  refused user own tries share count condition cs ds s t mine Refusal.Spent spent may named h = (
    inr (may, (h.0, h.1, h.2, h.3, h.4, h.5, ⊎_elim (λ q. absurd (let a = may.2 in let b = spent in omega arith)) (λ q. (q, h.6.3)) h.6.2)),
    h.6.4,
  )
  refused user own tries share count condition cs ds s t mine Refusal.NoSuchSeat spent may named h = absurd (let a = h.6.2 in omega arith)
  refused user own tries share count condition cs ds s t mine Refusal.NotWaiting spent may named h = absurd h.6.0
  refused user own tries share count condition cs ds s t mine Refusal.Busy spent may named h = (may, h)
