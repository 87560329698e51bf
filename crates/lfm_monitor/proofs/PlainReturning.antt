-- A pass that waits on a plain condition: it leaves, sleeps until it is notified or its time is over, and acquires the monitor
-- again. And why it may not wait.
use Rattle.std.proofs.Common.{◌≡◌, ⊎_elim, inl, inr, ℕ, ◌+◌, ◌<◌, List, Ok, Err, length, Some, refl, ◌∙◌, ap, arith}
use Rattle.lfm_model.specs.declared.answers.How.{How}
use Rattle.lfm_model.specs.declared.refusals.Refusal.{Refusal}
use Rattle.lfm_protocol.specs.declared.limits.Limits.{Limits}
use Rattle.lfm_mutex.specs.calls.Sight.{Sight, sight}
use Rattle.lfm_plain_condvar.specs.declared.plain_seat.PlainSeat.{PlainSeat}
use Rattle.lfm_plain_condvar.specs.declared.waiters.Waiters.{Waiters}
use Rattle.lfm_plain_condvar.specs.Waits.{GivesUpAndComesBackAs, Refuses}
use Rattle.lfm_monitor.specs.declared.journaled.Journaled.{Journaled}
use Rattle.lfm_monitor.specs.Conditions.{MayWait, WaitRefused}
use Rattle.lfm_monitor.specs.Journaled.{JournalFits, JournalFollows}
use Rattle.lfm_monitor.specs.Passes.{PassKept, Began}
use Rattle.lfm_monitor.specs.PlainConditions.{OnPlain, PlainWaitRefused}
use Rattle.lfm_monitor.proofs.Knowing.{gained, left_it, left_journal, left_of}
use Rattle.lfm_monitor.proofs.Returning.{SleepsAndComes}

module _ {O A R : Type 0} {K : _} where
  -- what the condvar's wait states about the pass
  pub plain_waited : (user : Limits) (tries : ℕ) (how : How) (s t : Sight (Journaled O A R K)) (seen mine n : ℕ) (opening : O) (seats share : ℕ) → PassKept s seen mine → Began opening seats share s
      → ((v : Journaled O A R K) → s.value ≡ Some v → n ≡ length v.journal.items) → GivesUpAndComesBackAs JournalFollows JournalFits user tries how s t
      → (m : Sight (Journaled O A R K)) × SleepsAndComes how s m t n mine opening seats share
  plain_waited user tries how s t seen mine n opening seats share kept of long h = let m = h.0 in let left = h.1 in let back = h.2 in (
    m,
    record {
      kept = left_it s m seen mine n kept left.0 (λ z. absurd (let a = back.0.0 in cc)) long;
      of = left_of opening seats share s m seen mine kept of left.0;
      number = left.0.2;
      takes = back.0.5 ∙ ap (λ k. k + 1) left.1;
      journal = left_journal s m seen mine kept left.0;
      comes = gained how user.budget m t back.0;
    },
  )

  -- a refusal of the condvar's wait leaves the seat of the pass as it was
  pub plain_wait_refused : (user own : Limits) (needs tries : ℕ) (c d : Sight Waiters) (s t : Sight (Journaled O A R K)) (r : Refusal) → Refuses JournalFollows JournalFits user own needs tries c d s t r → t ≡ s
  plain_wait_refused user own needs tries c d s t Refusal.Asleep h = h.2
  plain_wait_refused user own needs tries c d s t Refusal.NotOwner h = h.2
  plain_wait_refused user own needs tries c d s t Refusal.Nested h = h.2
  plain_wait_refused user own needs tries c d s t Refusal.DepthFull h = h.2
  plain_wait_refused user own needs tries c d s t Refusal.Spent h = h.4
  plain_wait_refused user own needs tries c d s t Refusal.NoSuchSeat h = h.2
  plain_wait_refused user own needs tries c d s t Refusal.NotWaiting h = h.2
  plain_wait_refused user own needs tries c d s t Refusal.Busy h = h.1

  -- how a wait ends if the pass may wait, and the condvar refused it
  pub plain_refused : (user own : Limits) (needs tries share count condition : ℕ) (cs ds : List PlainSeat) (s t : Sight (Journaled O A R K)) (mine : ℕ) (r : Refusal) → user.budget ≡ share → MayWait share s mine
      → OnPlain condition cs ds (λ c d. Refuses JournalFollows JournalFits user own needs tries (sight c.seat) (sight d.seat) s t r) → PlainWaitRefused own needs tries share count condition cs ds s t mine r
  plain_refused user own needs tries share count condition cs ds s t mine Refusal.Asleep spent may h = absurd (let a = may.0 in let b = h.6.0 in cc)
  plain_refused user own needs tries share count condition cs ds s t mine Refusal.NotOwner spent may h = absurd (let a = may.1 in let b = h.6.0.1 in omega arith)
  plain_refused user own needs tries share count condition cs ds s t mine Refusal.Nested spent may h = absurd (let a = may.1 in let b = h.6.0.1 in omega arith)
  plain_refused user own needs tries share count condition cs ds s t mine Refusal.DepthFull spent may h = absurd h.6.0
  plain_refused user own needs tries share count condition cs ds s t mine Refusal.Spent spent may h = (
    inr (may, (h.0, h.1, h.2, h.3, h.4, h.5, ⊎_elim (λ q. absurd (let a = may.2 in let b = spent in omega arith)) (λ q. (q, h.6.3)) h.6.2)),
    h.6.4,
  )
  plain_refused user own needs tries share count condition cs ds s t mine Refusal.NoSuchSeat spent may h = absurd h.6.0
  plain_refused user own needs tries share count condition cs ds s t mine Refusal.NotWaiting spent may h = absurd h.6.0
  plain_refused user own needs tries share count condition cs ds s t mine Refusal.Busy spent may h = (may, (h.0, h.1, h.2, h.3, h.4, h.5, h.6.0), h.6.1)

  -- a wait that the pass may not make
  pub plain_barred : (own : Limits) (needs tries share count condition : ℕ) (cs : List PlainSeat) (s : Sight (Journaled O A R K)) (mine : ℕ) (r : Refusal) → WaitRefused share s mine r → PlainWaitRefused own needs tries share count condition cs cs s s mine r
  plain_barred own needs tries share count condition cs s mine Refusal.Asleep h = (h, refl, refl)
  plain_barred own needs tries share count condition cs s mine Refusal.NotOwner h = (h, refl, refl)
  plain_barred own needs tries share count condition cs s mine Refusal.Nested h = (h, refl, refl)
  plain_barred own needs tries share count condition cs s mine Refusal.DepthFull h = (h, refl, refl)
  plain_barred own needs tries share count condition cs s mine Refusal.Spent h = (inl (h, refl), refl)
  plain_barred own needs tries share count condition cs s mine Refusal.NoSuchSeat h = absurd h
  plain_barred own needs tries share count condition cs s mine Refusal.NotWaiting h = (h, refl, refl)
  plain_barred own needs tries share count condition cs s mine Refusal.Busy h = absurd h
