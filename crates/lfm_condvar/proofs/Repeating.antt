-- Waits that are made one after another.
use Rattle.std.proofs.Common.{◌≡◌, ℕ, Bool, true, false, Some, Result, Ok, Err, IsErrAnd, MatchBool, sym, subst, ◌∙◌}
use Rattle.lfm_model.specs.declared.answers.How.{How}
use Rattle.lfm_model.specs.declared.refusals.Refusal.{Refusal}
use Rattle.lfm_protocol.specs.declared.limits.Limits.{Limits}
use Rattle.lfm_mutex.specs.Conditions.{FoundMayBeLeft}
use Rattle.lfm_mutex.specs.calls.Sight.{Sight, MayRelease}
use Rattle.lfm_condvar.specs.declared.waiters.Waiters.{Waiters}
use Rattle.lfm_condvar.specs.Waits.{BeginWaitEnds, WaitEnds}

module _ {T : Type 0} (user own : Limits) (tries : ℕ) where
  -- a wait that is refused leaves the user seat as it was
  pub stays : (r : Refusal) (c d : Sight Waiters) (s t : Sight T) → BeginWaitEnds user own tries c d s t (Err r) → t ≡ s
  stays Refusal.Busy c d s t h = h.3.4
  stays Refusal.Asleep c d s t h = h.2
  stays Refusal.NotOwner c d s t h = h.2
  stays Refusal.Nested c d s t h = h.2
  stays Refusal.DepthFull c d s t h = h.2
  stays Refusal.Spent c d s t h = h.4
  stays Refusal.NoSuchSeat c d s t h = h.4
  stays Refusal.NotWaiting c d s t h = h.2

module _ {T : Type 0} (follows : ℕ → T → T → Type 0) (fits : T → ℕ → Type 0) (user own : Limits) (tries : ℕ) where
  -- after a wait the depth is as it was before
  pub as_deep : (r : How × ℕ) (c d : Sight Waiters) (s t : Sight T) → WaitEnds follows fits user own tries c d s t (Ok r) → t.depth ≡ s.depth
  as_deep r c d s t h = let asleep = h.1.3.2.1 in h.2.0.4 ∙ sym asleep.1.1

  -- after a wait the seat may leave the value as it found it
  pub may_again : (r : How × ℕ) (c d : Sight Waiters) (s t : Sight T) → FoundMayBeLeft follows fits → WaitEnds follows fits user own tries c d s t (Ok r) → MayRelease follows fits t
  may_again r c d s t keeps h = λ _. let woken = h.2.0 in keeps r.0 h.0 t woken.7 woken.3
