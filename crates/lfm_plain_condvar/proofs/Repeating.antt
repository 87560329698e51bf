-- Waits that are made one after another.
use Rattle.std.proofs.Common.{◌≡◌, ℕ, Ok, Err, sym, ◌∙◌}
use Rattle.lfm_model.specs.declared.refusals.Refusal.{Refusal}
use Rattle.lfm_protocol.specs.declared.limits.Limits.{Limits}
use Rattle.lfm_mutex.specs.Conditions.{FoundMayBeLeft}
use Rattle.lfm_mutex.specs.calls.Sight.{Sight, MayRelease}
use Rattle.lfm_plain_condvar.specs.declared.waiters.Waiters.{Waiters}
use Rattle.lfm_plain_condvar.specs.Waits.{WaitEnds}

module _ {T : Type 0} (follows : ℕ → T → T → Type 0) (fits : T → ℕ → Type 0) (user own : Limits) (tries user_tries : ℕ) where
  -- a wait that is refused leaves the user seat as it was
  pub stays : (r : Refusal) (c d : Sight Waiters) (s t : Sight T) → WaitEnds follows fits user own tries user_tries c d s t (Err r) → t ≡ s
  stays Refusal.Busy c d s t h = h.1
  stays Refusal.Asleep c d s t h = h.2
  stays Refusal.NotOwner c d s t h = h.2
  stays Refusal.Nested c d s t h = h.2
  stays Refusal.DepthFull c d s t h = h.2
  stays Refusal.Spent c d s t h = h.4
  stays Refusal.NoSuchSeat c d s t h = h.2
  stays Refusal.NotWaiting c d s t h = h.2

  -- after a wait the depth is as it was before
  pub as_deep : (ticket : ℕ) (c d : Sight Waiters) (s t : Sight T) → WaitEnds follows fits user own tries user_tries c d s t (Ok ticket) → t.depth ≡ s.depth
  as_deep ticket c d s t h = h.1.2.1.0.4 ∙ sym h.1.1.0.1

  -- after a wait the seat may leave the value as it found it
  pub may_again : (ticket : ℕ) (c d : Sight Waiters) (s t : Sight T) → FoundMayBeLeft follows fits → WaitEnds follows fits user own tries user_tries c d s t (Ok ticket) → MayRelease follows fits t
  may_again ticket c d s t keeps h = λ _. let back = h.1.2 in keeps back.0 h.1.0 t back.1.0.8 back.1.0.3
