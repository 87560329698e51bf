-- From the facts of a call of send_lock to its contract.
use Rattle.std.specs.Prelude.{⊤, ℕ, Result, Ok, Err}
use Rattle.lfm_model.specs.declared.refusals.Refusal.{Refusal}
use Rattle.lfm_protocol.specs.declared.answers.Answer.{Answer}
use Rattle.lfm_protocol.specs.declared.answers.Call.{Call}
use Rattle.lfm_protocol.specs.declared.limits.Limits.{Limits}
use Rattle.lfm_mutex.specs.calls.Sight.{Sight, Sends}
use Rattle.lfm_mutex.specs.calls.FastPath.{ComesTo, send_turn}
use Rattle.lfm_mutex.specs.calls.Trails.{MakesCall}

module _ {T : Type 0} (follows : ℕ → T → T → Type 0) (suits : T → ℕ → Type 0) (l : Limits) (s t : Sight T) (u : ℕ) where
  pub send_sends : (r : Result ⊤ Refusal) → ComesTo follows suits l (Call.SendLock u) s t (send_turn r) → Sends l.seats s u t r
  send_sends (Ok sent) comes = comes.turned
  send_sends (Err r) comes = comes.turned

  pub send_makes : (r : Result ⊤ Refusal) → ComesTo follows suits l (Call.SendLock u) s t (send_turn r) → MakesCall l (λ x. Answer.Sent) (Call.SendLock u) s t r
  send_makes (Ok sent) comes = comes.made
  send_makes (Err r) comes = comes.made
