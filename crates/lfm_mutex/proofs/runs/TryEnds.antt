-- From the facts of a call of try_lock to its contract.
use Rattle.std.proofs.Common.{ℕ, Result, Ok, Err}
use Rattle.lfm_model.specs.declared.answers.Locked.{Locked}
use Rattle.lfm_model.specs.declared.refusals.Refusal.{Refusal}
use Rattle.lfm_protocol.specs.declared.answers.Answer.{Answer}
use Rattle.lfm_protocol.specs.declared.answers.Call.{Call}
use Rattle.lfm_protocol.specs.declared.limits.Limits.{Limits}
use Rattle.lfm_mutex.specs.calls.Sight.{Sight, Locks}
use Rattle.lfm_mutex.specs.calls.FastPath.{ComesTo, try_turn}
use Rattle.lfm_mutex.specs.calls.Trails.{MakesCall}

module _ {T : Type 0} (follows : ℕ → T → T → Type 0) (suits : T → ℕ → Type 0) (l : Limits) (s t : Sight T) where
  pub try_locks : (r : Result Locked Refusal) → ComesTo follows suits l Call.TryLock s t (try_turn r) → Locks follows suits l.budget s t r
  try_locks (Ok a) comes = comes.turned
  try_locks (Err r) comes = comes.turned

  pub try_makes : (r : Result Locked Refusal) → ComesTo follows suits l Call.TryLock s t (try_turn r) → MakesCall l (λ x. Answer.Locked x) Call.TryLock s t r
  try_makes (Ok a) comes = comes.made
  try_makes (Err r) comes = comes.made
