-- Rounds: in each round the pass executes a critical section in its own hold.
use Rattle.std.specs.Prelude.{◌≡◌, ◌⊎◌, ℕ, zero, suc, ◌<◌, ⊤, Result, Ok, Err}
use Rattle.std.specs.declared.ops.ControlFlow.{ControlFlow}
use Rattle.std.specs.declared.ops.ControlFlow.TheVariants.{Continue, Break}
use Rattle.lfm_model.specs.declared.refusals.Refusal.{Refusal}
use Rattle.lfm_monitor.specs.declared.monitor.Monitor.{Monitor}
use Rattle.lfm_monitor.specs.declared.pass.Pass.{Pass}
use Rattle.lfm_monitor.specs.Sections.{HoldEnds}

-- after a round with this result there is no further one: the section returned Break, or something was refused
abbrev pub EndsRounds : Result (ControlFlow ⊤ ⊤) Refusal → Type 0
EndsRounds (Ok (Continue x)) = ⊥
EndsRounds (Ok (Break x)) = ⊤
EndsRounds (Err r) = ⊤

module _ {O A R : Type 0} {K : _} (m : Monitor O A R K) (makes : ℕ → Pass O A R K → Pass O A R K → Result (ControlFlow ⊤ ⊤) Refusal → Type 0) where
  -- the pass was p before this number of rounds, numbered from 0, and q after them, and each of them returned Continue
  abbrev pub AllGoOn : ℕ → Pass O A R K → Pass O A R K → Type 0
  AllGoOn zero p q = q ≡ p
  AllGoOn (suc n) p q = (l : Pass O A R K) × AllGoOn n p l × HoldEnds m (makes n) l q (Ok (Continue tt))

  -- the round with this number was the last
  abbrev pub EndsAt : ℕ → Pass O A R K → Pass O A R K → Type 0
  EndsAt n p q = (l : Pass O A R K) × (r : Result (ControlFlow ⊤ ⊤) Refusal) × AllGoOn n p l × HoldEnds m (makes n) l q r × EndsRounds r

  -- all of this number of rounds were made, or an earlier one was the last
  abbrev pub MakesRounds : ℕ → Pass O A R K → Pass O A R K → Type 0
  MakesRounds rounds p q = AllGoOn rounds p q ⊎ ((n : ℕ) × (n < rounds) × EndsAt n p q)
