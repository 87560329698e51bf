-- Which calls a measure counts, and what one step of such a call adds to the count.
use Rattle.std.specs.Prelude.{ℕ, Bool, true, false}
use Rattle.lfm_protocol.specs.declared.answers.Call.{Call}
use Rattle.lfm_protocol.specs.declared.answers.Call.TheVariants.{TryLock, Receive}
use Rattle.lfm_states.specs.declared.measures.Measure.{Measure}
use Rattle.lfm_states.specs.declared.measures.Measure.TheVariants.{StepsOfCall, StepsOfTry, StepsOfReceive, PushChanges, Grants}

abbrev pub counts_call : Measure → Call → Bool
counts_call StepsOfCall TryLock = false
counts_call StepsOfCall Receive = false
counts_call StepsOfTry TryLock = true
counts_call StepsOfTry _ = false
counts_call StepsOfReceive Receive = true
counts_call StepsOfReceive _ = false
counts_call _ _ = true

-- the changes of the push word, the grants, or the step itself
abbrev pub weight_of : Measure → ℕ → ℕ → ℕ
weight_of PushChanges changes grants = changes
weight_of Grants changes grants = grants
weight_of _ _ _ = 1
