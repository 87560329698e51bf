-- How calls end: each with its own kind of answer.
use Rattle.std.specs.Prelude.{◌≡◌, ⊤, ℕ, List}
use Rattle.lfm_protocol.specs.declared.answers.Answer.{Answer}
use Rattle.lfm_protocol.specs.declared.answers.Answer.TheVariants.{Asked, Locked, Unlocked, Waiting, Sent, Got}
use Rattle.lfm_protocol.specs.declared.answers.Call.{Call}
use Rattle.lfm_protocol.specs.declared.answers.Call.TheVariants.{Lock, TryLock, Unlock, StartWait, SendLock, Receive}
use Rattle.lfm_protocol.specs.declared.answers.Turn.TheVariants.{Open, Ended}
use Rattle.lfm_protocol.specs.Core.{Core}
use Rattle.lfm_protocol.specs.Step.{begin, step}
use Rattle.lfm_laws.specs.laws.Releases.{StaysInCall}
use Rattle.lfm_laws.specs.laws.Schedules.{Event, run_of}

-- the answer belongs to the call
abbrev pub IsAnswerOf : Call → Answer → Type 0
IsAnswerOf Lock (Asked asked) = ⊤
IsAnswerOf TryLock (Locked locked) = ⊤
IsAnswerOf Unlock (Unlocked unlocked) = ⊤
IsAnswerOf StartWait (Waiting unlocked) = ⊤
IsAnswerOf (SendLock t) Sent = ⊤
IsAnswerOf Receive (Got how) = ⊤
IsAnswerOf _ _ = ⊥

-- a call ends with an answer of its own kind: at once, or with a step of its seat, whatever the others do in between
abbrev pub CallsEndInTheirKind : Type 0
CallsEndInTheirKind =
    (c : Core) (s : ℕ) (call : Call) (answer : Answer)
    → ((begin c s call).turn ≡ Ended answer → IsAnswerOf call answer)
    × ((events : List Event) → (begin c s call).turn ≡ Open → StaysInCall (begin c s call).core s events
    → (step (run_of (begin c s call).core events) s).turn ≡ Ended answer → IsAnswerOf call answer)
