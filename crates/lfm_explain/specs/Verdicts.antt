-- The explanation of an input answers the same as its replay, if reading, writing and memory did not fail.
use Rattle.std.specs.Prelude.{ℕ, Bool, ◌≡◌, ⊤, List, Option, Result, Ok, Err}
use Rattle.std.specs.Io.KnownBytes.{Keeps}
use Rattle.lfm_core.specs.declared.text.faults.ReplayFault.{ReplayFault}
use Rattle.lfm_core.specs.declared.text.faults.ReplayFault.TheVariants.{Syntax, Limit, Read, Write, Memory}
use Rattle.lfm_core.specs.text.Trace.{verdict_of}

-- The verdict is answered, or the writer failed. After `Read` and `Memory` nothing was written.
abbrev pub AnswersVerdict : Result Bool ReplayFault → Result Bool ReplayFault → Option (List ℕ) → Option (List ℕ) → Type 0
AnswersVerdict (Ok b) verdict old new = verdict ≡ Ok b
AnswersVerdict (Err (Syntax n)) verdict old new = verdict ≡ Err (Syntax n)
AnswersVerdict (Err Limit) verdict old new = verdict ≡ Err Limit
AnswersVerdict (Err Read) verdict old new = Keeps old new
AnswersVerdict (Err Write) verdict old new = ⊤
AnswersVerdict (Err Memory) verdict old new = Keeps old new

-- the result is the verdict of a replay of the input
abbrev pub Judges : Result Bool ReplayFault → List ℕ → Option (List ℕ) → Option (List ℕ) → Type 0
Judges result input old new = AnswersVerdict result (verdict_of input) old new

-- the same if nothing is known of what was written
abbrev pub SaysVerdict : Result Bool ReplayFault → Result Bool ReplayFault → Type 0
SaysVerdict (Ok b) verdict = verdict ≡ Ok b
SaysVerdict (Err (Syntax n)) verdict = verdict ≡ Err (Syntax n)
SaysVerdict (Err Limit) verdict = verdict ≡ Err Limit
SaysVerdict (Err Read) verdict = ⊤
SaysVerdict (Err Write) verdict = ⊤
SaysVerdict (Err Memory) verdict = ⊤
