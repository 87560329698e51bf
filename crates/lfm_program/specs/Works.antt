-- What `work` writes and answers for an input.
use Rattle.std.specs.Prelude.{ℕ, Bool, ◌≡◌, List, Option, Result, Ok, Err}
use Rattle.std.specs.Io.KnownBytes.{Appends, Keeps}
use Rattle.lfm_text.specs.Taking.{Takes, TakesWithin}
use Rattle.lfm_text.specs.Writing.{AppendsPrefix}
use Rattle.lfm_script.specs.declared.faults.WorkFault.{WorkFault}
use Rattle.lfm_script.specs.declared.faults.WorkFault.TheVariants.{Syntax, Limit, Read, Write, Memory, Stuck}
use Rattle.lfm_script.specs.script.Grammar.{Plan, script_in}
use Rattle.lfm_script.specs.Report.{fault_text}
use Rattle.lfm_script.specs.Runs.{IsReport}
use Rattle.lfm_program.specs.Workers.{StopsIn}

-- a report of the script, with its verdict
pub record SomeReport (p : Plan) (verdict : Bool) (old new : Option (List ℕ)) : Type 0 where
  pub text : List ℕ
  pub report : IsReport p text verdict
  pub appended : Appends old new text

-- a prefix of a report of the script
pub record PrefixReport (p : Plan) (old new : Option (List ℕ)) : Type 0 where
  pub text : List ℕ
  pub verdict : Bool
  pub report : IsReport p text verdict
  pub appended : AppendsPrefix old new text

-- What was written and answered for an input that is read as this, at a gate with these stops: the line of its fault, or a
-- report, or nothing if the gate stops a worker of the script before one of its commands
abbrev pub TellsWork : (ℕ → ℕ → Type 0) → Result Bool WorkFault → Result Plan WorkFault → Option (List ℕ) → Option (List ℕ) → Type 0
TellsWork stops (Ok b) (Ok p) old new = SomeReport p b old new
TellsWork stops (Ok b) (Err fault) old new = ⊥
TellsWork stops (Err Write) (Ok p) old new = PrefixReport p old new
TellsWork stops (Err Write) (Err fault) old new = AppendsPrefix old new (fault_text fault)
TellsWork stops (Err (Syntax n)) said old new = (said ≡ Err (Syntax n)) × Appends old new (fault_text (Syntax n))
TellsWork stops (Err Limit) said old new = (said ≡ Err Limit) × Appends old new (fault_text Limit)
TellsWork stops (Err Stuck) (Ok p) old new = StopsIn stops p × Keeps old new
TellsWork stops (Err Stuck) (Err fault) old new = ⊥
TellsWork stops (Err Read) said old new = Keeps old new
TellsWork stops (Err Memory) said old new = Keeps old new

-- the same for an input whose bytes are known
abbrev pub Works : (ℕ → ℕ → Type 0) → Result Bool WorkFault → List ℕ → Option (List ℕ) → Option (List ℕ) → Type 0
Works stops result input old new = TellsWork stops result (script_in input) old new

-- an input was taken from the reader, and this is its run
pub record WorksTaken (stops : ℕ → ℕ → Type 0) (result : Result Bool WorkFault) (before after old new : Option (List ℕ)) : Type 0 where
  pub input : List ℕ
  pub takes : Takes before after input
  pub works : Works stops result input old new

-- For any reader: some input was taken and this is its run, unless a read failed or memory was refused. In these two cases
-- nothing was written. A read that fails does so before the input is past a limit.
abbrev pub SomeWork : (ℕ → ℕ → Type 0) → Result Bool WorkFault → Option (List ℕ) → Option (List ℕ) → Option (List ℕ) → Option (List ℕ) → Type 0
SomeWork stops (Ok b) before after old new = WorksTaken stops (Ok b) before after old new
SomeWork stops (Err (Syntax n)) before after old new = WorksTaken stops (Err (Syntax n)) before after old new
SomeWork stops (Err Limit) before after old new = WorksTaken stops (Err Limit) before after old new
SomeWork stops (Err Write) before after old new = WorksTaken stops (Err Write) before after old new
SomeWork stops (Err Stuck) before after old new = WorksTaken stops (Err Stuck) before after old new
SomeWork stops (Err Read) before after old new = TakesWithin before after × Keeps old new
SomeWork stops (Err Memory) before after old new = Keeps old new
