-- What a replay of an input writes and returns.
use Rattle.std.specs.Prelude.{ℕ, Bool, ◌≡◌, List, Option, Result, Ok, Err}
use Rattle.std.specs.Io.KnownBytes.{Appends, Keeps}
use Rattle.lfm_core.specs.declared.text.faults.ReplayFault.{ReplayFault}
use Rattle.lfm_core.specs.declared.text.faults.ReplayFault.TheVariants.{Syntax, Limit, Read, Write, Memory}
use Rattle.lfm_text.specs.Taking.{Takes, TakesWithin}
use Rattle.lfm_core.specs.declared.text.schedule.Schedule.{Schedule}
use Rattle.lfm_core.specs.text.Grammar.{plan_in, plan_of}
use Rattle.lfm_core.specs.text.Trace.{trace_of, verdict_of}
use Rattle.lfm_text.specs.Writing.{AppendsPrefix}

-- The verdict was returned after its text was written. After `Write` a prefix of the text was written; after `Read` and
-- `Memory` nothing was.
abbrev pub Tells : Result Bool ReplayFault → List ℕ → Result Bool ReplayFault → Option (List ℕ) → Option (List ℕ) → Type 0
Tells (Ok b) text verdict old new = Appends old new text × (verdict ≡ Ok b)
Tells (Err (Syntax n)) text verdict old new = Appends old new text × (verdict ≡ Err (Syntax n))
Tells (Err Limit) text verdict old new = Appends old new text × (verdict ≡ Err Limit)
Tells (Err Read) text verdict old new = Keeps old new
Tells (Err Write) text verdict old new = AppendsPrefix old new text
Tells (Err Memory) text verdict old new = Keeps old new

-- the input's verdict was returned, after its trace was written
abbrev pub Replays : Result Bool ReplayFault → List ℕ → Option (List ℕ) → Option (List ℕ) → Type 0
Replays result input old new = Tells result (trace_of input) (verdict_of input) old new

-- some input was taken from the reader, and this is its replay
pub record ReplaysTaken (result : Result Bool ReplayFault) (before after old new : Option (List ℕ)) : Type 0 where
  pub input : List ℕ
  pub takes : Takes before after input
  pub replays : Replays result input old new

-- Some input was taken from the reader and this is its replay, unless a read failed or an allocation failed; then nothing was
-- written. If a read failed, the bytes that the reader had given were not past a limit.
abbrev pub SomeReplay : Result Bool ReplayFault → Option (List ℕ) → Option (List ℕ) → Option (List ℕ) → Option (List ℕ) → Type 0
SomeReplay (Ok b) before after old new = ReplaysTaken (Ok b) before after old new
SomeReplay (Err (Syntax n)) before after old new = ReplaysTaken (Err (Syntax n)) before after old new
SomeReplay (Err Limit) before after old new = ReplaysTaken (Err Limit) before after old new
SomeReplay (Err Write) before after old new = ReplaysTaken (Err Write) before after old new
SomeReplay (Err Read) before after old new = TakesWithin before after × Keeps old new
SomeReplay (Err Memory) before after old new = Keeps old new

-- the schedule that the input spells was read, or its fault was returned as by a replay
abbrev pub Reads : Result Schedule ReplayFault → List ℕ → Option (List ℕ) → Option (List ℕ) → Type 0
Reads (Ok schedule) input old new = plan_in input ≡ Ok (plan_of schedule)
Reads (Err fault) input old new = Replays (Err fault) input old new

-- some input was taken from the reader that spells this schedule
pub record ReadsTaken (schedule : Schedule) (before after : Option (List ℕ)) : Type 0 where
  pub input : List ℕ
  pub takes : Takes before after input
  pub says : plan_in input ≡ Ok (plan_of schedule)

-- Some input was taken from the reader, and this is its schedule, or the fault that a replay returns for it.
abbrev pub SomeReading : Result Schedule ReplayFault → Option (List ℕ) → Option (List ℕ) → Option (List ℕ) → Option (List ℕ) → Type 0
SomeReading (Ok schedule) before after old new = ReadsTaken schedule before after
SomeReading (Err fault) before after old new = SomeReplay (Err fault) before after old new
