-- The numbers by which exports return the answer of a call to C.
use Rattle.std.specs.Prelude.{ℕ, ◌+◌, ◌*◌, ◌<◌, ◌≤◌, Result, Ok, Err, Option, Some, None}
use Rattle.lfm_model.specs.declared.answers.Asked.{Asked}
use Rattle.lfm_model.specs.declared.answers.How.{How}
use Rattle.lfm_model.specs.declared.answers.Locked.{Locked}
use Rattle.lfm_model.specs.declared.refusals.NewFault.{NewFault}
use Rattle.lfm_model.specs.declared.refusals.Refusal.{Refusal}
use Rattle.lfm_model.specs.declared.refusals.Refusal.TheVariants.{Asleep, NotOwner, Nested, DepthFull, Spent, NoSuchSeat, NotWaiting, Busy}
use Rattle.lfm_c.specs.declared.status.Status.{Status}

abbrev pub code_of_refusal : Refusal → ℕ
code_of_refusal Asleep = 32
code_of_refusal NotOwner = 33
code_of_refusal Nested = 34
code_of_refusal DepthFull = 35
code_of_refusal Spent = 36
code_of_refusal NoSuchSeat = 37
code_of_refusal NotWaiting = 38
code_of_refusal Busy = 39

abbrev pub code : Status → ℕ
code Status.Done = 0
code Status.Again = 1
code Status.Still = 2
code Status.Asleep = 3
code Status.Posted = 4
code Status.Granted = 5
code Status.Blank = 16
code Status.Taken = 17
code Status.Limit = 18
code Status.Memory = 19
code Status.NoSeat = 20
code (Status.Refused r) = code_of_refusal r

-- an answer: the status, and above its low 8 bits the seat of the call's wake-up, or 0 for none
abbrev pub told : Status → Option ℕ → ℕ
told status None = code status
told status (Some seat) = code status + 256 * seat

-- an answer is 256 or more exactly if there is a wake-up, so a wake-up is never returned as none
abbrev pub Names : Option ℕ → ℕ → Type 0
Names None n = n < 256
Names (Some seat) n = 256 ≤ n

-- the status of an answer of `ask`
abbrev pub asked : Result Asked Refusal → Status
asked (Ok (Asked.Held how)) = Status.Done
asked (Ok (Asked.Again depth)) = Status.Again
asked (Ok Asked.Asleep) = Status.Asleep
asked (Err r) = Status.Refused r

-- the status of an answer of `try_receive`
abbrev pub received : Result (Option How) Refusal → Status
received (Ok (Some how)) = Status.Done
received (Ok None) = Status.Asleep
received (Err r) = Status.Refused r

-- the status of an answer of `try_lock`
abbrev pub locked : Result Locked Refusal → Status
locked (Ok (Locked.Held how)) = Status.Done
locked (Ok (Locked.Again depth)) = Status.Again
locked (Err r) = Status.Refused r

-- the status if a pool could not be opened
abbrev pub faulted : NewFault → Status
faulted NewFault.Limit = Status.Limit
faulted NewFault.Memory = Status.Memory
