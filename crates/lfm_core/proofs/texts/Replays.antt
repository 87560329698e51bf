-- What was written and returned is the trace and the verdict of the input.
use Rattle.std.proofs.Common.{◌≡◌, ◌≢◌, ◌++◌, ℕ, Bool, true, List, Option, Some, None, Result, Ok, Err, IfOk, IfSome, inl, inr, refl, sym, ◌∙◌, ap, subst, append-nil}
use Rattle.std.specs.Prelude.{IsErrAnd}
use Rattle.std.proofs.lemmas.Bool.{cases_Bool}
use Rattle.lfm_core.specs.declared.text.faults.ReplayFault.{ReplayFault}
use Rattle.lfm_core.specs.declared.text.faults.ReplayFault.TheVariants.{Syntax, Limit, Read, Write, Memory}
use Rattle.lfm_text.specs.declared.faults.WriteFault.{WriteFault}
use Rattle.lfm_core.specs.declared.text.schedule.Line.{Line}
use Rattle.lfm_core.specs.declared.text.schedule.Schedule.{Schedule}
use Rattle.lfm_protocol.specs.Core.{Core}
use Rattle.lfm_core.specs.text.Grammar.{Plan, plan_in, plan_of}
use Rattle.lfm_core.specs.text.Replay.{Reads, ReadsTaken, SomeReading, Tells, Replays, SomeReplay}
use Rattle.lfm_text.specs.Taking.{Takes}
use Rattle.lfm_text.specs.Text.{is_past_limit}
use Rattle.lfm_core.specs.text.Trace.{answer_of, opening_text, lines_text, none_refused, opening, plan_text, text_of}
use Rattle.lfm_text.specs.Writing.{AppendsPrefix, Writes}
use Rattle.lfm_text.proofs.LineCount.{is_past_limit-append}

-- what a replay returns, from how its run ended
abbrev pub ended : Result Bool WriteFault → Result Bool ReplayFault
ended (Ok b) = Ok b
ended (Err fault) = Err Write

-- the verdict was returned after its text, or a prefix of the text was written
told : (r : Result Bool WriteFault) (text : List ℕ) (b : Bool) (old new : Option (List ℕ)) → Writes old new text r → IfOk r (λ x. x ≡ b) → Tells (ended r) text (Ok b) old new
told (Ok x) text b old new p e = (p.outcome, ap Ok (sym e))
told (Err fault) text b old new p e = p.outcome

-- the run of a plan from its opening state
pub run_told : (r : Result Bool WriteFault) (p : Plan) (state : Core) (lines : List Line) (old new : Option (List ℕ)) → state ≡ opening p → lines ≡ p.lines
    → Writes old new (opening_text p.seats state ++ lines_text 2 state lines) r → IfOk r (λ x. x ≡ none_refused state lines)
    → Tells (ended r) (plan_text p) (Ok (none_refused (opening p) p.lines)) old new
run_told r p state lines old new opens same writes verdict =
    let Text : Core → List Line → Type 0 = λ c ls. Writes old new (opening_text p.seats c ++ lines_text 2 c ls) r in
    let Verdict : Core → List Line → Type 0 = λ c ls. IfOk r (λ x. x ≡ none_refused c ls) in
    told r (plan_text p) (none_refused (opening p) p.lines) old new
    (subst (Text (opening p)) same (subst (λ c. Text c lines) opens writes))
    (subst (Verdict (opening p)) same (subst (λ c. Verdict c lines) opens verdict))

-- `?` makes a fault of a failed write, after a prefix of the text was written
pub write_failed : (r : Result Bool ReplayFault) (text : List ℕ) (verdict : Result Bool ReplayFault) (old new : Option (List ℕ)) → IsErrAnd r (λ y. y ≡ Write)
    → AppendsPrefix old new text → Tells r text verdict old new
write_failed (Ok b) text verdict old new e p = absurd e
write_failed (Err y) text verdict old new e p = subst (λ x. Tells (Err x) text verdict old new) (sym e) p

-- a text past the limits has the fault Limit
past_limit : (xs : List ℕ) → is_past_limit xs ≡ true → plan_in xs ≡ Err Limit
past_limit xs past = rw past refl

-- the bytes that were taken are read as all the bytes are
same_plan : (xs : List ℕ) (new : Option (List ℕ)) (taken : List ℕ) → Takes (Some xs) new taken → plan_in xs ≡ plan_in taken
same_plan xs None taken takes = absurd takes.taken
same_plan xs (Some ys) taken takes =
    elim (cases_Bool (is_past_limit taken)) [
      | inl past ↦ past_limit xs (rw takes.taken (is_past_limit-append taken ys past)) ∙ sym (past_limit taken past)
      | inr fits ↦ ap plan_in (takes.taken ∙ ap (λ l. taken ++ l) (takes.whole fits) ∙ append-nil taken)
    ]

-- what was returned for an input that was taken, if no read failed
some : (r : Result Bool ReplayFault) (input : List ℕ) (before after old new : Option (List ℕ)) → r ≢ Err Read
    → Takes before after input → Replays r input old new → SomeReplay r before after old new
some (Ok b) input before after old new no_read takes p = record { input = input; takes = takes; replays = p }
some (Err (Syntax n)) input before after old new no_read takes p = record { input = input; takes = takes; replays = p }
some (Err Limit) input before after old new no_read takes p = record { input = input; takes = takes; replays = p }
some (Err Read) input before after old new no_read takes p = absurd (no_read refl)
some (Err Write) input before after old new no_read takes p = record { input = input; takes = takes; replays = p }
some (Err Memory) input before after old new no_read takes p = p

-- the same for the schedule that was read
pub some_reading : (r : Result Schedule ReplayFault) (input : List ℕ) (before after old new : Option (List ℕ)) → r ≢ Err Read
    → Takes before after input → Reads r input old new → SomeReading r before after old new
some_reading (Ok s) input before after old new no_read takes p = record { input = input; takes = takes; says = p }
some_reading (Err (Syntax n)) input before after old new no_read takes p = record { input = input; takes = takes; replays = p }
some_reading (Err Limit) input before after old new no_read takes p = record { input = input; takes = takes; replays = p }
some_reading (Err Read) input before after old new no_read takes p = absurd (no_read refl)
some_reading (Err Write) input before after old new no_read takes p = record { input = input; takes = takes; replays = p }
some_reading (Err Memory) input before after old new no_read takes p = p

-- what was read from the bytes that were taken is what is read from all the bytes
pub exact_reading : (before after : Option (List ℕ)) (taken : List ℕ) (r : Result Schedule ReplayFault) (old new : Option (List ℕ))
    → Takes before after taken → Reads r taken old new → IfSome before (λ xs. Reads r xs old new)
exact_reading None after taken r old new takes p = tt
exact_reading (Some xs) after taken (Ok s) old new takes p = same_plan xs after taken takes ∙ p
exact_reading (Some xs) after taken (Err fault) old new takes p =
    let same : plan_in xs ≡ plan_in taken = same_plan xs after taken takes in rw same p

-- the run of the schedule that an input spells is the replay of the input
replayed : (s : Schedule) (r : Result Bool ReplayFault) (input : List ℕ) (old between new : Option (List ℕ)) → plan_in input ≡ Ok (plan_of s) → between ≡ old
    → Tells r (plan_text (plan_of s)) (Ok (none_refused (opening (plan_of s)) (plan_of s).lines)) between new → Replays r input old new
replayed s r input old between new says unwritten p =
    subst (λ said. Tells r (text_of said) (answer_of said) old new) (sym says)
    (subst (λ bytes. Tells r (plan_text (plan_of s)) (Ok (none_refused (opening (plan_of s)) (plan_of s).lines)) bytes new) unwritten p)

-- the replay of the input that was taken from the reader
pub some_replayed : (s : Schedule) (r : Result Bool ReplayFault) (before after old between new : Option (List ℕ)) → r ≢ Err Read → ReadsTaken s before after → between ≡ old
    → Tells r (plan_text (plan_of s)) (Ok (none_refused (opening (plan_of s)) (plan_of s).lines)) between new → SomeReplay r before after old new
some_replayed s r before after old between new no_read taken unwritten p =
    some r taken.input before after old new no_read taken.takes (replayed s r taken.input old between new taken.says unwritten p)

-- the replay of the input, if it is known
pub exact_replayed : (s : Schedule) (r : Result Bool ReplayFault) (before old between new : Option (List ℕ)) → IfSome before (λ xs. Reads (Ok s) xs old between) → between ≡ old
    → Tells r (plan_text (plan_of s)) (Ok (none_refused (opening (plan_of s)) (plan_of s).lines)) between new → IfSome before (λ xs. Replays r xs old new)
exact_replayed s r None old between new says unwritten p = tt
exact_replayed s r (Some xs) old between new says unwritten p = replayed s r xs old between new says unwritten p
