-- What was read, written and answered is the run of the script in the input.
use Rattle.std.proofs.Common.{◌≡◌, ◌≢◌, ◌⊎◌, ◌++◌, ℕ, Bool, true, List, Option, Some, None, Result, Ok, Err, IfSome, inl, inr, ⊎_elim, refl, sym, ◌∙◌, ap, subst, append-nil, arith}
use Rattle.std.specs.Prelude.{IsErrAnd}
use Rattle.std.specs.Io.KnownBytes.{Appends, Keeps}
use Rattle.std.proofs.lemmas.Bool.{cases_Bool}
use Rattle.lfm_text.specs.declared.faults.WriteFault.{WriteFault}
use Rattle.lfm_text.specs.Taking.{Takes}
use Rattle.lfm_text.specs.Text.{is_past_limit}
use Rattle.lfm_text.specs.Writing.{Writes}
use Rattle.lfm_text.proofs.LineCount.{is_past_limit-append}
use Rattle.lfm_script.specs.declared.faults.WorkFault.{WorkFault}
use Rattle.lfm_script.specs.declared.faults.WorkFault.TheVariants.{Syntax, Limit, Read, Write, Memory, Stuck}
use Rattle.lfm_script.specs.script.Grammar.{Plan, script_in}
use Rattle.lfm_script.specs.Report.{script_text}
use Rattle.lfm_script.specs.Runs.{IsReport}
use Rattle.lfm_program.specs.Workers.{StopsIn}
use Rattle.lfm_program.specs.Works.{SomeWork, TellsWork, Works}
use Rattle.lfm_script.proofs.RunReports.{script_told}
use Rattle.lfm_script.proofs.scripts.Plans.{plan_only}

-- Keeps is reflexive
pub keeps_same : (a : Option (List ℕ)) → Keeps a a
keeps_same None = tt
keeps_same (Some x) = refl

-- a run that failed with the fault that `?` passes on
pub run_failed : (stops : ℕ → ℕ → Type 0) (r : Result Bool WorkFault) (e : WorkFault) (p : Plan) (old : Option (List ℕ)) → IsErrAnd r (λ y. y ≡ e) → (e ≡ Memory) ⊎ ((e ≡ Stuck) × StopsIn stops p)
    → TellsWork stops r (Ok p) old old × (r ≢ Err Read)
run_failed stops (Ok b) e p old is fault = absurd is
run_failed stops (Err y) e p old is fault = ⊎_elim
    (λ m. subst (λ x. TellsWork stops (Err x) (Ok p) old old × (◌≡◌ {A = Result Bool WorkFault} (Err x) (Err Read) → ⊥)) (sym (is ∙ m)) (keeps_same old, λ q. grind (arith, q)))
    (λ s. subst (λ x. TellsWork stops (Err x) (Ok p) old old × (◌≡◌ {A = Result Bool WorkFault} (Err x) (Err Read) → ⊥)) (sym (is ∙ s.0)) ((s.1, keeps_same old), λ q. grind (arith, q)))
    fault

-- the report of a run was written
pub run_told : (stops : ℕ → ℕ → Type 0) (p : Plan) (text : List ℕ) (b : Bool) (old new : Option (List ℕ)) → IsReport p text b → Writes {T = Unit {0}} old new text (Ok tt) → TellsWork stops (Ok b) (Ok p) old new
run_told stops p text b old new report writes = record { text = text; report = report; appended = writes.outcome }

-- the writer failed within the report
pub report_failed : (stops : ℕ → ℕ → Type 0) (r : Result Bool WorkFault) (fault : WriteFault) (p : Plan) (text : List ℕ) (b : Bool) (old new : Option (List ℕ)) → IsErrAnd r (λ y. y ≡ Write)
    → IsReport p text b → Writes {T = Unit {0}} old new text (Err fault) → TellsWork stops r (Ok p) old new
report_failed stops (Ok c) fault p text b old new is report writes = absurd is
report_failed stops (Err y) fault p text b old new is report writes =
    subst (λ x. TellsWork stops (Err x) (Ok p) old new) (sym is) (record { text = text; verdict = b; report = report; appended = writes.outcome })

-- Stuck is answered only at a gate that may stop a worker of some script
pub stuck_by : (stops : ℕ → ℕ → Type 0) (r : Result Bool WorkFault) (said : Result Plan WorkFault) (old new : Option (List ℕ)) → TellsWork stops r said old new → r ≡ Err Stuck → (p : Plan) × StopsIn stops p
stuck_by stops r (Ok p) old new told at = let stuck : TellsWork stops (Err Stuck) (Ok p) old new = subst (λ x. TellsWork stops x (Ok p) old new) at told in (p, stuck.0)
stuck_by stops r (Err fault) old new told at = let stuck : TellsWork stops (Err Stuck) (Err fault) old new = subst (λ x. TellsWork stops x (Err fault) old new) at told in absurd stuck

-- all bytes are read as the same script or fault as the bytes that were taken
past_limit : (xs : List ℕ) → is_past_limit xs ≡ true → script_in xs ≡ Err Limit
past_limit xs past = rw past refl

same_script : (xs : List ℕ) (new : Option (List ℕ)) (taken : List ℕ) → Takes (Some xs) new taken → script_in xs ≡ script_in taken
same_script xs None taken takes = absurd takes.taken
same_script xs (Some ys) taken takes =
    elim (cases_Bool (is_past_limit taken)) [
      | inl past ↦ past_limit xs (rw takes.taken (is_past_limit-append taken ys past)) ∙ sym (past_limit taken past)
      | inr fits ↦ ap script_in (takes.taken ∙ ap (λ l. taken ++ l) (takes.whole fits) ∙ append-nil taken)
    ]

-- the answer for an input that was taken, if no read failed
pub some : (stops : ℕ → ℕ → Type 0) (r : Result Bool WorkFault) (input : List ℕ) (before after old new : Option (List ℕ)) → r ≢ Err Read
    → Takes before after input → Works stops r input old new → SomeWork stops r before after old new
some stops (Ok b) input before after old new no_read takes p = record { input = input; takes = takes; works = p }
some stops (Err (Syntax n)) input before after old new no_read takes p = record { input = input; takes = takes; works = p }
some stops (Err Limit) input before after old new no_read takes p = record { input = input; takes = takes; works = p }
some stops (Err Write) input before after old new no_read takes p = record { input = input; takes = takes; works = p }
some stops (Err Stuck) input before after old new no_read takes p = record { input = input; takes = takes; works = p }
some stops (Err Read) input before after old new no_read takes p = absurd (no_read refl)
some stops (Err Memory) input before after old new no_read takes p = p

-- the answer for the bytes that were taken is the answer for all bytes
pub exact : (stops : ℕ → ℕ → Type 0) (before after : Option (List ℕ)) (taken : List ℕ) (r : Result Bool WorkFault) (old new : Option (List ℕ))
    → Takes before after taken → Works stops r taken old new → IfSome before (λ xs. Works stops r xs old new)
exact stops None after taken r old new takes p = tt
exact stops (Some xs) after taken r old new takes p =
    let same : script_in xs ≡ script_in taken = same_script xs after taken takes in subst (λ s. TellsWork stops r s old new) (sym same) p

-- if no worker was refused, the script's own report was written
pub script_written : (stops : ℕ → ℕ → Type 0) (r : Result Bool WorkFault) (input : List ℕ) (p : Plan) (old new : Option (List ℕ)) → Works stops r input old new → script_in input ≡ Ok p → r ≡ Ok true
    → Appends old new (script_text p)
script_written stops r input p old new works says ok =
    let told : TellsWork stops (Ok true) (Ok p) old new = subst (λ x. TellsWork stops x (Ok p) old new) ok (subst (λ s. TellsWork stops r s old new) says works) in
    subst (λ t. Appends old new t) (script_told p told.text (plan_only input p says).1 told.report) told.appended

pub script : (stops : ℕ → ℕ → Type 0) (before after : Option (List ℕ)) (taken : List ℕ) (r : Result Bool WorkFault) (old new : Option (List ℕ))
    → Takes before after taken → Works stops r taken old new → IfSome before (λ xs. (p : Plan) → script_in xs ≡ Ok p → r ≡ Ok true → Appends old new (script_text p))
script stops None after taken r old new takes works = tt
script stops (Some xs) after taken r old new takes works = λ p says ok. script_written stops r taken p old new works (sym (same_script xs after taken takes) ∙ says) ok
