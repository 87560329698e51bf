-- The explanation answers what the replay of the input answers.
use Rattle.std.proofs.Common.{◌≡◌, ℕ, Bool, List, Option, Some, None, Result, Ok, Err, IfSome, sym, ap, subst}
use Rattle.std.specs.Prelude.{IsErrAnd}
use Rattle.lfm_core.specs.declared.text.faults.ReplayFault.{ReplayFault}
use Rattle.lfm_core.specs.declared.text.faults.ReplayFault.TheVariants.{Write}
use Rattle.lfm_core.specs.declared.text.schedule.Schedule.{Schedule}
use Rattle.lfm_protocol.specs.Core.{Core}
use Rattle.lfm_core.specs.text.Grammar.{Plan, plan_in, plan_of}
use Rattle.lfm_core.specs.text.Replay.{Reads}
use Rattle.lfm_core.specs.text.Trace.{answer_of, none_refused, opening, verdict_of}
use Rattle.lfm_explain.specs.Verdicts.{AnswersVerdict, Judges, SaysVerdict}

-- the fault that `?` makes of a fault of the writer
pub write_failed : (r verdict : Result Bool ReplayFault) (old new : Option (List ℕ)) → IsErrAnd r (λ y. y ≡ Write) → AnswersVerdict r verdict old new
write_failed (Ok b) verdict old new e = absurd e
write_failed (Err y) verdict old new e = subst (λ x. AnswersVerdict (Err x) verdict old new) (sym e) tt

-- the run of a plan from its opening state
pub run_judged : (b : Bool) (p : Plan) (state : Core) → state ≡ opening p → b ≡ none_refused state p.lines
    → AnswersVerdict (Ok b) (Ok (none_refused (opening p) p.lines)) None None
run_judged b p state opens verdict = ap Ok (sym (subst (λ c. b ≡ none_refused c p.lines) opens verdict))

-- the answer of the run of a schedule that was read, if nothing was written before
pub judged : (before : Option (List ℕ)) (s : Schedule) (r : Result Bool ReplayFault) (old between new : Option (List ℕ))
    → IfSome before (λ xs. Reads (Ok s) xs old between) → between ≡ old
    → AnswersVerdict r (Ok (none_refused (opening (plan_of s)) (plan_of s).lines)) between new → IfSome before (λ xs. Judges r xs old new)
judged None s r old between new reads unwritten answers = tt
judged (Some xs) s r old between new reads unwritten answers =
    subst (λ said. AnswersVerdict r (answer_of said) old new) (sym reads)
    (subst (λ bytes. AnswersVerdict r (Ok (none_refused (opening (plan_of s)) (plan_of s).lines)) bytes new) unwritten answers)

-- the same of a run of which nothing is known of what was written
pub said : (before : Option (List ℕ)) (s : Schedule) (r : Result Bool ReplayFault) → IfSome before (λ xs. plan_in xs ≡ Ok (plan_of s))
    → SaysVerdict r (Ok (none_refused (opening (plan_of s)) (plan_of s).lines)) → IfSome before (λ xs. SaysVerdict r (verdict_of xs))
said None s r reads says = tt
said (Some xs) s r reads says = subst (λ said. SaysVerdict r (answer_of said)) (sym reads) says
