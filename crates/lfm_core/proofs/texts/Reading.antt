-- A fact about the lines that a text spells: those that ask for steps ask for 1 to 999.
use Rattle.std.proofs.Common.{◌≡◌, ◌+◌, ◌==◌, ◌&&◌, nat_le, ℕ, Bool, true, false, cond, List, [], ◌∷◌, Option, Some, None, Result, Ok, Err, IfSome, IfOk, All, refl, arith, tests, codes}
use Rattle.std.proofs.lemmas.List.Elements.{All-nil, All-cons}
use Rattle.std.specs.Str.{bytes_eq}
use Rattle.lfm_protocol.specs.declared.answers.Call.TheVariants.{Lock, TryLock, Unlock, StartWait, Receive}
use Rattle.lfm_core.specs.declared.text.schedule.Act.{Act}
use Rattle.lfm_core.specs.declared.text.schedule.Act.TheVariants.{Begin, Steps, ToEnd}
use Rattle.lfm_core.specs.declared.text.schedule.Line.{Line}
use Rattle.lfm_core.specs.declared.text.faults.ReplayFault.{ReplayFault}
use Rattle.lfm_core.specs.declared.text.faults.ReplayFault.TheVariants.{Syntax}
use Rattle.lfm_text.specs.Text.{number_of, words_of}
use Rattle.lfm_text.specs.Grammar.{in_front, lines_from}
use Rattle.lfm_core.specs.text.Grammar.{max_steps, steps_of, plain_act_of, act_of, seat_line, send_act, line_of, schedules, HasFewSteps}

-- the act, if there is one, asks for few steps
record FewSteps (act : Option Act) : Type 0 where
  few : IfSome act HasFewSteps

either : (t : Bool) (a b : Option Act) → FewSteps a → FewSteps b → FewSteps (cond t a b)
either true a b first second = first
either false a b first second = second

few_steps_of : (n : Option ℕ) → FewSteps (steps_of n)
few_steps_of None = record { few = tt }
few_steps_of (Some k) = within (nat_le 1 k && nat_le k max_steps) refl
  where
    within : (t : Bool) → (nat_le 1 k && nat_le k max_steps) ≡ t → FewSteps (cond t (Some (Steps k)) None)
    within true e = record { few = grind (arith, tests) }
    within false e = record { few = tt }

few_in_plain : (word : List ℕ) → FewSteps (plain_act_of word)
few_in_plain word =
    let one : FewSteps (Some (Steps 1)) = record { few = (omega arith, omega arith) } in
    let end : FewSteps (Some ToEnd) = record { few = tt } in
    let lock : FewSteps (Some (Begin Lock)) = record { few = tt } in
    let try : FewSteps (Some (Begin TryLock)) = record { few = tt } in
    let unlock : FewSteps (Some (Begin Unlock)) = record { few = tt } in
    let wait : FewSteps (Some (Begin StartWait)) = record { few = tt } in
    let receive : FewSteps (Some (Begin Receive)) = record { few = tt } in
    let none : FewSteps None = record { few = tt } in
    either _ _ _ one (either _ _ _ end (either _ _ _ lock (either _ _ _ try (either _ _ _ unlock (either _ _ _ wait (either _ _ _ receive none))))))

few_in_act : (word : List ℕ) → FewSteps (act_of word)
few_in_act [] = few_in_plain []
few_in_act (c ∷ cs) = either (c == 43) (steps_of (number_of cs)) (plain_act_of (c ∷ cs)) (few_steps_of (number_of cs)) (few_in_plain (c ∷ cs))

few_in_send : (target : Option ℕ) → FewSteps (send_act target)
few_in_send None = record { few = tt }
few_in_send (Some t) = record { few = tt }

abbrev FewStepsInLine : Option Line → Type 0
FewStepsInLine line = IfSome line (λ l. HasFewSteps l.act)

few_in_seat : (seat : Option ℕ) (act : Option Act) → FewSteps act → FewStepsInLine (seat_line seat act)
few_in_seat None act few = tt
few_in_seat (Some s) None few = tt
few_in_seat (Some s) (Some a) few = few.few

either_line : (t : Bool) (line : Option Line) → FewStepsInLine line → FewStepsInLine (cond t line None)
either_line true line few = few
either_line false line few = tt

few_in_line : (words : List (List ℕ)) → FewStepsInLine (line_of words)
few_in_line [] = tt
few_in_line (seat ∷ []) = tt
few_in_line (seat ∷ act ∷ []) = few_in_seat (number_of seat) (act_of act) (few_in_act act)
few_in_line (seat ∷ call ∷ target ∷ []) =
    either_line (bytes_eq call (codes "send_lock")) _ (few_in_seat (number_of seat) (send_act (number_of target)) (few_in_send (number_of target)))
few_in_line (a ∷ b ∷ c ∷ d ∷ more) = tt

few_in_front : (fault : ReplayFault) (line : Option Line) (r : Result (List Line) ReplayFault) → FewStepsInLine line → IfOk r (λ ls. All (λ l. HasFewSteps l.act) ls) → IfOk (in_front fault line r) (λ ls. All (λ l. HasFewSteps l.act) ls)
few_in_front fault None r few others = tt
few_in_front fault (Some line) (Ok lines) few others = All-cons (λ l. HasFewSteps l.act) line lines few others
few_in_front fault (Some line) (Err later) few others = tt

few_in_lines : (number : ℕ) (texts : List (List ℕ)) → IfOk (lines_from schedules number texts) (λ ls. All (λ l. HasFewSteps l.act) ls)
few_in_lines number [] = All-nil (λ l. HasFewSteps l.act)
few_in_lines number (text ∷ texts) =
    few_in_front (Syntax number) (line_of (words_of text)) (lines_from schedules (number + 1) texts) (few_in_line (words_of text)) (few_in_lines (number + 1) texts)

-- Lines that were read ask for 1 to 999 steps. By induction on the texts
pub few_steps : (number : ℕ) (texts : List (List ℕ)) (lines : List Line) → lines_from schedules number texts ≡ Ok lines → All (λ l. HasFewSteps l.act) lines
few_steps number texts lines e = rw e at (few_in_lines number texts)
