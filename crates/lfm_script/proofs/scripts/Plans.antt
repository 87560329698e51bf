-- A whole text is read as a script exactly if it spells it, and Limit is answered exactly if it is too long or out of range.
use Rattle.std.proofs.Common.{◌≡◌, ◌≢◌, ◌⊎◌, inl, inr, ℕ, Bool, true, false, cond, List, Result, Ok, Err, refl, ◌∙◌, ap}
use Rattle.lfm_text.specs.Text.{words_of, is_past_limit}
use Rattle.lfm_text.proofs.FirstFaults.{AreApart}
use Rattle.lfm_text.proofs.Spelled.{AreSpelled, Says, said_all, said_only, limit_only, written}
use Rattle.lfm_script.specs.declared.script.ScriptLine.{ScriptLine}
use Rattle.lfm_script.specs.declared.faults.WorkFault.{WorkFault}
use Rattle.lfm_script.specs.declared.faults.WorkFault.TheVariants.{Syntax, Limit}
use Rattle.lfm_script.specs.script.Grammar.{Plan, plan_allowed, in_limits, scripts, script_in}
use Rattle.lfm_script.specs.script.Spelling.{line_spelling, header_spelling, plan_spelling, IsWritable, IsWritablePlan, SpellsFirst, Spells, SpellsPlan}
use Rattle.lfm_script.proofs.scripts.Decoding.{line_decodes, header_decodes, no_feed_in_line, no_feed_in_header}
use Rattle.lfm_script.proofs.scripts.Spelled.{line_only, header_only}

-- the plan of a first line and the lines after it
abbrev plan : ℕ × ℕ → List ScriptLine → Plan
plan h ls = record { workers = h.0; conditions = h.1; lines = ls }

-- the faults of scripts differ
pub apart : AreApart scripts
apart = record { number = λ m n e. cc; limit = λ n e. cc; whole = whole_no_line; empty = refl }
  where
    whole_no_line : (h : ℕ × ℕ) (ls : List ScriptLine) (n : ℕ) → in_limits h ls ≢ Err (Syntax n)
    whole_no_line h ls n = by_test (plan_allowed (plan h ls))
      where
        by_test : (t : Bool) → ◌≢◌ {A = Result Plan WorkFault} (cond t (Ok (plan h ls)) (Err Limit)) (Err (Syntax n))
        by_test true = λ e. cc
        by_test false = λ e. cc

-- single lines are read as exactly the lines that they spell
spelled : AreSpelled scripts SpellsFirst Spells
spelled = record {
  first_only = λ text h e. header_only text h.0 h.1 e;
  first_all = λ text h spells. ap (λ t. scripts.first (words_of t)) spells.0 ∙ header_decodes h.0 h.1 spells.1 spells.2;
  line_only = line_only;
  line_all = λ text l spells. ap (λ t. scripts.line (words_of t)) spells.0 ∙ line_decodes l spells.1;
}

-- a text whose lines are those of the plan
says : (text : List ℕ) (p : Plan) (t : Bool) → SpellsPlan text p → plan_allowed p ≡ t → script_in text ≡ cond t (Ok p) (Err Limit)
says text p t spells allowed =
    said_all scripts SpellsFirst Spells spelled text (p.workers, p.conditions) p.lines spells ∙ ap (λ b. cond b (Ok p) (Err Limit)) allowed

pub plan_all : (text : List ℕ) (p : Plan) → SpellsPlan text p → plan_allowed p ≡ true → script_in text ≡ Ok p
plan_all text p spells allowed = says text p true spells allowed

pub plan_range : (text : List ℕ) (p : Plan) → SpellsPlan text p → plan_allowed p ≡ false → script_in text ≡ Err Limit
plan_range text p spells allowed = says text p false spells allowed

-- a text that is read as a script spells it
pub plan_only : (text : List ℕ) (p : Plan) → script_in text ≡ Ok p → SpellsPlan text p × (plan_allowed p ≡ true)
plan_only text p e =
    let says = said_only scripts SpellsFirst Spells spelled text p e in
    by_test says (plan_allowed (plan says.head says.lines)) refl says.answers
  where
    by_test : (says : Says scripts SpellsFirst Spells spelled text (Ok p)) (t : Bool) → plan_allowed (plan says.head says.lines) ≡ t
        → ◌≡◌ {A = Result Plan WorkFault} (Ok p) (cond t (Ok (plan says.head says.lines)) (Err Limit)) → SpellsPlan text p × (plan_allowed p ≡ true)
    by_test says true allowed e = let same : plan says.head says.lines ≡ p = cc in rw (← same) (says.spells, allowed)
    by_test says false allowed e = absurd (cc)

-- Limit is answered only if the text is too long or its numbers are out of range
pub plan_limit : (text : List ℕ) → script_in text ≡ Err Limit → (is_past_limit text ≡ true) ⊎ ((p : Plan) × SpellsPlan text p × (plan_allowed p ≡ false))
plan_limit text e =
    elim (limit_only scripts SpellsFirst Spells spelled apart text e) [
      | inl past ↦ inl past
      | inr says ↦ inr (by_test says (plan_allowed (plan says.head says.lines)) refl says.answers)
    ]
  where
    by_test : (says : Says scripts SpellsFirst Spells spelled text (Err Limit)) (t : Bool) → plan_allowed (plan says.head says.lines) ≡ t
        → ◌≡◌ {A = Result Plan WorkFault} (Err Limit) (cond t (Ok (plan says.head says.lines)) (Err Limit)) → (p : Plan) × SpellsPlan text p × (plan_allowed p ≡ false)
    by_test says true allowed e = absurd (cc)
    by_test says false allowed e = (plan says.head says.lines, says.spells, allowed)

-- the spelling of a whole script has the spellings of the script's lines
pub plan_is_spelled : (p : Plan) → IsWritablePlan p → is_past_limit (plan_spelling p) ≡ false → SpellsPlan (plan_spelling p) p
plan_is_spelled p writable short =
    written line_spelling Spells IsWritable no_feed_in_line (λ l fits. (refl, fits)) SpellsFirst (header_spelling p.workers p.conditions) (p.workers, p.conditions) p.lines
    (no_feed_in_header p.workers p.conditions writable.workers writable.conditions) (refl, writable.workers, writable.conditions) writable.lines short
