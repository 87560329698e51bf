-- A whole text is read as a schedule if and only if it spells it. Limit is returned if and only if the text is too long or out
-- of range.
use Rattle.std.proofs.Common.{◌≡◌, ◌≢◌, ◌≤◌, ◌<◌, ◌^◌, ◌⊎◌, inl, inr, ℕ, Bool, true, false, cond, List, Result, Ok, Err, refl, ◌∙◌, arith, tests}
use Rattle.lfm_core.specs.declared.text.schedule.Line.{Line}
use Rattle.lfm_core.specs.declared.text.faults.ReplayFault.{ReplayFault}
use Rattle.lfm_core.specs.declared.text.faults.ReplayFault.TheVariants.{Syntax, Limit}
use Rattle.lfm_text.specs.Text.{is_past_limit}
use Rattle.lfm_core.specs.text.Grammar.{Plan, schedules, plan_in, in_limits}
use Rattle.lfm_protocol.specs.declared.limits.Limits.{Limits}
use Rattle.lfm_protocol.specs.Limits.{max_seats, max_budget, are_in_limits}
use Rattle.lfm_core.specs.text.Spelling.{line_spelling, header_spelling, plan_spelling, IsWritable, IsWritablePlan, SpellsFirst, SpellsWritable, SpellsPlan, SpellsOutOfRange}
use Rattle.lfm_text.proofs.FirstFaults.{AreApart}
use Rattle.lfm_text.proofs.Spelled.{AreSpelled, Says, said_all, said_only, limit_only, written}
use Rattle.lfm_core.proofs.texts.Decoding.{spelled_decodes, spelled_header_decodes, no_feed_in_line, no_feed_in_header}
use Rattle.lfm_core.proofs.texts.Spelled.{line_only, header_only}

-- the faults of schedules differ
pub apart : AreApart schedules
apart = record { number = λ m n e. cc; limit = λ n e. cc; whole = whole_no_line; empty = refl }
  where
    whole_no_line : (limits : Limits) (ls : List Line) (n : ℕ) → in_limits limits ls ≢ Err (Syntax n)
    whole_no_line limits ls n = by_test (are_in_limits limits.seats limits.budget)
      where
        by_test : (t : Bool) → ◌≢◌ {A = Result Plan ReplayFault} (cond t (Ok (record { seats = limits.seats; budget = limits.budget; lines = ls })) (Err Limit)) (Err (Syntax n))
        by_test true = λ e. cc
        by_test false = λ e. cc

-- a single line is read as a line of a schedule if and only if it spells it
spelled : AreSpelled schedules SpellsFirst SpellsWritable
spelled = record {
  first_only = λ text limits e. header_only text limits.seats limits.budget e;
  first_all = λ text limits spells. spelled_header_decodes text limits.seats limits.budget spells.0 spells.1 spells.2;
  line_only = line_only;
  line_all = λ text l spells. spelled_decodes text l spells.0 spells.1;
}

within : (n b : ℕ) → are_in_limits n b ≡ true → ((1 ≤ n) × (n ≤ max_seats)) × ((1 ≤ b) × (b ≤ max_budget))
within n b inside = search (tests, arith)

-- a text that is read as a plan spells it
pub plan_only : (text : List ℕ) (p : Plan) → plan_in text ≡ Ok p → SpellsPlan text p
plan_only text p e =
    let says = said_only schedules SpellsFirst SpellsWritable spelled text p e in
    by_test says (are_in_limits says.head.seats says.head.budget) refl says.answers
  where
    by_test : (says : Says schedules SpellsFirst SpellsWritable spelled text (Ok p)) (t : Bool) → are_in_limits says.head.seats says.head.budget ≡ t
        → ◌≡◌ {A = Result Plan ReplayFault} (Ok p) (cond t (Ok (record { seats = says.head.seats; budget = says.head.budget; lines = says.lines })) (Err Limit)) → SpellsPlan text p
    by_test says true inside e =
        let plan : record { seats = says.head.seats; budget = says.head.budget; lines = says.lines } ≡ p = cc in
        let limits = within says.head.seats says.head.budget inside in
        rw (← plan) (record { lines = says.spells; seats = limits.0; budget = limits.1 })
    by_test says false inside e = absurd (cc)

-- a text whose lines spell a plan is read as it
pub plan_all : (text : List ℕ) (p : Plan) → SpellsPlan text p → plan_in text ≡ Ok p
plan_all text p spells =
    let inside : are_in_limits p.seats p.budget ≡ true = search (tests, arith, spells.seats.0, spells.seats.1, spells.budget.0, spells.budget.1) in
    said_all schedules SpellsFirst SpellsWritable spelled text (record { seats = p.seats; budget = p.budget }) p.lines spells.lines ∙ rw inside refl

-- a text for which Limit is returned is too long, or its numbers are out of range
pub plan_limit : (text : List ℕ) → plan_in text ≡ Err Limit → (is_past_limit text ≡ true) ⊎ SpellsOutOfRange text
plan_limit text e = elim (limit_only schedules SpellsFirst SpellsWritable spelled apart text e) [ inl past ↦ inl past | inr says ↦ inr (by_test says (are_in_limits says.head.seats says.head.budget) refl says.answers) ]
  where
    by_test : (says : Says schedules SpellsFirst SpellsWritable spelled text (Err Limit)) (t : Bool) → are_in_limits says.head.seats says.head.budget ≡ t
        → ◌≡◌ {A = Result Plan ReplayFault} (Err Limit) (cond t (Ok (record { seats = says.head.seats; budget = says.head.budget; lines = says.lines })) (Err Limit)) → SpellsOutOfRange text
    by_test says true inside e = absurd (cc)
    by_test says false inside e = record { limits = says.head; lines = says.lines; spells = says.spells; outside = inside }

-- a text whose only fault is that its numbers are out of range has the fault Limit
pub plan_range : (text : List ℕ) → SpellsOutOfRange text → plan_in text ≡ Err Limit
plan_range text spells =
    let outside = spells.outside in
    said_all schedules SpellsFirst SpellsWritable spelled text spells.limits spells.lines spells.spells ∙ rw outside refl

-- A whole plan that is written in full is read back
pub plan_decodes : (p : Plan) → IsWritablePlan p → plan_in (plan_spelling p) ≡ Ok p
plan_decodes p writable =
    let small : p.seats < 10 ^ 18 = omega (arith, writable.seats.1) in
    let short : p.budget < 10 ^ 18 = omega (arith, writable.budget.1) in
    let first = header_spelling p.seats p.budget in
    plan_all (plan_spelling p) p (record {
      lines = written line_spelling SpellsWritable IsWritable no_feed_in_line (λ l fits. (inl refl, fits)) SpellsFirst first (record { seats = p.seats; budget = p.budget }) p.lines
          (no_feed_in_header p.seats p.budget small short) (inl refl, small, short) writable.lines writable.short;
      seats = writable.seats;
      budget = writable.budget;
    })
