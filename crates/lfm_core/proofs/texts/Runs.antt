-- The text of a run, line by line.
use Rattle.std.proofs.Common.{◌≡◌, ◌≤◌, ◌<◌, ◌+◌, ◌&&◌, ℕ, Bool, true, false, not, List, ◌++◌, length, get_or, drop, Option, Result, Ok, Err, refl, sym, ◌∙◌, ap, arith, drop-cons, add-one}
use Rattle.std.specs.Prelude.{IsErrAnd}
use Rattle.std.proofs.lemmas.List.{drop_all}
use Rattle.lfm_protocol.specs.declared.answers.Turn.{Turn}
use Rattle.lfm_core.specs.declared.text.schedule.Line.{Line}
use Rattle.lfm_text.specs.declared.faults.WriteFault.{WriteFault}
use Rattle.lfm_protocol.specs.Core.{Core}
use Rattle.lfm_core.specs.text.Lines.{line_moved}
use Rattle.lfm_core.specs.text.Trace.{line_text, lines_text, none_refused}
use Rattle.lfm_protocol.specs.Turns.{is_refused}
use Rattle.lfm_text.specs.Writing.{Writes}
use Rattle.lfm_text.proofs.Writes.{wrote_then, failed_within, written_nothing}

-- the text of the remaining lines begins with that of the first of them
lines_text-drop : (n i : ℕ) (c : Core) (lines : List Line) (d : Line) → i < length lines
    → lines_text n c (drop i lines)
    ≡ line_text n (get_or lines i d) (line_moved c (get_or lines i d)).turn (line_moved c (get_or lines i d)).core
    ++ lines_text (n + 1) (line_moved c (get_or lines i d)).core (drop (i + 1) lines)
lines_text-drop n i c lines d more = rw (add-one i, drop-cons lines i d) refl

none_refused-drop : (i : ℕ) (c : Core) (lines : List Line) (d : Line) → i < length lines
    → none_refused c (drop i lines)
    ≡ (not (is_refused (line_moved c (get_or lines i d)).turn) && none_refused (line_moved c (get_or lines i d)).core (drop (i + 1) lines))
none_refused-drop i c lines d more = rw (add-one i, drop-cons lines i d) refl

and_assoc : (a b c : Bool) → (a && b && c) ≡ (a && (b && c))
and_assoc true b c = refl
and_assoc false b c = refl

module _ (i : ℕ) (c after : Core) (turn : Turn) (lines : List Line) (d : Line) (more : i < length lines)
    (at_core : after ≡ (line_moved c (get_or lines i d)).core) (at_turn : turn ≡ (line_moved c (get_or lines i d)).turn) where
  begins : lines_text (i + 2) c (drop i lines) ≡ line_text (i + 2) (get_or lines i d) turn after ++ lines_text (i + 1 + 2) after (drop (i + 1) lines)
  begins =
      let next : i + 1 + 2 ≡ i + 2 + 1 = omega arith in
      rw (at_core, at_turn, next) (lines_text-drop (i + 2) i c lines d more)

  -- the line was written, so if the text of those after it is written next, the text from this line on is
  pub line_written : (old mid new : Option (List ℕ)) (r : Result Bool WriteFault) → Writes {T = Unit {0}} old mid (line_text (i + 2) (get_or lines i d) turn after) (Ok tt)
      → Writes mid new (lines_text (i + 1 + 2) after (drop (i + 1) lines)) r → Writes old new (lines_text (i + 2) c (drop i lines)) r
  line_written old mid new r p q = rw begins (wrote_then old mid new _ _ tt r p q)

  pub line_failed : (old mid : Option (List ℕ)) (fault : WriteFault) (r : Result Bool WriteFault)
      → Writes {T = Unit {0}} old mid (line_text (i + 2) (get_or lines i d) turn after) (Err fault)
      → IsErrAnd r (λ y. y ≡ fault) → Writes old mid (lines_text (i + 2) c (drop i lines)) r
  line_failed old mid fault r p e = rw begins (failed_within old mid _ _ fault r p e)

  pub verdict_next : (b refused : Bool) → refused ≡ is_refused turn → (b && not refused && none_refused after (drop (i + 1) lines)) ≡ (b && none_refused c (drop i lines))
  verdict_next b refused told =
      and_assoc b (not refused) (none_refused after (drop (i + 1) lines))
      ∙ ap (λ x. b && x) (rw (told, at_core, at_turn) (sym (none_refused-drop i c lines d more)))

-- no line remains, so the whole text was written
pub lines_end : (a : Option (List ℕ)) (n i : ℕ) (c : Core) (lines : List Line) (b : Bool) → length lines ≤ i → Writes a a (lines_text n c (drop i lines)) (Ok b)
lines_end a n i c lines b past = rw (drop_all i lines past) (written_nothing a b)
