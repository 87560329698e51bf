use Rattle.std.proofs.Common.{rules, ◌∙◌, ◌∷◌, [], length, sym, arith, ap, length-append}
use Rattle.lfm_text.specs.Text.{lines_of}
use Rattle.lfm_core.specs.text.Grammar.{schedules}
use Rattle.lfm_text.proofs.Reading.{goes_on}
use Rattle.lfm_core.proofs.text.schedule.read_lines.Goals as goal

pub reading-preserved : goal.reading-preserved
reading-preserved c =
    let grew = c.push_reserved.ensures.items in
    let lengths = length-append c.reading.lines.items (c.in-Some-read_line.line ∷ []) in
    record {
      said = rw grew (goes_on schedules c.reading.number c.reading.lines.items (lines_of c.reading.rest.now) (lines_of c.in-Some.after.now) c.in-Some.line.now c.in-Some-read_line.line c.in-Some.ensures.first (sym c.in-Some-read_line.ensures) ∙ c.reading.invariant.said);
      counted = rw grew (omega (arith, lengths, c.reading.invariant.counted, ap length c.in-Some.ensures.first));
      numbered = rw grew (omega (arith, lengths, c.reading.invariant.numbered));
      room = c.push_reserved.ensures.capacity ∙ c.reading.invariant.room;
    }

pub reading-init : goal.reading-init
reading-init c = search rules

pub returns-in-None-clause-said : goal.returns-in-None-clause-said
returns-in-None-clause-said c = search rules
