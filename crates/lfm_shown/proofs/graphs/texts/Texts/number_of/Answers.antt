use Rattle.std.proofs.Common.{Ok, List, ℕ, subst}
use Rattle.lfm_shown.specs.Graphs.{text_lines}
use Rattle.lfm_shown.specs.Printed.{new_text}
use Rattle.lfm_text.specs.Writing.{Writes}
use Rattle.lfm_shown.proofs.PrintedTexts.{prints_text}
use Rattle.lfm_shown.proofs.graphs.texts.Texts.number_of.Goals as goal

pub returns-clause-printed : goal.returns-clause-printed
returns-clause-printed g c =
    let written = subst (λ (t : List ℕ). Writes {T = Unit {0}} (g.W.Write.contents c.args.writer.now) (g.W.Write.contents c.write_if_new.new.writer) (text_lines (new_text c.args.self.now t)) (Ok tt))
    c.as_slice.ensures.value c.in_ok-write_if_new.ensures in
    prints_text _ _ _ _ _ written c.in_ok-number.ensures.all
