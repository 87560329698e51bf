use Rattle.std.proofs.Common.{subst}
use Rattle.lfm_shown.specs.Graphs.{state_line}
use Rattle.std.specs.Io.KnownBytes.{Appends}
use Rattle.lfm_shown.proofs.PrintedTexts.{prints_line}
use Rattle.lfm_shown.proofs.graphs.texts.Texts.print_state.Goals as goal

pub returns : goal.returns
returns g c =
    let before = g.W.Write.contents c.numbers_of.new.writer in
    let last = subst (λ ns. Appends before (g.W.Write.contents c.write_state_line.new.writer) (state_line ns)) c.deref.ensures.value c.in_ok-write_state_line.ensures.outcome in
    record {
      numbers = c.in_ok-numbers.numbers.items;
      named = c.in_ok-numbers.ensures.named;
      printed = prints_line _ _ _ _ _ _ _ c.in_ok-numbers.ensures.printed last;
    }
