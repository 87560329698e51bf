use Rattle.std.proofs.Common.{◌∷◌, []}
use Rattle.lfm_core.specs.text.Trace.{state_text}
use Rattle.lfm_shown.specs.Graphs.{Name, texts_of_seats}
use Rattle.lfm_shown.specs.Printed.{Prints}
use Rattle.lfm_shown.specs.Texts.{link_text}
use Rattle.lfm_shown.proofs.graphs.texts.Texts.numbers_of.Given as goal

-- The numbers so far are those of what the trace shows, of the push word, and of the seats so far; these texts were printed, if
-- they were new.
abbrev pub invariant-seats : goal.invariant-seats
invariant-seats g l = record {
  named : Name l.self l.numbers.items (state_text l.state ∷ link_text l.state.push ∷ texts_of_seats l.state l.s);
  printed : Prints (g.W.Write.contents l.fn.writer) (g.W.Write.contents l.writer) l.fn.self l.self (state_text l.state ∷ link_text l.state.push ∷ texts_of_seats l.state l.s) [];
}
