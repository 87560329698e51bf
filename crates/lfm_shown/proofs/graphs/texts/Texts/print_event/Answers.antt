use Rattle.std.proofs.Common.{◌≡◌, ◌∷◌, [], ℕ, Some, slice_get, subst}
use Rattle.lfm_shown.specs.EventTexts.{event_text}
use Rattle.lfm_shown.specs.Graphs.{event_line}
use Rattle.lfm_shown.specs.Printed.{Prints}
use Rattle.lfm_shown.proofs.PrintedTexts.{prints_line}
use Rattle.lfm_shown.proofs.graphs.texts.Texts.print_event.Goals as goal

pub returns : goal.returns
returns g c =
    let named = subst (λ t. slice_get c.number_of.new.self c.in_ok-number.number ≡ Some t) c.in_ok-text.ensures c.in_ok-number.ensures.named in
    let text = subst (λ t. Prints (g.W.Write.contents c.args.writer.now) (g.W.Write.contents c.number_of.new.writer) c.args.self.now c.number_of.new.self (t ∷ []) []) c.in_ok-text.ensures c.in_ok-number.ensures.printed in
    record {
      number = c.in_ok-number.number;
      named = named;
      printed = subst (λ (s : ℕ). Prints (g.W.Write.contents c.args.writer.now) (g.W.Write.contents c.write_event_line.new.writer) c.args.self.now c.number_of.new.self
          (event_text c.args.made.now ∷ []) (event_line s c.in_ok-number.number c.args.target))
          c.seat.ensures (prints_line _ _ _ _ _ _ _ text c.in_ok-write_event_line.ensures.outcome);
    }
