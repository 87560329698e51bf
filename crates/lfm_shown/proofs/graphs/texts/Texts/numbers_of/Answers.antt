use Rattle.std.proofs.Common.{◌∷◌, [], ap, map, slice_get}
use Rattle.lfm_core.specs.text.Trace.{state_text}
use Rattle.lfm_shown.specs.Graphs.{texts_of_seats}
use Rattle.lfm_shown.specs.Texts.{link_text}
use Rattle.lfm_shown.proofs.Named.{named_two, named_seat}
use Rattle.lfm_shown.proofs.PrintedTexts.{prints_nothing, prints_then, prints_two, prints_seat}
use Rattle.lfm_shown.proofs.graphs.texts.Texts.numbers_of.Goals as goal

pub seats-init : goal.seats-init
seats-init g c =
    let none = ap (map (slice_get c.args.self.now)) c.new-numbers.ensures.items in
    let one = c.in_ok-name.ensures.named [] none in
    let two = c.in_ok-name-2.ensures.named (c.in_ok-trace_text_of.field-0.items ∷ []) one in
    let first = prints_then _ _ _ _ _ _ [] _ (prints_nothing _ _) c.in_ok-name.ensures.printed in
    record {
      named = named_two _ _ _ _ _ _ c.in_ok-trace_text_of.ensures c.in_ok-push_text_of.ensures two;
      printed = prints_two _ _ _ _ _ _ _ _ c.in_ok-trace_text_of.ensures c.in_ok-push_text_of.ensures (prints_then _ _ _ _ _ _ _ _ first c.in_ok-name-2.ensures.printed);
    }

pub seats-preserved : goal.seats-preserved
seats-preserved g c =
    let now = c.args.state.now in
    let more = c.in_ok-name-3.ensures.named (state_text now ∷ link_text now.push ∷ texts_of_seats now c.seats.s) c.seats.invariant.named in
    record {
      named = named_seat _ _ now c.seats.s _ c.in_ok-seat_text_of.ensures more;
      printed = prints_seat _ _ _ _ now c.seats.s _ c.in_ok-seat_text_of.ensures (prints_then _ _ _ _ _ _ _ _ c.seats.invariant.printed c.in_ok-name-3.ensures.printed);
    }
