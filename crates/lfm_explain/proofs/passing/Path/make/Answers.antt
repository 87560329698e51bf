use Rattle.lfm_explain.proofs.passing.Path.make.Goals as goal

pub returns-clause-printed : goal.returns-clause-printed
returns-clause-printed g c = record {
  between = g.W.Write.contents c.print_event.new.writer;
  texts = c.print_event.new.self;
  event = record {
    made = c.make-made.result;
    event_is = c.make-made.ensures.event;
    turn_is = c.make-made.ensures.turn;
    shown_is = c.make-made.ensures.shown;
    line = c.in_ok-print_event.ensures;
  };
  state = rw (← c.make-made.ensures.core) c.in_ok-print_state.ensures.printed;
}
