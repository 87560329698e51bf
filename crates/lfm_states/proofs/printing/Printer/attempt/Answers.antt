use Rattle.lfm_states.proofs.printing.Printer.attempt.Goals as goal

pub returns : goal.returns
returns g c = record {
  target = c.in_ok-target.target;
  number = rw (c.count.ensures.keys, ← c.in_ok-made.ensures.target) c.in_ok-target.ensures.number;
  printed = record {
    made = c.in_ok-made.made;
    event_is = c.in_ok-made.ensures.event;
    turn_is = c.in_ok-made.ensures.turn;
    shown_is = c.in_ok-made.ensures.shown;
    line = rw (← c.number_of.ensures.texts, ← c.count.ensures.texts) c.in_ok-print_event.ensures;
  };
}
