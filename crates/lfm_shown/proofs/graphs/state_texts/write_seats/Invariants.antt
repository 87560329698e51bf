use Rattle.std.proofs.Common.{◌-◌, List, ℕ, Option, Result, length}
use Rattle.lfm_shown.specs.Graphs.{seats_text}
use Rattle.lfm_text.specs.declared.faults.WriteFault.{WriteFault}
use Rattle.lfm_text.specs.Writing.{Writes}
use Rattle.lfm_shown.proofs.graphs.state_texts.write_seats.Given as goal

-- If the seats that are left are written next, then all seats were written.
abbrev pub invariant-seats : goal.invariant-seats
invariant-seats g l = record {
  finishes : (new : Option (List ℕ)) (r : Result (Unit {0}) WriteFault) → Writes (g.W.Write.contents l.writer) new (seats_text l.state l.s (length l.state.seats - l.s)) r
      → Writes (g.W.Write.contents l.fn.writer) new (seats_text l.state 0 (length l.state.seats)) r;
}
