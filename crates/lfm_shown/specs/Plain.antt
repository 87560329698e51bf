-- The plain data of a seat.
use Rattle.std.specs.Prelude.{ℕ}
use Rattle.lfm_protocol.specs.Core.{Core}
use Rattle.lfm_protocol.specs.Seats.{seat}
use Rattle.lfm_shown.specs.declared.events.Plain.{Plain}

abbrev pub plain_of : Core → ℕ → Plain
plain_of c s = record { depth = (seat c.seats s).depth; takes = (seat c.seats s).takes; posts = (seat c.seats s).posts }
