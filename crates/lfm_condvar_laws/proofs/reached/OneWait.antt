-- A run in which a wait ends. By computation.
use Rattle.std.proofs.Common.{false, [], ◌∷◌, refl}
use Rattle.lfm_protocol.specs.declared.answers.Call.TheVariants.{Lock}
use Rattle.lfm_protocol.specs.Seats.{entry, with_entry}
use Rattle.lfm_condvar_laws.specs.Events.{begins, waits, wakes, makes}
use Rattle.lfm_condvar_laws.specs.Laws.{CondvarRun, WaitsCanEnd}

-- seat 1 locks and waits, seat 2 wakes it, and seat 1 receives
one_wait : CondvarRun
one_wait =
    record {
      limits = record { seats = 2; budget = 4 };
      events =
          begins 1 Lock ∷ makes 1 ∷ makes 1 ∷ waits 1 1 ∷ makes 1 ∷ makes 1 ∷ makes 1 ∷ makes 1 ∷ makes 1
          ∷ wakes 2 1 false ∷ makes 2 ∷ makes 2 ∷ makes 2 ∷ makes 2 ∷ makes 2
          ∷ makes 2 ∷ makes 1 ∷ makes 1 ∷ makes 1 ∷ makes 1 ∷ [];
      allowed = refl;
    }

pub waits_can_end : WaitsCanEnd
unfolding one_wait entry with_entry
waits_can_end = record { run = one_wait; seat = 1; condvar = 1; ticket = 1; waits = refl; holds = refl }
