use Rattle.std.proofs.Common.{subst, sym}
use Rattle.example_time_limit.specs.declared.desk.Party.{Party}
use Rattle.example_time_limit.specs.Parties.{IsReady}
use Rattle.example_time_limit.proofs.ask.Goals as goal
use Rattle.example_time_limit.proofs.ask.Goals.{in-Woken, in-TimedOut+in_ok-change-in-TimedOut}

-- the client is out after its first wait, and again after the reminder
pub wait_until_it_is-requires : goal.wait_until_it_is-requires
wait_until_it_is-requires g c = let ready = (λ (p : Party). IsReady p c.args.desk.now) in
    elim c.match-waited.branch [
      | in-Woken w ↦ subst ready (sym w.party-is) (c.in_ok-waited.ensures.belongs, c.in_ok-waited.ensures.out)
      | in-TimedOut+in_ok-change-in-TimedOut w ↦ subst ready (sym w.party-is) (w.in_ok-change-in-TimedOut.ensures.belongs, w.in_ok-change-in-TimedOut.ensures.left.0)
    ]
