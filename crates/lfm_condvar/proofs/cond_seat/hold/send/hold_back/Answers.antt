use Rattle.std.proofs.Common.{ℕ, List, Option, sym, ap, subst, append-nil}
use Rattle.lfm_mutex.specs.calls.WakeUps.{as_list}
use Rattle.lfm_mutex.specs.calls.Woken.{woken_of, WakesThese}
use Rattle.lfm_mutex.proofs.runs.RunGoesOn.{run_same}
use Rattle.lfm_condvar.specs.HeldBack.{earlier_of}
use Rattle.lfm_condvar.proofs.cond_seat.hold.send.hold_back.Goals as goal

pub returns-in-None-clause-run : goal.returns-in-None-clause-run
returns-in-None-clause-run g c = run_same

-- no wake-up was made
pub returns-in-None-clause-woken : goal.returns-in-None-clause-woken
returns-in-None-clause-woken g c = let s = c.args.seat.now in
    subst (λ (next : Option ℕ). WakesThese (as_list (earlier_of c.args.held next)) s s) (sym c.in-None.is)
    (ap (λ (l : List ℕ). record s.off_trail { woken = l }) (sym (append-nil (woken_of s))))
