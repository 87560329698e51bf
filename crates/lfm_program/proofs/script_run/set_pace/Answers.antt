use Rattle.std.proofs.Common.{◌≡◌, ◌+◌, ℕ, List, sym, ◌∙◌, ap, subst}
use Rattle.lfm_model.specs.declared.objects.Total.{Total}
use Rattle.lfm_model.specs.declared.objects.TotalOp.{TotalOp}
use Rattle.lfm_mutex.specs.calls.Sight.{new_sight}
use Rattle.lfm_monitor.specs.declared.monitor.Monitor.{Monitor}
use Rattle.lfm_monitor.specs.declared.pass.Pass.{Pass}
use Rattle.lfm_monitor.specs.Belongs.{OfMonitor, cond_seats_of, conditions_in, opening_of, plain_conditions_in, plain_seats_of, share_of}
use Rattle.lfm_monitor.specs.CondSeats.{AreNewSeats, SameButPaces}
use Rattle.lfm_monitor.specs.PlainSeats.{AreNewPlainSeats, SamePlainButPaces}
use Rattle.lfm_program.specs.ScriptRuns.{MadeReady}
use Rattle.lfm_program.proofs.script_run.set_pace.Goals as goal

module _ {R : Type 0} {K : _} where
  -- MadeReady does not depend on the pace
  still_ready : (workers conditions : ℕ) (m n : Monitor Total TotalOp R K) (ps : List (Pass Total TotalOp R K)) → n.mutex.limits ≡ m.mutex.limits → opening_of n ≡ opening_of m → share_of n ≡ share_of m
      → SameButPaces (conditions_in m) (conditions_in n) → SamePlainButPaces (plain_conditions_in m) (plain_conditions_in n) → ((p : Pass Total TotalOp R K) → OfMonitor p m → OfMonitor p n) → MadeReady workers conditions m ps → MadeReady workers conditions n ps
  still_ready workers conditions m n ps limits opening share same plain belongs ready = record {
    opening = opening ∙ ready.opening;
    monitor_has = ap (λ l. l.seats) limits ∙ ready.monitor_has;
    share = share ∙ ready.share;
    conditions_are = sym same.long ∙ ready.conditions_are;
    sent = sym plain.long ∙ ready.sent;
    count = ready.count;
    passes = λ j p at. let new = ready.passes j p at in record {
      belongs = belongs p new.belongs;
      empty = new.empty;
      nothing = new.nothing;
      sees = new.sees ∙ ap (λ l. new_sight new.empty l.seats (j + 1)) (sym limits);
      counts = new.counts;
      cond_seats = subst (λ l. AreNewSeats l.seats (j + 1) (cond_seats_of p)) (sym limits) new.cond_seats;
      plain_seats = subst (λ l. AreNewPlainSeats l.seats (j + 1) (plain_seats_of p)) (sym limits) new.plain_seats;
    };
  }

pub returns : goal.returns
returns g c = λ workers conditions ps ready. let e = c.set_pace.ensures in
    still_ready workers conditions c.args.monitor.now c.set_pace.new.self ps e.same.1 (ap (λ o. o.value) e.same.2) e.same.3 e.same.4 e.plain_same e.belongs ready
