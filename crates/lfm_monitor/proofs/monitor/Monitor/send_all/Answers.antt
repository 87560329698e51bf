use Rattle.std.proofs.Common.{ℕ, refl, sym, ap, arith}
use Rattle.lfm_protocol.specs.declared.limits.Limits.{Limits}
use Rattle.lfm_mutex.specs.Belongs.{limits_of}
use Rattle.lfm_mutex.specs.calls.Sight.{Sight, sight}
use Rattle.lfm_condvar.specs.Belongs.{cond_limits, cond_sight, cond_tries}
use Rattle.lfm_condvar.specs.Wakes.{WakeAllEnds}
use Rattle.lfm_monitor.specs.Belongs.{cond_seats_of, conditions_in, conditions_of, opening_of, passes_of, share_of, tries_in}
use Rattle.lfm_monitor.specs.CondSeats.{condition_limits}
use Rattle.lfm_monitor.proofs.Knowing.{of_next}
use Rattle.lfm_monitor.proofs.Sending.{all_sent, sent_kept, sent_began, wakes_all}
use Rattle.lfm_monitor.proofs.UsedConditions.{as_told, at_place, conds_woken_none, conds_woken_one, still_of_conditions}
use Rattle.lfm_mutex.proofs.runs.Woken.{woken_none}
use Rattle.lfm_mutex.proofs.runs.RunGoesOn.{run_same}
use Rattle.lfm_monitor.proofs.monitor.Monitor.send_all.Goals as goal

pub wake_all-requires-clause-belongs : goal.wake_all-requires-clause-belongs
wake_all-requires-clause-belongs g c κs within = let a = at_place c.args.pass.now c.args.self.now c.in-Some.index _ _ c.requires.belongs c.in-Some.ensures.1 c.index_mut-cond.ensures.value c.index.ensures in (a.belongs, c.requires.belongs.0)

pub wake_all-requires-clause-wide : goal.wake_all-requires-clause-wide
wake_all-requires-clause-wide g c κs within = let a = at_place c.args.pass.now c.args.self.now c.in-Some.index _ _ c.requires.belongs c.in-Some.ensures.1 c.index_mut-cond.ensures.value c.index.ensures in let e = ap (λ (l : Limits). l.seats) a.limits in omega arith

pub invariant_of-pass-2 : goal.invariant_of-pass-2
invariant_of-pass-2 g c = let p = c.args.pass.now in let s = sight p.seat in let t = sight c.wake_all.new.seat in
    record { kept = sent_kept s t p.seen p.mine p.kept (all_sent (limits_of c.args.self.now.mutex).seats (cond_limits c.index.result.now) (cond_tries c.index.result.now) (cond_sight c.index_mut-cond.result.now) (cond_sight c.wake_all.new.cond) s t c.wake_all.result c.wake_all.ensures.wakes) }

pub returns : goal.returns
returns g c = let p = c.args.pass.now in let m = c.args.self.now in let n = c.in-Some.index in let x = c.index_mut-cond.result.now in let y = c.wake_all.new.cond in let v = c.index.result.now in let s = sight p.seat in
    let t = sight c.wake_all.new.seat in let e = c.wake_all.ensures in let a = at_place p m n x v c.requires.belongs c.in-Some.ensures.1 c.index_mut-cond.ensures.value c.index.ensures in
    let sent = all_sent (limits_of m.mutex).seats (cond_limits v) (cond_tries v) (cond_sight x) (cond_sight y) s t c.wake_all.result e.wakes in record {
      belongs = (of_next m.mutex p.seat c.wake_all.new.seat c.requires.belongs.0 e.belongs.1, sent_began (opening_of m) (passes_of m) (share_of m) s t c.requires.belongs.1 sent, record { morphing = still_of_conditions (cond_seats_of p) (conditions_in m) n y v c.requires.belongs.2.morphing a.condition e.belongs.0; plain = c.requires.belongs.2.plain });
      number = ap (λ (u : Sight _). u.number) sent;
      run = e.run;
      woken = e.woken;
      plain = refl;
      cond_woken = conds_woken_one (cond_seats_of p) n x y a.seat e.cond_woken;
      wakes = wakes_all (passes_of m) (condition_limits (passes_of m)) (tries_in m) (conditions_of m) c.args.condition (cond_seats_of p) _ s t c.wake_all.result (sym c.if-asleep.ensures)
          (n, x, y, c.in-Some.ensures.0, a.seat, refl, as_told p m n x v (λ (l : Limits) (tries : ℕ). WakeAllEnds (passes_of m) l tries (cond_sight x) (cond_sight y) s t c.wake_all.result) a e.wakes);
      sends = sent;
      steps = e.steps;
      same = (refl, refl);
    }

pub returns-then-asleep : goal.returns-then-asleep
returns-then-asleep g c = record { belongs = c.requires.belongs; number = refl; run = run_same; woken = woken_none c.args.pass.now.seat c.args.pass.now.seat refl refl; plain = refl; cond_woken = conds_woken_none (cond_seats_of c.args.pass.now) (cond_seats_of c.args.pass.now) refl; wakes = (sym c.if-asleep.ensures, refl, refl); sends = refl; steps = refl; same = (refl, refl) }

pub returns-in_default : goal.returns-in_default
returns-in_default g c = record { belongs = c.requires.belongs; number = refl; run = run_same; woken = woken_none c.args.pass.now.seat c.args.pass.now.seat refl refl; plain = refl; cond_woken = conds_woken_none (cond_seats_of c.args.pass.now) (cond_seats_of c.args.pass.now) refl; wakes = ((sym c.if-asleep.ensures, c.in_default.ensures), refl, refl); sends = refl; steps = refl; same = (refl, refl) }
