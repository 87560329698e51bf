use Rattle.std.proofs.Common.{rules, ℕ, refl, sym, ap, arith}
use Rattle.lfm_protocol.specs.declared.limits.Limits.{Limits}
use Rattle.lfm_mutex.specs.calls.Sight.{sight}
use Rattle.lfm_plain_condvar.specs.Wakes.{WakeAllEnds}
use Rattle.lfm_monitor.specs.Belongs.{passes_of, plain_conditions_in, plain_conditions_of, plain_seats_of, tries_in}
use Rattle.lfm_monitor.specs.CondSeats.{condition_limits}
use Rattle.lfm_monitor.proofs.PlainWaking.{plain_wakes_all}
use Rattle.lfm_monitor.proofs.UsedPlainConditions.{as_plain_told, at_plain_place, plain_woken_none, plain_woken_one, still_of_plain_conditions}
use Rattle.lfm_monitor.proofs.monitor.Monitor.notify_all.Goals as goal

pub wake_all-requires : goal.wake_all-requires
wake_all-requires g c = let belongs = (at_plain_place c.args.pass.now c.args.self.now c.in-Some.index _ _ c.requires.belongs c.in-Some.ensures.1 c.index_mut-plain.ensures.value c.index.ensures).belongs in search (rules, belongs)

pub returns : goal.returns
returns g c = let p = c.args.pass.now in let m = c.args.self.now in let n = c.in-Some.index in let x = c.index_mut-plain.result.now in let y = c.wake_all.new.cond in let v = c.index.result.now in
    let e = c.wake_all.ensures in let a = at_plain_place p m n x v c.requires.belongs c.in-Some.ensures.1 c.index_mut-plain.ensures.value c.index.ensures in record {
      belongs = (c.requires.belongs.0, c.requires.belongs.1, record { morphing = c.requires.belongs.2.morphing; plain = still_of_plain_conditions (plain_seats_of p) (plain_conditions_in m) n y v c.requires.belongs.2.plain a.condition e.belongs });
      same = refl;
      plain_woken = plain_woken_one (plain_seats_of p) n x y a.seat e.cond_woken;
      morphing = refl;
      wakes = plain_wakes_all (condition_limits (passes_of m)) (tries_in m) (plain_conditions_of m) c.args.condition (plain_seats_of p) _ (sight p.seat) c.wake_all.result (sym c.if-asleep.ensures)
          (n, x, y, c.in-Some.ensures.0, a.seat, refl, as_plain_told p m n x v (λ (l : Limits) (tries : ℕ). WakeAllEnds l tries x y c.wake_all.result) a e.wakes);
      others = (refl, refl);
    }

pub returns-then-asleep : goal.returns-then-asleep
returns-then-asleep g c = let p = c.args.pass.now in
    record { belongs = c.requires.belongs; same = refl; plain_woken = plain_woken_none (plain_seats_of p) (plain_seats_of p) refl; morphing = refl; wakes = (sym c.if-asleep.ensures, refl, refl); others = (refl, refl) }

pub returns-in_default : goal.returns-in_default
returns-in_default g c = let p = c.args.pass.now in
    record { belongs = c.requires.belongs; same = refl; plain_woken = plain_woken_none (plain_seats_of p) (plain_seats_of p) refl; morphing = refl; wakes = ((sym c.if-asleep.ensures, c.in_default.ensures), refl, refl); others = (refl, refl) }
