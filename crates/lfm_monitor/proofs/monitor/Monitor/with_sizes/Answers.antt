use Rattle.std.proofs.Common.{ap, arith, subst, sym, ◌+◌, ◌∙◌}
use Rattle.lfm_mutex.specs.declared.pace.Pace.{Pace}
use Rattle.lfm_mutex.specs.Belongs.{limits_of}
use Rattle.lfm_mutex.specs.calls.Sight.{new_sight}
use Rattle.lfm_monitor.specs.Belongs.{cond_seats_of, plain_seats_of}
use Rattle.lfm_monitor.specs.CondSeats.{AreNewSeats, AreConditions, ArePaced}
use Rattle.lfm_monitor.specs.PlainSeats.{AreNewPlainSeats, ArePlainConditions, ArePlainPaced}
use Rattle.lfm_monitor.proofs.Places.{in_range}
use Rattle.lfm_monitor.proofs.Starting.{new_kept, new_of}
use Rattle.lfm_monitor.proofs.monitor.Monitor.with_sizes.Goals as goal

pub with_seats-requires-clause-kept : goal.with_seats-requires-clause-kept
with_seats-requires-clause-kept g c κs within j s at = let e = c.in-Ok-new.ensures.seats in let one = e.1 j s at in
    let n = in_range c.in-Ok-new.all.items j s at in let o = c.in-Ok-new.all.ok.0 in let k = e.0 in
    new_kept c.args.object c.args.sizes.seats c.args.sizes.share (j + 1) c.in-Ok-new.mutex s
    (record { of = one.0; empty = c.in_ok-empty.empty; is = c.in_ok-empty.ensures.empty; sees = one.1 }) (omega arith) (omega arith)

pub returns-clause-passes : goal.returns-clause-passes
returns-clause-passes g c = let e = c.in-Ok-new.ensures in let w = c.with_seats.ensures in (
  w.count ∙ e.seats.0,
  λ j p at.
      let was = w.passes j p at in let one = e.seats.1 j p.seat was.0 in let empty = c.in_ok-empty.ensures.empty in let of = c.in_ok-conditions.ensures.seats.1 j p.cond_seats was.1 in
      let plain = c.in_ok-plain_conditions.ensures.seats.1 j p.plain_seats was.2 in let sized = sym (ap (λ l. l.seats) e.limits.0) in record {
        belongs = (
          one.0,
          new_of c.args.object c.of-opening.result.value c.args.sizes.seats (limits_of c.in-Ok-new.mutex).seats c.args.sizes.share (j + 1) c.in-Ok-new.mutex p.seat
              (record { of = one.0; empty = c.in_ok-empty.empty; is = empty; sees = one.1 }) c.of-opening.ensures (ap (λ l. l.seats) e.limits.0),
          record { morphing = of.0; plain = plain.0 },
        );
        empty = c.in_ok-empty.empty;
        nothing = empty.nothing;
        sees = one.1 ∙ ap (λ n. new_sight c.in_ok-empty.empty n (j + 1)) sized;
        counts = (was.3, was.4);
        cond_seats = subst (λ n. AreNewSeats n (j + 1) (cond_seats_of p)) sized of.1;
        plain_seats = subst (λ n. AreNewPlainSeats n (j + 1) (plain_seats_of p)) sized plain.1;
      },
)

-- each new pass belongs to this monitor
pub returns-clause-belongs : goal.returns-clause-belongs
returns-clause-belongs g c = λ j p at. ((returns-clause-passes g c).1 j p at).belongs

-- each new pass knows nothing of a run
pub returns-clause-past : goal.returns-clause-past
returns-clause-past g c = λ j p at. c.in-Ok-new.ensures.past j p.seat (c.with_seats.ensures.passes j p at).0

pub invariant_of-monitor-clause-shared : goal.invariant_of-monitor-clause-shared
invariant_of-monitor-clause-shared g c = ap (λ l. l.budget) c.in-Ok-new.ensures.limits.0

pub invariant_of-monitor-clause-wide : goal.invariant_of-monitor-clause-wide
invariant_of-monitor-clause-wide g c = let e = c.in-Ok-new.ensures in subst (λ n. AreConditions n c.in_ok-conditions.conditions.items) (sym (ap (λ l. l.seats) e.limits.0)) c.in_ok-conditions.ensures.conditions.1

pub invariant_of-monitor-clause-paced : goal.invariant_of-monitor-clause-paced
invariant_of-monitor-clause-paced g c = subst (λ (pace : Pace). ArePaced pace c.in_ok-conditions.conditions.items) (sym c.in-Ok-new.ensures.pace) c.in_ok-conditions.ensures.paced

pub invariant_of-monitor-clause-plain_wide : goal.invariant_of-monitor-clause-plain_wide
invariant_of-monitor-clause-plain_wide g c = let e = c.in-Ok-new.ensures in subst (λ n. ArePlainConditions n c.in_ok-plain_conditions.plain_conditions.items) (sym (ap (λ l. l.seats) e.limits.0)) c.in_ok-plain_conditions.ensures.conditions.1

pub invariant_of-monitor-clause-plain_paced : goal.invariant_of-monitor-clause-plain_paced
invariant_of-monitor-clause-plain_paced g c = subst (λ (pace : Pace). ArePlainPaced pace c.in_ok-plain_conditions.plain_conditions.items) (sym c.in-Ok-new.ensures.pace) c.in_ok-plain_conditions.ensures.paced
