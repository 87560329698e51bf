use Rattle.std.proofs.Common.{◌+◌, Some, None, arith, rules, refl, ap, ◌∙◌}
use Rattle.lfm_mutex.specs.calls.Sight.{sight}
use Rattle.lfm_mutex.proofs.BargingEnds.{gains_after, no_tries, still_may_try, tries_fewer, tries_join}
use Rattle.lfm_table.specs.declared.shared_table.off_trail.OffTrail.{OffTrail}
use Rattle.lfm_table.proofs.tables.Actions.{run_next, run_same}
use Rattle.lfm_mutex.proofs.mutex.Mutex.nap.Goals as goal

pub naps-init : goal.naps-init
naps-init g c = record { belongs = search rules; beside = search rules; woken = refl; run = run_same; wake = search rules; tries = no_tries c.args.self.now.limits 0 (sight c.args.seat.now) }

pub try_if_free-requires-clause-free : goal.try_if_free-requires-clause-free
try_if_free-requires-clause-free g c κs within = still_may_try c.args.self.now.limits c.naps.made (sight c.args.seat.now) (sight c.naps.seat) c.naps.invariant.tries c.requires.free

pub naps-preserved : goal.naps-preserved
naps-preserved g c = record {
  belongs = search rules;
  beside = search rules;
  woken = ap (λ (o : OffTrail). o.woken) c.try_if_free.ensures.acts.woken ∙ (c.later_count-count.ensures ∙ (ap (λ (o : OffTrail). o.woken) c.poll_count-found.ensures ∙ c.naps.invariant.woken));
  run = run_next c.naps.invariant.run c.try_if_free.ensures.acts.run;
  wake = search rules;
  tries = tries_join c.args.self.now.limits c.naps.made 1 (sight c.args.seat.now) (sight c.naps.seat) (sight c.try_if_free.new.seat) None c.naps.invariant.tries c.in-None.ensures.tries;
}

pub returns-in-Some-clause-gains : goal.returns-in-Some-clause-gains
returns-in-Some-clause-gains g c =
    gains_after g.T.Kept.follows g.T.Kept.fits c.args.self.now.limits c.naps.made (sight c.args.seat.now) (sight c.naps.seat) (sight c.try_if_free.new.seat) (Some c.in-Some.how) c.naps.invariant.tries c.in-Some.ensures.gains

pub returns-in-Some-clause-tries : goal.returns-in-Some-clause-tries
returns-in-Some-clause-tries g c = let l = c.args.self.now.limits in let s = sight c.args.seat.now in let t = sight c.try_if_free.new.seat in let below = c.naps-test.true in
    tries_fewer l (c.naps.made + 1) c.args.self.now.pace.naps s t (Some c.in-Some.how) (omega arith) (tries_join l c.naps.made 1 s (sight c.naps.seat) t (Some c.in-Some.how) c.naps.invariant.tries c.in-Some.ensures.tries)

pub returns-then-is_crowd-clause-gains : goal.returns-then-is_crowd-clause-gains
returns-then-is_crowd-clause-gains g c = tt

pub returns-then-is_crowd-clause-tries : goal.returns-then-is_crowd-clause-tries
returns-then-is_crowd-clause-tries g c = let below = c.naps-test.true in
    tries_fewer c.args.self.now.limits c.naps.made c.args.self.now.pace.naps (sight c.args.seat.now) (sight c.naps.seat) None (omega arith) c.naps.invariant.tries

pub returns-clause-gains : goal.returns-clause-gains
returns-clause-gains g c = tt

pub returns-clause-tries : goal.returns-clause-tries
returns-clause-tries g c = let below = c.naps.auto.made-end in
    tries_fewer c.args.self.now.limits c.naps.made c.args.self.now.pace.naps (sight c.args.seat.now) (sight c.naps.seat) None (omega arith) c.naps.invariant.tries

pub returns-in-Some-clause-acts : goal.returns-in-Some-clause-acts
returns-in-Some-clause-acts g c = record { belongs = search rules; run = run_next c.naps.invariant.run c.try_if_free.ensures.acts.run; woken = search rules }
