use Rattle.std.proofs.Common.{◌+◌, ◌-◌, Some, None, arith, rules, refl, ap, ◌∙◌}
use Rattle.lfm_mutex.specs.calls.Sight.{sight}
use Rattle.lfm_mutex.proofs.BargingEnds.{gains_after, no_tries, still_may_try, tries_fewer, tries_join}
use Rattle.lfm_table.specs.declared.shared_table.off_trail.OffTrail.{OffTrail}
use Rattle.lfm_table.proofs.tables.Actions.{run_next, run_same}
use Rattle.lfm_mutex.proofs.mutex.Mutex.spin.Goals as goal

pub spins-init : goal.spins-init
spins-init g c = record { belongs = search rules; beside = search rules; woken = refl; run = run_same; after_the_first = (omega arith, omega arith); tries = no_tries c.args.self.now.limits 0 (sight c.args.seat.now) }

pub try_if_free-requires-clause-free : goal.try_if_free-requires-clause-free
try_if_free-requires-clause-free g c κs within = still_may_try c.args.self.now.limits (c.spins.made - 1) (sight c.args.seat.now) (sight c.spins.seat) c.spins.invariant.tries c.requires.free

pub spins-preserved : goal.spins-preserved
spins-preserved g c = let after = c.spins.invariant.after_the_first.0 in let below = c.spins-test.true in let l = c.args.self.now.limits in let s = sight c.args.seat.now in let t = sight c.try_if_free.new.seat in record {
  belongs = search rules;
  beside = search rules;
  woken = ap (λ (o : OffTrail). o.woken) (c.try_if_free.ensures.acts.woken ∙ c.poll_count-count.ensures) ∙ c.spins.invariant.woken;
  run = run_next c.spins.invariant.run c.try_if_free.ensures.acts.run;
  after_the_first = (omega arith, omega arith);
  tries = tries_fewer l (c.spins.made - 1 + 1) (c.spins.made + 1 - 1) s t None (omega arith) (tries_join l (c.spins.made - 1) 1 s (sight c.spins.seat) t None c.spins.invariant.tries c.in-None.ensures.tries);
}

pub returns-in-Some-clause-gains : goal.returns-in-Some-clause-gains
returns-in-Some-clause-gains g c =
    gains_after g.T.Kept.follows g.T.Kept.fits c.args.self.now.limits (c.spins.made - 1) (sight c.args.seat.now) (sight c.spins.seat) (sight c.try_if_free.new.seat) (Some c.in-Some.how) c.spins.invariant.tries c.in-Some.ensures.gains

pub returns-in-Some-clause-tries : goal.returns-in-Some-clause-tries
returns-in-Some-clause-tries g c = let l = c.args.self.now.limits in let s = sight c.args.seat.now in let t = sight c.try_if_free.new.seat in let below = c.spins-test.true in let after = c.spins.invariant.after_the_first.0 in
    tries_fewer l (c.spins.made - 1 + 1) (c.args.self.now.pace.spins - 1) s t (Some c.in-Some.how) (omega arith) (tries_join l (c.spins.made - 1) 1 s (sight c.spins.seat) t (Some c.in-Some.how) c.spins.invariant.tries c.in-Some.ensures.tries)

pub returns-then-count-gt-HOLDER_AND_ONE_MORE-clause-gains : goal.returns-then-count-gt-HOLDER_AND_ONE_MORE-clause-gains
returns-then-count-gt-HOLDER_AND_ONE_MORE-clause-gains g c = tt

pub returns-then-count-gt-HOLDER_AND_ONE_MORE-clause-tries : goal.returns-then-count-gt-HOLDER_AND_ONE_MORE-clause-tries
returns-then-count-gt-HOLDER_AND_ONE_MORE-clause-tries g c = let l = c.args.self.now.limits in let s = sight c.args.seat.now in let t = sight c.try_if_free.new.seat in let below = c.spins-test.true in let after = c.spins.invariant.after_the_first.0 in
    tries_fewer l (c.spins.made - 1 + 1) (c.args.self.now.pace.spins - 1) s t None (omega arith) (tries_join l (c.spins.made - 1) 1 s (sight c.spins.seat) t None c.spins.invariant.tries c.in-None.ensures.tries)

pub returns-clause-gains : goal.returns-clause-gains
returns-clause-gains g c = tt

pub returns-clause-tries : goal.returns-clause-tries
returns-clause-tries g c =
    tries_fewer c.args.self.now.limits (c.spins.made - 1) (c.args.self.now.pace.spins - 1) (sight c.args.seat.now) (sight c.spins.seat) None c.spins.invariant.after_the_first.1 c.spins.invariant.tries

pub returns-in-Some-clause-acts : goal.returns-in-Some-clause-acts
returns-in-Some-clause-acts g c = record { belongs = search rules; run = run_next c.spins.invariant.run c.try_if_free.ensures.acts.run; woken = search rules }

pub returns-then-count-gt-HOLDER_AND_ONE_MORE-clause-acts : goal.returns-then-count-gt-HOLDER_AND_ONE_MORE-clause-acts
returns-then-count-gt-HOLDER_AND_ONE_MORE-clause-acts g c = record { belongs = search rules; run = run_next c.spins.invariant.run c.try_if_free.ensures.acts.run; woken = search rules }
