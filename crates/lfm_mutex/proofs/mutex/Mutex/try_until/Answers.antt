use Rattle.std.proofs.Common.{◌+◌, zero, Some, None, rules, refl, ap, ◌∙◌}
use Rattle.lfm_mutex.specs.calls.Sight.{sight}
use Rattle.lfm_mutex.proofs.BargingEnds.{gains_after, no_tries, still_may_try, tries_join}
use Rattle.lfm_table.specs.declared.shared_table.off_trail.OffTrail.{OffTrail}
use Rattle.lfm_table.proofs.tables.Actions.{run_next, run_same}
use Rattle.lfm_mutex.proofs.mutex.Mutex.try_until.Goals as goal

pub tries-init : goal.tries-init
tries-init g c = record { belongs = search rules; beside = search rules; woken = refl; run = run_same; wake = search rules; made = (zero, no_tries c.args.self.now.limits zero (sight c.args.seat.now)) }

pub try_if_free-requires-clause-free : goal.try_if_free-requires-clause-free
try_if_free-requires-clause-free g c κs within = let made = c.tries.invariant.made in
    still_may_try c.args.self.now.limits made.0 (sight c.args.seat.now) (sight c.tries.seat) made.1 c.requires.free

pub tries-preserved : goal.tries-preserved
tries-preserved g c = let made = c.tries.invariant.made in record {
  belongs = search rules;
  beside = search rules;
  woken = ap (λ (o : OffTrail). o.woken) (c.try_if_free.ensures.acts.woken ∙ c.poll_count-count.ensures) ∙ c.tries.invariant.woken;
  run = run_next c.tries.invariant.run c.try_if_free.ensures.acts.run;
  wake = search rules;
  made = (made.0 + 1, tries_join c.args.self.now.limits made.0 1 (sight c.args.seat.now) (sight c.tries.seat) (sight c.try_if_free.new.seat) None made.1 c.in-None-try_if_free.ensures.tries);
}

pub returns-in-Some-try_if_free-clause-gains : goal.returns-in-Some-try_if_free-clause-gains
returns-in-Some-try_if_free-clause-gains g c = let made = c.tries.invariant.made in
    gains_after g.T.Kept.follows g.T.Kept.fits c.args.self.now.limits made.0 (sight c.args.seat.now) (sight c.tries.seat) (sight c.try_if_free.new.seat) (Some c.in-Some-try_if_free.how) made.1 c.in-Some-try_if_free.ensures.gains

pub returns-in-Some-try_if_free-clause-tries : goal.returns-in-Some-try_if_free-clause-tries
returns-in-Some-try_if_free-clause-tries g c = let made = c.tries.invariant.made in
    (made.0 + 1, tries_join c.args.self.now.limits made.0 1 (sight c.args.seat.now) (sight c.tries.seat) (sight c.try_if_free.new.seat) (Some c.in-Some-try_if_free.how) made.1 c.in-Some-try_if_free.ensures.tries)

pub returns-in-Some-try_if_free-clause-acts : goal.returns-in-Some-try_if_free-clause-acts
returns-in-Some-try_if_free-clause-acts g c = record { belongs = search rules; run = run_next c.tries.invariant.run c.try_if_free.ensures.acts.run; woken = search rules }
