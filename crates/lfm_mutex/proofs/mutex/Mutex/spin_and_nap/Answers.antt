use Rattle.std.proofs.Common.{◌+◌, ◌-◌, Some, arith, rules}
use Rattle.lfm_mutex.specs.calls.Sight.{sight}
use Rattle.lfm_mutex.proofs.BargingEnds.{gains_after, still_may_try, tries_fewer, tries_join}
use Rattle.lfm_table.proofs.tables.Actions.{run_next}
use Rattle.lfm_mutex.proofs.mutex.Mutex.spin_and_nap.Goals as goal

pub nap-requires-clause-free : goal.nap-requires-clause-free
nap-requires-clause-free g c κs within = still_may_try c.args.self.now.limits (c.args.self.now.pace.spins - 1) (sight c.args.seat.now) (sight c.spin.new.seat) c.in-None.ensures.tries c.requires.free

pub returns-in-Some-clause-tries : goal.returns-in-Some-clause-tries
returns-in-Some-clause-tries g c = let p = c.args.self.now.pace in
    tries_fewer c.args.self.now.limits (p.spins - 1) (p.spins - 1 + p.naps) (sight c.args.seat.now) (sight c.spin.new.seat) (Some c.in-Some.how) (omega arith) c.in-Some.ensures.tries

pub returns-in-None-clause-gains : goal.returns-in-None-clause-gains
returns-in-None-clause-gains g c =
    gains_after g.T.Kept.follows g.T.Kept.fits c.args.self.now.limits (c.args.self.now.pace.spins - 1) (sight c.args.seat.now) (sight c.spin.new.seat) (sight c.nap.new.seat) c.nap.result c.in-None.ensures.tries c.nap.ensures.gains

pub returns-in-None-clause-tries : goal.returns-in-None-clause-tries
returns-in-None-clause-tries g c = let p = c.args.self.now.pace in
    tries_join c.args.self.now.limits (p.spins - 1) p.naps (sight c.args.seat.now) (sight c.spin.new.seat) (sight c.nap.new.seat) c.nap.result c.in-None.ensures.tries c.nap.ensures.tries

pub returns-in-None-clause-acts : goal.returns-in-None-clause-acts
returns-in-None-clause-acts g c = record { belongs = search rules; run = run_next c.spin.ensures.acts.run c.nap.ensures.acts.run; woken = search rules }
