use Rattle.std.proofs.Common.{[], Ok, Err, ◌<◌, refl, sym, subst, arith}
use Rattle.lfm_model.specs.declared.answers.Locked.{Locked}
use Rattle.lfm_protocol.specs.declared.limits.Limits.{Limits}
use Rattle.lfm_mutex.specs.calls.Sight.{sight}
use Rattle.lfm_mutex.proofs.BargingEnds.{no_tries, try_failed}
use Rattle.lfm_mutex.proofs.runs.FastPathPoints.{awake_rests}
use Rattle.lfm_mutex.proofs.runs.TryEnds.{try_locks, try_makes}
use Rattle.lfm_mutex.proofs.mutex.Mutex.try_if_free.Goals as goal

pub try_without_hold-requires-clause-may : goal.try_without_hold-requires-clause-may
try_without_hold-requires-clause-may g c κs within = record { rests = awake_rests c.args.seat.now.state.point c.requires.free.0; flat = c.requires.free.1; charged = subst (λ (l : Limits). c.args.seat.now.state.takes < l.budget) (sym c.requires.belongs.1) c.requires.free.2 }

pub returns-then-count-ne0-clause-tries : goal.returns-then-count-ne0-clause-tries
returns-then-count-ne0-clause-tries g c = no_tries c.args.self.now.limits 1 (sight c.args.seat.now)

pub returns-in-Ok-Held-clause-gains : goal.returns-in-Ok-Held-clause-gains
returns-in-Ok-Held-clause-gains g c = try_locks g.T.Kept.follows g.T.Kept.fits c.args.self.now.limits (sight c.args.seat.now) (sight c.try_without_hold.new.seat) (Ok (Locked.Held c.in-Ok-Held.how)) (rw c.in-Ok-Held.field-0-is at c.in-Ok-Held.ensures.made)

pub returns-in-Ok-Held-clause-tries : goal.returns-in-Ok-Held-clause-tries
returns-in-Ok-Held-clause-tries g c = ([], sight c.args.seat.now, omega arith, refl, try_makes g.T.Kept.follows g.T.Kept.fits c.args.self.now.limits (sight c.args.seat.now) (sight c.try_without_hold.new.seat) (Ok (Locked.Held c.in-Ok-Held.how)) (rw c.in-Ok-Held.field-0-is at c.in-Ok-Held.ensures.made))

pub returns-in-Err-clause-tries : goal.returns-in-Err-clause-tries
returns-in-Err-clause-tries g c = let l = c.args.self.now.limits in let s = sight c.args.seat.now in let t = sight c.try_without_hold.new.seat in let refused = Err c.in-Err.field-0 in
    try_failed g.T.Kept.follows g.T.Kept.fits l s t c.in-Err.field-0 c.requires.free (try_locks g.T.Kept.follows g.T.Kept.fits l s t refused c.in-Err.ensures.made) (try_makes g.T.Kept.follows g.T.Kept.fits l s t refused c.in-Err.ensures.made)
