use Rattle.std.proofs.Common.{◌+◌, ◌-◌, ◌<◌, ◌∙◌, ap, arith}
use Rattle.lfm_mutex.specs.declared.pace.Pace.{Pace}
use Rattle.lfm_mutex.specs.Belongs.{limits_of, tries_of}
use Rattle.lfm_mutex.specs.calls.Sight.{sight}
use Rattle.lfm_mutex.proofs.runs.RunGoesOn.{run_next}
use Rattle.lfm_plain_condvar.proofs.TryThenLock.{lock_barges, tries_first, try_barges, try_failed}
use Rattle.lfm_plain_condvar.proofs.user.barge_or_queue.Goals as goal

pub returns-in-Ok-clause-steps : goal.returns-in-Ok-clause-steps
returns-in-Ok-clause-steps g c = let m = c.args.mutex.now in let e = c.in-Ok.ensures in
    let some : 0 < tries_of m = (let not0 = c.if-spins-eq0.false in let same = c.spins.ensures ∙ ap (λ (p : Pace). p.spins) c.pace.ensures in omega arith) in
    try_barges g.T.Kept.follows g.T.Kept.fits (limits_of m) (tries_of m) (sight c.args.seat.now) (sight c.try_lock.new.seat) c.in-Ok.locked some c.requires.free (e.locks, e.steps)

pub returns-in-Err-clause-run : goal.returns-in-Err-clause-run
returns-in-Err-clause-run g c = run_next c.in-Err.ensures.run c.lock.ensures.run

pub returns-in-Err-clause-steps : goal.returns-in-Err-clause-steps
returns-in-Err-clause-steps g c = let m = c.args.mutex.now in let s = sight c.args.seat.now in let t = sight c.try_lock.new.seat in let e = c.in-Err.ensures in
    let some : 0 < tries_of m = (let not0 = c.if-spins-eq0.false in let same = c.spins.ensures ∙ ap (λ (p : Pace). p.spins) c.pace.ensures in omega arith) in
    let failed = try_failed g.T.Kept.follows g.T.Kept.fits (limits_of m) s t c.in-Err.field-0 c.requires.free (e.locks, e.steps) in
    lock_barges g.T.Kept.follows g.T.Kept.fits (limits_of m) (tries_of m) s t (sight c.lock.new.seat) c.lock.result some c.requires.free failed c.lock.ensures.locks c.lock.ensures.steps

pub returns-in-Err-clause-first : goal.returns-in-Err-clause-first
returns-in-Err-clause-first g c = let m = c.args.mutex.now in let s = sight c.args.seat.now in let t = sight c.try_lock.new.seat in let e = c.in-Err.ensures in λ spins.
    tries_first g.T.Kept.follows g.T.Kept.fits (limits_of m) (m.pace.spins - 1 + m.pace.naps) s t (sight c.lock.new.seat) c.lock.result (try_failed g.T.Kept.follows g.T.Kept.fits (limits_of m) s t c.in-Err.field-0 c.requires.free (e.locks, e.steps)) c.lock.ensures.steps

pub returns-in-Err-clause-tries_once : goal.returns-in-Err-clause-tries_once
returns-in-Err-clause-tries_once g c = let m = c.args.mutex.now in let s = sight c.args.seat.now in let t = sight c.try_lock.new.seat in let e = c.in-Err.ensures in λ queued spins.
    tries_first g.T.Kept.follows g.T.Kept.fits (limits_of m) 0 s t (sight c.lock.new.seat) c.lock.result (try_failed g.T.Kept.follows g.T.Kept.fits (limits_of m) s t c.in-Err.field-0 c.requires.free (e.locks, e.steps)) c.lock.ensures.steps
