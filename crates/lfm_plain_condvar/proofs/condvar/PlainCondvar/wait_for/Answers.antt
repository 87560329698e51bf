use Rattle.std.proofs.Common.{sym, subst}
use Rattle.lfm_mutex.specs.Belongs.{limits_of, tries_of}
use Rattle.lfm_mutex.specs.calls.Sight.{sight}
use Rattle.lfm_plain_condvar.specs.Waits.{WaitForEnds}
use Rattle.lfm_plain_condvar.proofs.Ends.{for_ends}
use Rattle.lfm_plain_condvar.proofs.condvar.PlainCondvar.wait_for.Goals as goal

pub returns-clause-waits : goal.returns-clause-waits
returns-clause-waits g c = let a = c.args in let v = a.self.now.inner in let w = c.wait_within in let c' = sight a.cond.now.seat in let d = sight w.new.cond.seat in let s = sight a.seat.now in let t = sight w.new.seat in
    subst (λ q. WaitForEnds g.T.Kept.follows g.T.Kept.fits (limits_of a.mutex.now) (limits_of v) (tries_of v) (tries_of a.mutex.now) c' d s t q) (sym c.without_how.ensures)
    (for_ends g.T.Kept.follows g.T.Kept.fits (limits_of a.mutex.now) (limits_of v) (tries_of v) (tries_of a.mutex.now) c' d s t w.result w.ensures.waits)
