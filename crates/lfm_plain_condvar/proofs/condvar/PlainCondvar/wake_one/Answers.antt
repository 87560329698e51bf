use Rattle.std.proofs.Common.{sym, subst}
use Rattle.lfm_mutex.specs.Belongs.{limits_of, tries_of}
use Rattle.lfm_plain_condvar.specs.Wakes.{WakeOneEnds}
use Rattle.lfm_plain_condvar.proofs.Ends.{without_number_ends}
use Rattle.lfm_plain_condvar.proofs.condvar.PlainCondvar.wake_one.Goals as goal

pub returns-clause-wakes : goal.returns-clause-wakes
returns-clause-wakes g c = let a = c.args in let w = c.wake_one_with_number in let own = limits_of a.self.now.inner in let tries = tries_of a.self.now.inner in
    subst (λ q. WakeOneEnds own tries a.cond.now w.new.cond q) (sym c.without_number.ensures) (without_number_ends own tries a.cond.now w.new.cond w.result w.ensures.wakes)
