use Rattle.std.proofs.Common.{refl, ◌∙◌}
use Rattle.lfm_plain_condvar.proofs.condvar.PlainCondvar.sleep.Goals as goal

pub returns-clause-belongs : goal.returns-clause-belongs
returns-clause-belongs g c = let w = c.requires.waits in let r = c.park-waker.ensures in ((w, (c.park-waker.result.waker, refl, r.0 ∙ c.requires.own, r.1)), refl)
