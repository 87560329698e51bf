use Rattle.std.proofs.Common.{refl, ◌∙◌}
use Rattle.lfm_plain_condvar.proofs.condvar.PlainCondvar.sleep_until.Goals as goal

pub returns-in-Ok-clause-belongs : goal.returns-in-Ok-clause-belongs
returns-in-Ok-clause-belongs g c = let w = c.requires.waits in let r = c.in-Ok.ensures.waker in (w, (c.in-Ok.taken.waker, refl, r.0 ∙ c.requires.own, r.1))

pub returns-in-Err-clause-belongs : goal.returns-in-Err-clause-belongs
returns-in-Err-clause-belongs g c = c.requires.waits

pub returns-in-Err-clause-over : goal.returns-in-Err-clause-over
returns-in-Err-clause-over g c = c.in-Err.ensures.over
