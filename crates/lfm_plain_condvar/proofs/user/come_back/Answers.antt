use Rattle.lfm_plain_condvar.proofs.user.come_back.Goals as goal

pub returns-clause-as_woken : goal.returns-clause-as_woken
returns-clause-as_woken g c = rw c.in-Held.is at (c.in-Ok.ensures.as_woken)
