use Rattle.std.proofs.Common.{rules}
use Rattle.lfm_condvar.proofs.Followed.{follows_none}
use Rattle.lfm_condvar.proofs.waiters.enlist.enlist_without_waking.Goals as goal

pub returns-clause-enlists : goal.returns-clause-enlists
returns-clause-enlists g c = search rules

pub returns-in-Some-clause-follows : goal.returns-in-Some-clause-follows
returns-in-Some-clause-follows g c = follows_none _ _

pub returns-then-get-seats-clause-follows : goal.returns-then-get-seats-clause-follows
returns-then-get-seats-clause-follows g c = follows_none _ _

pub returns-then-has-clause-follows : goal.returns-then-has-clause-follows
returns-then-has-clause-follows g c = follows_none _ _
