use Rattle.std.proofs.Common.{length}
use Rattle.lfm_mutex.proofs.ends.Ends.{was_last}
use Rattle.lfm_monitor_tests.proofs.monitors.kept_alone.Goals as goal

pub returns : goal.returns
returns c = let a = c.in_ok-first.ensures.items in let f = c.in_ok-first.first in
    (c.in-Err.ensures.back (length c.pop.new.self.items) f (was_last _ _ f a), c.in-Err.ensures.kept c.args.second c.requires.second)
