use Rattle.std.proofs.Common.{length}
use Rattle.lfm_mutex.proofs.ends.Ends.{was_last}
use Rattle.example_channel.proofs.own_channel.Goals as goal

pub returns : goal.returns
returns c = let a = c.in_ok-pass.ensures.items in let s = c.in_ok-pass.pass in c.in-Ok.ensures.belongs (length c.pop.new.self.items) s (was_last _ _ s a)
