use Rattle.std.proofs.Common.{arith}
use Rattle.lfm_plain_condvar.proofs.Rule.{shows}
use Rattle.lfm_plain_condvar.proofs.parkers.Parkers.show_each_once.Goals as goal

pub load-found-requires : goal.load-found-requires
load-found-requires c = let z = c.args.self.now.table.shared.table_id in let words = c.args.self.now.words in (c.requires, omega arith, shows z.slots c.args.all.now.seat.id 0 c.args.all.now.seat.me)
