use Rattle.std.proofs.Common.{arith}
use Rattle.lfm_plain_condvar.proofs.Rule.{enters}
use Rattle.lfm_plain_condvar.proofs.parkers.Parkers.new_log.Goals as goal

pub load_new_seat-seat-requires : goal.load_new_seat-seat-requires
load_new_seat-seat-requires c = let z = c.args.self.now.table.shared.table_id in let words = c.args.self.now.words in (omega arith, enters z.slots 0)
