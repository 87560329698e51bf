use Rattle.std.proofs.Common.{arith}
use Rattle.lfm_plain_condvar.proofs.Rule.{arrives}
use Rattle.lfm_plain_condvar.proofs.parkers.Parkers.take.Goals as goal

pub swap_new_seat-found-requires : goal.swap_new_seat-found-requires
swap_new_seat-found-requires c = let z = c.args.self.now.table.shared.table_id in let words = c.args.self.now.words in let few = c.requires.0 in (omega arith, arrives z.slots c.args.number c.args.word c.requires.1)
