use Rattle.std.proofs.Common.{◌∙◌, arith}
use Rattle.lfm_plain_condvar.proofs.Rule.{joins, retires}
use Rattle.lfm_plain_condvar.proofs.parkers.Parkers.gather.Goals as goal

pub swap-found-requires : goal.swap-found-requires
swap-found-requires c = let w = c.args.waker in let z = c.args.self.now.table.shared.table_id in let words = c.args.self.now.words in let slots = c.args.self.now.slots in let few = c.requires.waker.0 in
    (c.requires.waker.1, omega arith, retires z.slots w.seat.id w.number w.seat.me w.its.1 (omega arith))

pub join_seat-requires : goal.join_seat-requires
join_seat-requires c = let w = c.args.waker in let words = c.args.self.now.words in let f = c.swap-found.ensures in
    (c.requires.all, f.0 ∙ c.requires.waker.1, (let r = f.2 in let i = w.its.1 in cc), omega arith, joins c.args.all.now.seat.id c.swap-found.new.seat.id c.args.all.now.seat.me.0 c.swap-found.new.seat.me.0)
