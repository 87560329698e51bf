use Rattle.std.proofs.Common.{◌++◌, ℕ, List, sym, ◌∙◌, ap, arith}
use Rattle.atomic_table.specs.Table.{Me}
use Rattle.lfm_plain_condvar.specs.declared.parkers.Notices.{Notices}
use Rattle.lfm_plain_condvar.proofs.Rule.{joins, notifies}
use Rattle.lfm_plain_condvar.proofs.parkers.Parkers.set_notified.Goals as goal

pub swap-found-requires : goal.swap-found-requires
swap-found-requires c = let w = c.args.waker in let z = c.args.self.now.table.shared.table_id in let words = c.args.self.now.words in let slots = c.args.self.now.slots in let few = c.requires.waker.0 in
    (c.requires.waker.1, omega arith, notifies z.slots w.seat.id w.number c.word.result w.seat.me c.args.woken c.word.ensures (ap (λ (v : Notices). v.wakers) w.its.0) w.its.1 (omega arith))

pub join_seat-requires : goal.join_seat-requires
join_seat-requires c = let w = c.args.waker in let z = c.args.self.now.table.shared.table_id in let words = c.args.self.now.words in
    let f = c.swap-found.ensures in (c.requires.log, f.0 ∙ c.requires.waker.1, (let r = f.2.2 in let i = w.its.1 in cc), omega arith, joins c.args.log.now.seat.id c.swap-found.new.seat.id c.args.log.now.seat.me.0 c.swap-found.new.seat.me.0)

pub returns-clause-parked : goal.returns-clause-parked
returns-clause-parked c = let was = c.args.log.now.seat.me.0.parked in
    ap (λ (m : Me _ Notices). m.0.parked) c.join_seat.ensures.2 ∙ ap (λ (l : List ℕ). was ++ l) (ap (λ (v : Notices). v.parked) c.swap-found.ensures.2.1 ∙ sym c.after.ensures.owed)
