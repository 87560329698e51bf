use Rattle.std.proofs.Common.{◌<◌, ap, sym, ◌∙◌, arith}
use Rattle.lfm_mutex.specs.calls.Sight.{sight}
use Rattle.lfm_plain_condvar.proofs.Begins.{kept_new}
use Rattle.lfm_plain_condvar.proofs.ListFacts.{within}
use Rattle.lfm_plain_condvar.proofs.condvar.PlainCondvar.new.Goals as goal

pub returns-clause-seats : goal.returns-clause-seats
returns-clause-seats c = let m = c.in_ok-inner.ensures.seats in let w = c.in-Some.ensures in
    (w.len ∙ m.0, (c.in-Ok-empty.waiters, c.in-Ok-empty.ensures.0, λ j s at. (m.1 j s.seat (w.wraps j s at).0).1))

-- each new plain seat belongs to this condvar
pub returns-clause-belongs : goal.returns-clause-belongs
returns-clause-belongs c = λ j s at. let m = c.in_ok-inner.ensures.seats in let w = c.in-Some.ensures in let e = c.in-Ok-empty.ensures in let q = c.in-Ok-new.ensures in let p = c.in-Ok-new.parkers in
    let n = m.1 j s.seat (w.wraps j s at).0 in let k = (w.wraps j s at).1 in
    let inside = within c.in-Some.plain_seats.items j s at in let len = c.in-Some.plain_seats.ok in let same = w.len in let all = m.0 in let seats = q.0 in let below : j < p.seats = omega arith in
    ((n.0, kept_new p.table.shared.table_id p.seats (sight s.seat) c.in-Ok-empty.waiters c.args.seats j n.1 (e.1 ∙ sym q.0, ap (λ y. y.root.table_id) e.2 ∙ q.1) below, k.2), k.1)
