use Rattle.std.proofs.Common.{ap, sym, ◌∙◌, arith}
use Rattle.lfm_mutex.specs.Belongs.{limits_of}
use Rattle.lfm_mutex.specs.calls.Sight.{sight}
use Rattle.lfm_condvar.proofs.Begins.{kept_new, made_new, within}
use Rattle.lfm_condvar.proofs.condvar.Condvar.new.Goals as goal

pub as_cond_seats-cond_seats-requires-clause-kept : goal.as_cond_seats-cond_seats-requires-clause-kept
as_cond_seats-cond_seats-requires-clause-kept c j s at = let m = c.in_ok-inner.ensures.seats in let v = c.in-Ok-empty.waiters in let e = c.in-Ok-empty.ensures in
    let inside = within c.in_ok-inner.inner_seats.items j s at in let len = c.in_ok-inner.inner_seats.ok in
    kept_new (sight s) v c.args.seats j (m.1 j s at).1 e.0 (omega arith)

pub returns-clause-seats : goal.returns-clause-seats
returns-clause-seats c = let m = c.in_ok-inner.ensures.seats in let v = c.in-Ok-empty.waiters in let e = c.in-Ok-empty.ensures in let w = c.as_cond_seats-cond_seats.ensures in let l = c.in_ok-inner.ensures.limits.0 in (
  w.len ∙ m.0,
  (
    v,
    e.0,
    λ j s at. let n = m.1 j s.seat (w.wraps j s at) in
        ((n.0, made_new (limits_of c.in_ok-inner.inner) (sight s.seat) v c.args.seats j n.1 (e.1 ∙ sym (ap (λ z. z.seats) l)) (e.2 ∙ sym (ap (λ z. z.budget) l))), n.1),
  ),
)

-- each new cond seat belongs to this condvar
pub returns-clause-belongs : goal.returns-clause-belongs
returns-clause-belongs c = λ j s at. ((returns-clause-seats c).1.2 j s at).0

-- each new cond seat knows nothing of a run
pub returns-clause-past : goal.returns-clause-past
returns-clause-past c = λ j s at. c.in_ok-inner.ensures.past j s.seat (c.as_cond_seats-cond_seats.ensures.wraps j s at)

pub returns-clause-memory : goal.returns-clause-memory
returns-clause-memory c allowed = tt
