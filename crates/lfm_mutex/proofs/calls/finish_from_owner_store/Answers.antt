use Rattle.std.proofs.Common.{◌≢◌, ◌∙◌, ℕ, ◌+◌, ◌≤◌, length, None, ap, subst, arith}
use Rattle.lfm_protocol.specs.declared.answers.Turn.TheVariants.{Open}
use Rattle.lfm_protocol.specs.Points.{kind}
use Rattle.lfm_table.specs.Grants.{granted_at}
use Rattle.lfm_mutex.specs.calls.Runs.{Ran, opens, weight}
use Rattle.lfm_mutex.specs.calls.WakeUps.{Wakes}
use Rattle.lfm_mutex.proofs.runs.Running.{bounded_more, last_one, ran_one, ran_join, release_some}
use Rattle.lfm_mutex.proofs.runs.Conclusions.{first_opens, first_concludes, concludes_join}
use Rattle.lfm_mutex.proofs.runs.WakeUps.{grants_none, wakes_after}
use Rattle.lfm_mutex.proofs.calls.finish_from_owner_store.Goals as goal

pub make_waking_none-requires-clause-is_next : goal.make_waking_none-requires-clause-is_next
make_waking_none-requires-clause-is_next g c κs within = ap kind c.requires.gives.1

pub returns-in-Open-clause-ran : goal.returns-in-Open-clause-ran
returns-in-Open-clause-ran g c = let s = c.args.seat.now in let b = c.make_waking_none.new.seat in let f = c.finish.new.seat in
    let some : kind s.state.point ≢ None = release_some s.state.point c.requires.gives.0 c.requires.gives.1 in
    let e = c.in-Open.ensures.event in
    ran_join s.table_seat.number s.state b.state f.state s.table_seat.place.me.0 b.table_seat.place.me.0 f.table_seat.place.me.0 c.finish.result.0
    (ran_one g.T.Kept.follows g.T.Kept.fits s.table_seat.number s.state b.state s.table_seat.place.me.0 b.table_seat.place.me.0 s.table_seat.moving b.table_seat.moving Open s.seated.named e)
    (subst (λ (n : ℕ). Ran n (opens b.state) b.table_seat.place.me.0 c.finish.result.0 f.state f.table_seat.place.me.0) c.make_waking_none.ensures.kept.same.0 c.finish.ensures.finishes.made.ran)

pub returns-in-Open-clause-last : goal.returns-in-Open-clause-last
returns-in-Open-clause-last g c = let s = c.args.seat.now in let b = c.make_waking_none.new.seat in
    let some : kind s.state.point ≢ None = release_some s.state.point c.requires.gives.0 c.requires.gives.1 in
    let e = c.in-Open.ensures.event in
    c.finish.ensures.finishes.made.last ∙ last_one g.T.Kept.follows g.T.Kept.fits s.table_seat.number s.state b.state s.table_seat.place.me.0 b.table_seat.place.me.0 s.table_seat.moving b.table_seat.moving Open s.seated.named e c.requires.gives.0 c.requires.gives.1

pub returns-in-Open-clause-concludes : goal.returns-in-Open-clause-concludes
returns-in-Open-clause-concludes g c = let s = c.args.seat.now in let b = c.make_waking_none.new.seat in let f = c.finish.new.seat in
    let some : kind s.state.point ≢ None = release_some s.state.point c.requires.gives.0 c.requires.gives.1 in
    let e = c.in-Open.ensures.event in
    concludes_join (record s.state { depth = 0 }) b.state f.state c.finish.result.0
    (first_concludes g.T.Kept.follows g.T.Kept.fits s.state b.state s.table_seat.place.me.0 b.table_seat.place.me.0 s.table_seat.moving b.table_seat.moving Open e c.requires.gives.0 c.requires.gives.1) c.finish.ensures.finishes.made.concludes

-- the step that ends a hold leaves the call open
pub returns-in_default : goal.returns-in_default
returns-in_default g c = let s = c.args.seat.now in let b = c.make_waking_none.new.seat in
    absurd (c.in_default.not-Open (first_opens g.T.Kept.follows g.T.Kept.fits s.state b.state s.table_seat.place.me.0 b.table_seat.place.me.0 s.table_seat.moving b.table_seat.moving c.make_waking_none.result c.make_waking_none.ensures.event c.requires.gives.0 c.requires.gives.1))

pub returns-in-Open-clause-bounded : goal.returns-in-Open-clause-bounded
returns-in-Open-clause-bounded g c = let s = c.args.seat.now in let b = c.make_waking_none.new.seat in let f = c.finish.new.seat in
    let some : kind s.state.point ≢ None = release_some s.state.point c.requires.gives.0 c.requires.gives.1 in
    let e = c.in-Open.ensures.event in
    let first = bounded_more g.T.Kept.follows g.T.Kept.fits s.table_seat.limits.seats s.table_seat.number s.state b.state s.table_seat.place.me.0 b.table_seat.place.me.0 s.table_seat.moving b.table_seat.moving Open some (ap (λ l. l.seats) s.seated.limits_are) s.ready e in
    let then = subst (λ (n : ℕ). length f.table_seat.place.me.0.trail ≤ length b.table_seat.place.me.0.trail + weight n (length b.table_seat.place.me.0.popped) b.state.point) (ap (λ l. l.seats) c.make_waking_none.ensures.kept.same.1) c.finish.ensures.bounded in
    omega (arith, first, then)

pub returns-in-Open-clause-wakes : goal.returns-in-Open-clause-wakes
returns-in-Open-clause-wakes g c = let s = c.args.seat.now in let b = c.make_waking_none.new.seat in let f = c.finish.new.seat in
    wakes_after s.table_seat.limits.seats c.finish.result.1 s.table_seat.place.me.0.trail b.table_seat.place.me.0.trail f.table_seat.place.me.0.trail
    (grants_none g.T.Kept.follows g.T.Kept.fits s.state b.state s.table_seat.place.me.0 b.table_seat.place.me.0 s.table_seat.moving b.table_seat.moving Open c.in-Open.ensures.event (ap granted_at c.requires.gives.1))
    (subst (λ (n : ℕ). Wakes n c.finish.result.1 b.table_seat.place.me.0.trail f.table_seat.place.me.0.trail) (ap (λ l. l.seats) c.make_waking_none.ensures.kept.same.1) c.finish.ensures.finishes.wakes)
