use Rattle.std.proofs.Common.{rules, ℕ, ◌+◌, ◌≤◌, Option, length, sym, ap, subst, ◌∙◌, arith}
use Rattle.lfm_table.specs.declared.seat_view.View.{View}
use Rattle.lfm_table.specs.declared.rule.Moving.{Moving}
use Rattle.lfm_mutex.specs.calls.Runs.{release_steps}
use Rattle.lfm_table.specs.Steps.{MayBeLeft}
use Rattle.lfm_mutex.proofs.runs.CallStarts.{begun_release, weight_begun}
use Rattle.lfm_table.specs.Rule.{value_in}
use Rattle.lfm_mutex.proofs.runs.StartSights.{begun}
use Rattle.lfm_mutex.proofs.runs.EndSights.{release_once}
use Rattle.lfm_mutex.proofs.runs.SightParts.{may_leave}
use Rattle.lfm_protocol.specs.declared.limits.Limits.{Limits}
use Rattle.lfm_mutex.specs.calls.WakeUps.{Wakes, grants_of}
use Rattle.lfm_mutex.proofs.runs.WakeUps.{wakes_none}
use Rattle.lfm_table.proofs.tables.Actions.{run_next}
use Rattle.lfm_mutex.proofs.runs.RunGoesOn.{run_stays_at}
use Rattle.lfm_mutex.proofs.runs.SeatCalls.{at_once, answers, by_release}
use Rattle.lfm_mutex.proofs.calls.begin_and_release.Goals as goal

pub finish_from_owner_store-requires-clause-gives : goal.finish_from_owner_store-requires-clause-gives
finish_from_owner_store-requires-clause-gives g c κs within = let s = c.args.seat.now in
    begun_release s.state c.begin_call.new.seat.state s.table_seat.limits c.args.call c.requires.gives (sym c.in-Open.ensures.turn) c.in-Open.ensures.seat

pub finish_from_owner_store-requires-clause-leaves : goal.finish_from_owner_store-requires-clause-leaves
finish_from_owner_store-requires-clause-leaves g c κs within = let s = c.args.seat.now in let b = c.begin_call.new.seat in
    let began = begun g.T.Kept.follows g.T.Kept.fits s.table_seat.number s.table_seat.limits s.table_seat.place.me.0 (value_in s.table_seat.moving) s.state b.state c.args.call c.in-Open.ensures.turn c.in-Open.ensures.seat in
    let one = release_once s.table_seat.limits c.args.call s.state b.state c.requires.gives began in
    let may = may_leave g.T.Kept.follows g.T.Kept.fits s.table_seat.number s.state s.table_seat.place.me.0 s.table_seat.moving s.seated.named (omega (arith, one)) (c.requires.leaves one) in
    subst (λ (t : Option (Moving g.row.T.Denot) × View g.row.T.Denot). MayBeLeft g.T.Kept.follows g.T.Kept.fits t.0 t.1) (λ i. (sym c.begin_call.ensures.same.3 i, ap (λ p. p.me.0) (sym c.begin_call.ensures.same.0) i)) may

pub returns-in-Open-clause-answers : goal.returns-in-Open-clause-answers
returns-in-Open-clause-answers g c = let s = c.args.seat.now in let b = c.begin_call.new.seat in let r = c.finish_from_owner_store in
    answers g.T.Kept.follows g.T.Kept.fits s b c.args.mutex.now.limits c.args.call c.requires.belongs.1 c.begin_call.ensures.same c.in-Open.ensures.seat r.new.seat r.result.0 c.in-Open.ensures.turn c.finish_from_owner_store.ensures.kept c.finish_from_owner_store.ensures.ends

pub returns-in-Open-clause-turned : goal.returns-in-Open-clause-turned
returns-in-Open-clause-turned g c = let s = c.args.seat.now in let b = c.begin_call.new.seat in let r = c.finish_from_owner_store in
    (by_release g.T.Kept.follows g.T.Kept.fits s b c.args.mutex.now.limits c.args.call c.requires.belongs.1 c.begin_call.ensures.same c.in-Open.ensures.seat r.new.seat r.result.0 c.in-Open.ensures.turn c.finish_from_owner_store.ensures.kept c.finish_from_owner_store.ensures.ends c.requires.gives c.finish_from_owner_store.ensures.concludes c.finish_from_owner_store.ensures.last c.finish_from_owner_store.ensures.ran).turned

pub returns-in_default-clause-turned : goal.returns-in_default-clause-turned
returns-in_default-clause-turned g c = let s = c.args.seat.now in let b = c.begin_call.new.seat in
    (at_once g.T.Kept.follows g.T.Kept.fits s b c.args.mutex.now.limits c.args.call c.requires.belongs.1 c.begin_call.ensures.same c.begin_call.ensures.seat c.begin_call.result (λ z. c.in_default.not-Open z) c.begin_call.ensures.turn).turned

pub returns-in-Open-clause-made : goal.returns-in-Open-clause-made
returns-in-Open-clause-made g c = let s = c.args.seat.now in let b = c.begin_call.new.seat in let r = c.finish_from_owner_store in
    (by_release g.T.Kept.follows g.T.Kept.fits s b c.args.mutex.now.limits c.args.call c.requires.belongs.1 c.begin_call.ensures.same c.in-Open.ensures.seat r.new.seat r.result.0 c.in-Open.ensures.turn c.finish_from_owner_store.ensures.kept c.finish_from_owner_store.ensures.ends c.requires.gives c.finish_from_owner_store.ensures.concludes c.finish_from_owner_store.ensures.last c.finish_from_owner_store.ensures.ran).made

pub returns-in_default-clause-made : goal.returns-in_default-clause-made
returns-in_default-clause-made g c = let s = c.args.seat.now in let b = c.begin_call.new.seat in
    (at_once g.T.Kept.follows g.T.Kept.fits s b c.args.mutex.now.limits c.args.call c.requires.belongs.1 c.begin_call.ensures.same c.begin_call.ensures.seat c.begin_call.result (λ z. c.in_default.not-Open z) c.begin_call.ensures.turn).made

pub returns-in-Open-clause-bounded : goal.returns-in-Open-clause-bounded
returns-in-Open-clause-bounded g c = let s = c.args.seat.now in let b = c.begin_call.new.seat in let f = c.finish_from_owner_store.new.seat in
    let most = weight_begun b.table_seat.limits.seats (length b.table_seat.place.me.0.popped) s.state b.state s.table_seat.limits c.args.call c.requires.gives (sym c.in-Open.ensures.turn) c.in-Open.ensures.seat in
    let made = subst (λ (n : ℕ). length f.table_seat.place.me.0.trail ≤ length b.table_seat.place.me.0.trail + n) most c.finish_from_owner_store.ensures.bounded in
    subst (λ (t : View g.row.T.Denot × Limits). length f.table_seat.place.me.0.trail ≤ length t.0.trail + release_steps t.1.seats c.args.call)
    (λ i. (ap (λ p. p.me.0) c.begin_call.ensures.same.0 i, (c.begin_call.ensures.same.2 ∙ c.requires.belongs.1) i)) made

pub returns-in_default-clause-bounded : goal.returns-in_default-clause-bounded
returns-in_default-clause-bounded g c = let s = c.args.seat.now in let b = c.begin_call.new.seat in
    let same = ap (λ p. length p.me.0.trail) c.begin_call.ensures.same.0 in omega (arith, same)

pub returns-in-Open-clause-acts : goal.returns-in-Open-clause-acts
returns-in-Open-clause-acts g c = record {
  belongs = search rules;
  woken = search rules;
  run = run_next (run_stays_at (ap (λ p. p.me.0) c.begin_call.ensures.same.0)) c.finish_from_owner_store.ensures.ran.run;
  wakes = let f = c.finish_from_owner_store.new.seat in
      subst (λ (t : View g.row.T.Denot × Limits). Wakes t.1.seats c.finish_from_owner_store.result.1 t.0.trail f.table_seat.place.me.0.trail) (λ i. (ap (λ p. p.me.0) c.begin_call.ensures.same.0 i, (c.begin_call.ensures.same.2 ∙ c.requires.belongs.1) i)) c.finish_from_owner_store.ensures.wakes;
}

pub returns-in_default-clause-acts : goal.returns-in_default-clause-acts
returns-in_default-clause-acts g c = record {
  belongs = search rules;
  woken = search rules;
  run = run_stays_at (ap (λ p. p.me.0) c.begin_call.ensures.same.0);
  wakes = let s = c.args.seat.now in let b = c.begin_call.new.seat in
      wakes_none c.args.mutex.now.limits.seats s.table_seat.place.me.0.trail b.table_seat.place.me.0.trail (ap (λ p. grants_of p.me.0.trail) c.begin_call.ensures.same.0);
}
