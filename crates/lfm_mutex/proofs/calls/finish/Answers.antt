use Rattle.std.proofs.Common.{◌≡◌, ◌≢◌, ℕ, ◌+◌, ◌<◌, ◌≤◌, length, Option, None, sym, ap, ◌∙◌, subst, arith}
use Rattle.std.specs.Prelude.{false}
use Rattle.lfm_protocol.specs.declared.answers.Turn.{Turn}
use Rattle.lfm_protocol.specs.declared.answers.Turn.TheVariants.{Open}
use Rattle.lfm_protocol.specs.Points.{kind}
use Rattle.lfm_mutex.specs.calls.Due.{due}
use Rattle.lfm_mutex.specs.calls.FailedPushes.{Spends}
use Rattle.lfm_mutex.specs.calls.Runs.{errand, weight, Holds}
use Rattle.lfm_mutex.proofs.runs.StepResults.{open_point}
use Rattle.lfm_mutex.proofs.runs.Running.{event_of, bounded_more, ran_more, last_more, turn_more, release_more, steps_left, ends_of, holds_now}
use Rattle.lfm_mutex.proofs.runs.Spending.{spends_join, spends_more, spends_within}
use Rattle.lfm_table.specs.Rule.{value_in, last_hold}
use Rattle.lfm_mutex.specs.calls.Sight.{Concludes}
use Rattle.lfm_mutex.proofs.runs.Conclusions.{concludes_now, stays_now, concludes_join, stays_join}
use Rattle.lfm_words.specs.Popped.{oldest}
use Rattle.lfm_laws.specs.table.Ready.{IsReady}
use Rattle.lfm_table.specs.Grants.{granted_at}
use Rattle.lfm_table.specs.Steps.{StepLeadsTo}
use Rattle.lfm_mutex.specs.calls.WakeUps.{Wakes, first_of, may_grant}
use Rattle.lfm_mutex.proofs.runs.WakeUps.{wakes_one, wakes_join, once_more, none_idle}
use Rattle.lfm_mutex.proofs.runs.GoesOn.{nobody_join}
use Rattle.lfm_mutex.proofs.calls.finish.Goals as goal

pub either-owed-requires : goal.either-owed-requires
either-owed-requires g c = λ t some. c.make_next-turn.ensures.wakes ∙ ap granted_at (c.loop-ended.invariant.once t some).1

pub loop-ended-smaller : goal.loop-ended-smaller
loop-ended-smaller g c = let l = c.loop-ended.seat in let i = c.loop-ended.invariant in let s = c.make_next-turn.new.seat in
    let some : kind l.state.point ≢ None = open_point l.state.point (λ z. c.requires.open (sym i.call ∙ z)) in
    let e = event_of g.T.Kept.follows g.T.Kept.fits (kind l.state.point) l.state s.state l.table_seat.place.me s.table_seat.place.me l.table_seat.moving s.table_seat.moving Open some (subst (λ (z : Turn). StepLeadsTo (kind l.state.point) g.T.Kept.follows g.T.Kept.fits l.state l.table_seat.moving l.table_seat.place.me z s.state s.table_seat.moving s.table_seat.place.me) c.in-Open.is c.make_next-turn.ensures.event) in
    subst (λ (n : ℕ). weight n (length s.table_seat.place.me.0.popped) s.state.point < weight l.table_seat.limits.seats (length l.table_seat.place.me.0.popped) l.state.point) (ap (λ l. l.seats) (sym c.make_next-turn.ensures.kept.same.1))
    (steps_left g.T.Kept.follows g.T.Kept.fits l.table_seat.limits.seats l.table_seat.number l.state s.state l.table_seat.place.me.0 s.table_seat.place.me.0 l.table_seat.moving s.table_seat.moving Open some (ap (λ l. l.seats) l.seated.limits_are) l.ready e)

pub loop-ended-preserved : goal.loop-ended-preserved
loop-ended-preserved g c = let l = c.loop-ended.seat in let i = c.loop-ended.invariant in let s = c.make_next-turn.new.seat in let first = c.args.seat.now in
    let some : kind l.state.point ≢ None = open_point l.state.point (λ z. c.requires.open (sym i.call ∙ z)) in
    let e = event_of g.T.Kept.follows g.T.Kept.fits (kind l.state.point) l.state s.state l.table_seat.place.me s.table_seat.place.me l.table_seat.moving s.table_seat.moving Open some (subst (λ (z : Turn). StepLeadsTo (kind l.state.point) g.T.Kept.follows g.T.Kept.fits l.state l.table_seat.moving l.table_seat.place.me z s.state s.table_seat.moving s.table_seat.place.me) c.in-Open.is c.make_next-turn.ensures.event) in
    let named : l.table_seat.place.me.0.number ≡ first.table_seat.number = l.seated.named ∙ i.same.0 in
    let told : Concludes l.state Open s.state = concludes_now g.T.Kept.follows g.T.Kept.fits first.table_seat.number l.state s.state l.table_seat.place.me.0 s.table_seat.place.me.0 l.table_seat.moving s.table_seat.moving Open named e some i.keeps in
    let less = bounded_more g.T.Kept.follows g.T.Kept.fits l.table_seat.limits.seats l.table_seat.number l.state s.state l.table_seat.place.me.0 s.table_seat.place.me.0 l.table_seat.moving s.table_seat.moving Open some (ap (λ l. l.seats) l.seated.limits_are) l.ready e in
    let kept = i.bounded in
    let due0 = due first.table_seat.limits.seats (length first.table_seat.place.me.0.popped) first.state.point in let due1 = due l.table_seat.limits.seats (length l.table_seat.place.me.0.popped) l.state.point in let due2 = due l.table_seat.limits.seats (length s.table_seat.place.me.0.popped) s.state.point in
    let spends = spends_join due0 due1 due2 first.table_seat.place.me.0.trail l.table_seat.place.me.0.trail s.table_seat.place.me.0.trail i.spends (spends_more g.T.Kept.follows g.T.Kept.fits l.state s.state l.table_seat.place.me.0 s.table_seat.place.me.0 l.table_seat.moving s.table_seat.moving Open e l.table_seat.limits.seats l.table_seat.number some (ap (λ l. l.seats) l.seated.limits_are) l.ready) in
    let sized : l.table_seat.limits.seats ≡ first.table_seat.limits.seats = ap (λ l. l.seats) i.same.1 in
    let owes = c.make_next-turn.ensures.wakes in
    let wakes = subst (λ (o : Option ℕ). Wakes first.table_seat.limits.seats o first.table_seat.place.me.0.trail s.table_seat.place.me.0.trail) (sym c.either-owed.ensures)
    (wakes_join first.table_seat.limits.seats c.loop-ended.owed c.make_next-turn.result.1 first.table_seat.place.me.0.trail l.table_seat.place.me.0.trail s.table_seat.place.me.0.trail (λ t some. owes ∙ ap granted_at (i.once t some).1) i.wakes
    (wakes_one g.T.Kept.follows g.T.Kept.fits l.state s.state l.table_seat.place.me.0 s.table_seat.place.me.0 l.table_seat.moving s.table_seat.moving Open e first.table_seat.limits.seats l.table_seat.number c.make_next-turn.result.1 owes (subst (λ (n : ℕ). IsReady n l.table_seat.number l.state) sized l.ready))) in
    let none : may_grant (errand first.state.point) ≡ false → c.either-owed.result ≡ None = λ idle. c.either-owed.ensures ∙ (λ j. first_of (i.none idle j) ((owes ∙ none_idle l.state.point (ap may_grant i.call ∙ idle)) j)) in
    record {
      wakes = wakes;
      none = none;
      woken = nobody_join first l s i.woken c.make_next-turn.ensures.kept.woken;
      once = λ t some. let r = once_more l.state l.table_seat.place.me.0.number e.found (oldest e.did.popped) c.loop-ended.owed c.make_next-turn.result.1 i.once owes (sym e.turn_is) t (sym c.either-owed.ensures ∙ some) in (r.0, ap (λ x. x.point) e.seat_is ∙ r.1);
      bounded = subst (λ (n : ℕ). length s.table_seat.place.me.0.trail + weight n (length s.table_seat.place.me.0.popped) s.state.point ≤ length first.table_seat.place.me.0.trail + weight first.table_seat.limits.seats (length first.table_seat.place.me.0.popped) first.state.point) (ap (λ l. l.seats) (sym c.make_next-turn.ensures.kept.same.1))
          (omega (arith, less, kept));
      spends = subst (λ (n : ℕ). Spends due0 (due n (length s.table_seat.place.me.0.popped) s.state.point) first.table_seat.place.me.0.trail s.table_seat.place.me.0.trail) (ap (λ l. l.seats) (sym c.make_next-turn.ensures.kept.same.1)) spends;
      concludes = concludes_join first.state l.state s.state Open i.concludes told;
      stays = stays_join first.state.depth l.state.depth first.table_seat.place.me.0 l.table_seat.place.me.0 s.table_seat.place.me.0 (value_in first.table_seat.moving) (value_in l.table_seat.moving) (value_in s.table_seat.moving) i.concludes.0 i.stays
          (stays_now g.T.Kept.follows g.T.Kept.fits first.table_seat.number l.state s.state l.table_seat.place.me.0 s.table_seat.place.me.0 l.table_seat.moving s.table_seat.moving Open named e i.keeps told);
      belongs = c.make_next-turn.ensures.kept.table ∙ i.belongs;
      same = (c.make_next-turn.ensures.kept.same.0 ∙ i.same.0, c.make_next-turn.ensures.kept.same.1 ∙ i.same.1, c.make_next-turn.ensures.kept.table ∙ i.same.2);
      call = turn_more g.T.Kept.follows g.T.Kept.fits first.table_seat.number first.state first.table_seat.place.me.0 l.state s.state l.table_seat.place.me.0 s.table_seat.place.me.0 l.table_seat.moving s.table_seat.moving Open i.ran named e some ∙ i.call;
      keeps = release_more g.T.Kept.follows g.T.Kept.fits first.table_seat.number first.state first.table_seat.place.me.0 l.state s.state l.table_seat.place.me.0 s.table_seat.place.me.0 l.table_seat.moving s.table_seat.moving Open i.ran named e i.keeps;
      last = last_more g.T.Kept.follows g.T.Kept.fits first.table_seat.number first.state first.table_seat.place.me.0 l.state s.state l.table_seat.place.me.0 s.table_seat.place.me.0 l.table_seat.moving s.table_seat.moving Open i.ran named e i.keeps ∙ i.last;
      ran = ran_more g.T.Kept.follows g.T.Kept.fits first.table_seat.number first.state first.table_seat.place.me.0 l.state s.state l.table_seat.place.me.0 s.table_seat.place.me.0 l.table_seat.moving s.table_seat.moving Open i.ran named e;
    }

pub returns-in_default : goal.returns-in_default
returns-in_default g c = let l = c.loop-ended.seat in let i = c.loop-ended.invariant in let s = c.make_next-turn.new.seat in let first = c.args.seat.now in
    let some : kind l.state.point ≢ None = open_point l.state.point (λ z. c.requires.open (sym i.call ∙ z)) in
    let e = event_of g.T.Kept.follows g.T.Kept.fits (kind l.state.point) l.state s.state l.table_seat.place.me s.table_seat.place.me l.table_seat.moving s.table_seat.moving c.make_next-turn.result.0 some c.make_next-turn.ensures.event in
    let named : l.table_seat.place.me.0.number ≡ first.table_seat.number = l.seated.named ∙ i.same.0 in
    let told : Concludes l.state c.make_next-turn.result.0 s.state = concludes_now g.T.Kept.follows g.T.Kept.fits first.table_seat.number l.state s.state l.table_seat.place.me.0 s.table_seat.place.me.0 l.table_seat.moving s.table_seat.moving c.make_next-turn.result.0 named e some i.keeps in
    let less = bounded_more g.T.Kept.follows g.T.Kept.fits l.table_seat.limits.seats l.table_seat.number l.state s.state l.table_seat.place.me.0 s.table_seat.place.me.0 l.table_seat.moving s.table_seat.moving c.make_next-turn.result.0 some (ap (λ l. l.seats) l.seated.limits_are) l.ready e in
    let kept = i.bounded in
    let due0 = due first.table_seat.limits.seats (length first.table_seat.place.me.0.popped) first.state.point in let due1 = due l.table_seat.limits.seats (length l.table_seat.place.me.0.popped) l.state.point in let due2 = due l.table_seat.limits.seats (length s.table_seat.place.me.0.popped) s.state.point in
    let spends = spends_join due0 due1 due2 first.table_seat.place.me.0.trail l.table_seat.place.me.0.trail s.table_seat.place.me.0.trail i.spends (spends_more g.T.Kept.follows g.T.Kept.fits l.state s.state l.table_seat.place.me.0 s.table_seat.place.me.0 l.table_seat.moving s.table_seat.moving c.make_next-turn.result.0 e l.table_seat.limits.seats l.table_seat.number some (ap (λ l. l.seats) l.seated.limits_are) l.ready) in
    let sized : l.table_seat.limits.seats ≡ first.table_seat.limits.seats = ap (λ l. l.seats) i.same.1 in
    let owes = c.make_next-turn.ensures.wakes in
    let wakes = subst (λ (o : Option ℕ). Wakes first.table_seat.limits.seats o first.table_seat.place.me.0.trail s.table_seat.place.me.0.trail) (sym c.either-owed.ensures)
    (wakes_join first.table_seat.limits.seats c.loop-ended.owed c.make_next-turn.result.1 first.table_seat.place.me.0.trail l.table_seat.place.me.0.trail s.table_seat.place.me.0.trail (λ t some. owes ∙ ap granted_at (i.once t some).1) i.wakes
    (wakes_one g.T.Kept.follows g.T.Kept.fits l.state s.state l.table_seat.place.me.0 s.table_seat.place.me.0 l.table_seat.moving s.table_seat.moving c.make_next-turn.result.0 e first.table_seat.limits.seats l.table_seat.number c.make_next-turn.result.1 owes (subst (λ (n : ℕ). IsReady n l.table_seat.number l.state) sized l.ready))) in
    let none : may_grant (errand first.state.point) ≡ false → c.either-owed.result ≡ None = λ idle. c.either-owed.ensures ∙ (λ j. first_of (i.none idle j) ((owes ∙ none_idle l.state.point (ap may_grant i.call ∙ idle)) j)) in
    record {
      finishes = record {
        kept = record { table = c.make_next-turn.ensures.kept.table ∙ i.same.2; same = (c.make_next-turn.ensures.kept.same.0 ∙ i.same.0, c.make_next-turn.ensures.kept.same.1 ∙ i.same.1); woken = nobody_join first l s i.woken c.make_next-turn.ensures.kept.woken };
        made = record {
          ran = ran_more g.T.Kept.follows g.T.Kept.fits first.table_seat.number first.state first.table_seat.place.me.0 l.state s.state l.table_seat.place.me.0 s.table_seat.place.me.0 l.table_seat.moving s.table_seat.moving c.make_next-turn.result.0 i.ran named e;
          concludes = concludes_join first.state l.state s.state c.make_next-turn.result.0 i.concludes told;
          stays = stays_join first.state.depth l.state.depth first.table_seat.place.me.0 l.table_seat.place.me.0 s.table_seat.place.me.0 (value_in first.table_seat.moving) (value_in l.table_seat.moving) (value_in s.table_seat.moving) i.concludes.0 i.stays
              (stays_now g.T.Kept.follows g.T.Kept.fits first.table_seat.number l.state s.state l.table_seat.place.me.0 s.table_seat.place.me.0 l.table_seat.moving s.table_seat.moving c.make_next-turn.result.0 named e i.keeps told);
          last = last_more g.T.Kept.follows g.T.Kept.fits first.table_seat.number first.state first.table_seat.place.me.0 l.state s.state l.table_seat.place.me.0 s.table_seat.place.me.0 l.table_seat.moving s.table_seat.moving c.make_next-turn.result.0 i.ran named e i.keeps ∙ i.last;
          held = λ how is. subst (λ (n : ℕ). Holds g.T.Kept.follows g.T.Kept.fits n (last_hold first.table_seat.place.me.0) how s.state s.table_seat.moving s.table_seat.place.me.0) i.same.0
              (holds_now g.T.Kept.follows g.T.Kept.fits l.table_seat.number l.table_seat.limits l.state s.state l.table_seat.place.me s.table_seat.place.me.0 l.table_seat.moving s.table_seat.moving c.make_next-turn.result.0 (last_hold first.table_seat.place.me.0) l.seated i.last e how is);
        };
        wakes = wakes;
      };
      ends = ends_of _ _ c.make_next-turn.result.0 s.state.point (λ z. c.in_default.not-Open z) i.call
          (turn_more g.T.Kept.follows g.T.Kept.fits first.table_seat.number first.state first.table_seat.place.me.0 l.state s.state l.table_seat.place.me.0 s.table_seat.place.me.0 l.table_seat.moving s.table_seat.moving c.make_next-turn.result.0 i.ran named e some);
      bounded = omega (arith, less, kept);
      spends = spends_within due0 due0 due2 0 first.table_seat.place.me.0.trail s.table_seat.place.me.0.trail (omega arith) (omega arith) spends;
      none = none;
    }
