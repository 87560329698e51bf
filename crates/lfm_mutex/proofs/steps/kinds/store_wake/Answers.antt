use Rattle.std.proofs.Common.{rules, ℕ, ◌≤◌, ◌∙◌, sym, ap, subst, refl, Some, ◌++◌}
use Rattle.std.proofs.lemmas.Bool.{false≢true}
use Rattle.lfm_protocol.specs.declared.kinds.Kind.{Kind}
use Rattle.lfm_mutex.proofs.runs.OneStep.{steps_on, leaves_at, keeps_at}
use Rattle.lfm_mutex.proofs.runs.WakeUps.{within_of, wakes_one}
use Rattle.lfm_table.specs.declared.shared_table.off_trail.OffTrail.{OffTrail}
use Rattle.lfm_mutex.specs.calls.WakeUps.{as_list}
use Rattle.lfm_mutex.proofs.steps.kinds.store_wake.Goals as goal

pub make_of-turn-requires-clause-leaves : goal.make_of-turn-requires-clause-leaves
make_of-turn-requires-clause-leaves g c κs within = let s = c.args.seat.now in
    leaves_at g.T.Kept.follows g.T.Kept.fits s.table_seat.number s.table_seat.limits s.state s.table_seat.place.me s.table_seat.moving s.seated (λ ends. absurd (false≢true (sym (keeps_at Kind.WakeStore s.state.point c.requires.next.kind refl) ∙ ends)))

pub wake_seat-requires : goal.wake_seat-requires
wake_seat-requires g c = let s = c.args.seat.now in (
  search rules,
  λ t some. subst (λ (n : ℕ). t ≤ n) (ap (λ l. l.seats) c.requires.next.belongs.1) (within_of s.state.point s.table_seat.number t s.table_seat.limits.seats (sym c.make_of-turn.ensures.wakes ∙ some) s.ready.within),
)

pub returns : goal.returns
returns g c = let s = c.args.seat.now in let f = c.make_of-turn in let b = f.new.seat in record {
  acts = record {
    belongs = search rules;
    run = f.ensures.run;
    woken = (
      as_list f.result.1,
      c.wake_seat.ensures ∙ ap (λ (o : OffTrail). record o { woken = o.woken ++ as_list f.result.1 }) f.ensures.kept.woken,
      (wakes_one g.T.Kept.follows g.T.Kept.fits s.state b.state s.table_seat.place.me.0 b.table_seat.place.me.0 s.table_seat.moving b.table_seat.moving f.result.0 f.ensures.event s.table_seat.limits.seats s.table_seat.number f.result.1 f.ensures.wakes s.ready).granted,
    );
  };
  step = steps_on g.T.Kept.follows g.T.Kept.fits (Some Kind.WakeStore) s.table_seat.number b.table_seat.number s.table_seat.limits s.state b.state s.table_seat.place.me b.table_seat.place.me s.table_seat.moving b.table_seat.moving f.result.0 s.seated f.ensures.kept.same.0 c.requires.next.kind f.ensures.event;
}
