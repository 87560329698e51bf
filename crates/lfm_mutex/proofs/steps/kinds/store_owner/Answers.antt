use Rattle.std.proofs.Common.{rules, Some}
use Rattle.lfm_protocol.specs.declared.kinds.Kind.{Kind}
use Rattle.lfm_mutex.proofs.runs.OneStep.{steps_on, leaves_at}
use Rattle.lfm_table.proofs.tables.Granted.{none_beside}
use Rattle.lfm_mutex.proofs.runs.WakeUps.{grants_none}
use Rattle.lfm_mutex.proofs.runs.Woken.{woken_none}
use Rattle.lfm_mutex.proofs.steps.kinds.store_owner.Goals as goal

pub make_waking_none-requires-clause-leaves : goal.make_waking_none-requires-clause-leaves
make_waking_none-requires-clause-leaves g c κs within = let s = c.args.seat.now in leaves_at g.T.Kept.follows g.T.Kept.fits s.table_seat.number s.table_seat.limits s.state s.table_seat.place.me s.table_seat.moving s.seated c.requires.leaves

pub returns : goal.returns
returns g c = let s = c.args.seat.now in let f = c.make_waking_none in let b = f.new.seat in record {
  acts = record {
    belongs = search rules;
    run = f.ensures.run;
    woken = woken_none s b f.ensures.kept.woken (grants_none g.T.Kept.follows g.T.Kept.fits _ _ _ _ _ _ _ f.ensures.event (none_beside s.state.point Kind.OwnerStore c.requires.next.kind (λ e. cc)));
  };
  step = steps_on g.T.Kept.follows g.T.Kept.fits (Some Kind.OwnerStore) s.table_seat.number b.table_seat.number s.table_seat.limits s.state b.state s.table_seat.place.me b.table_seat.place.me s.table_seat.moving b.table_seat.moving f.result s.seated f.ensures.kept.same.0 c.requires.next.kind f.ensures.event;
}

pub make_waking_none-requires-clause-is_next : goal.make_waking_none-requires-clause-is_next
make_waking_none-requires-clause-is_next g c κs within = c.requires.next.kind
