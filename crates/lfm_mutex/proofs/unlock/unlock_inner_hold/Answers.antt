use Rattle.std.proofs.Common.{rules, ap, sym, ◌-◌}
use Rattle.lfm_protocol.specs.declared.answers.Call.{Call}
use Rattle.lfm_model.specs.declared.answers.Unlocked.{Unlocked}
use Rattle.lfm_protocol.specs.declared.answers.Answer.{Answer}
use Rattle.lfm_protocol.specs.declared.answers.Turn.TheVariants.{Ended}
use Rattle.lfm_protocol.specs.Begin.{Stepped}
use Rattle.lfm_mutex.proofs.runs.Courses.{ends_at_once}
use Rattle.lfm_table.proofs.tables.Started as Started
use Rattle.lfm_mutex.proofs.runs.FastPathPoints.{begins_still}
use Rattle.lfm_table.proofs.tables.Actions.{run_same}
use Rattle.lfm_mutex.proofs.unlock.unlock_inner_hold.Goals as goal

pub invariant_of-seat : goal.invariant_of-seat
invariant_of-seat g c = let s = c.args.seat.now in
    let b = Started.begun s.table_seat.number s.table_seat.place.table_id.words s.table_seat.place.id s.table_seat.limits s.state (record s.state { depth = s.state.depth - 1 }) s.table_seat.place.me s.table_seat.moving s.seated s.became s.ready s.rooted Call.Unlock (ap (λ (z : Stepped). z.seat) (sym (begins_still s.state s.table_seat.limits c.requires.rests c.requires.deep))) in
    record { seated = b.seated; became = b.became; ready = b.ready; rooted = s.rooted }

pub returns-clause-made : goal.returns-clause-made
returns-clause-made g c = let s = c.args.seat.now in
    ends_at_once g.T.Kept.follows g.T.Kept.fits s.table_seat.number s.table_seat.limits c.args.mutex.now.limits Call.Unlock s.state (record s.state { depth = s.state.depth - 1 }) s.table_seat.place.me.0 s.table_seat.moving (Ended (Answer.Unlocked (Unlocked.Still (s.state.depth - 1)))) c.requires.belongs.1
    (λ e. cc) (begins_still s.state s.table_seat.limits c.requires.rests c.requires.deep)

pub returns-clause-acts : goal.returns-clause-acts
returns-clause-acts g c = record { belongs = search rules; run = run_same; woken = search rules }
