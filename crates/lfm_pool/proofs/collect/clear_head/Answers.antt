use Rattle.std.proofs.Common.{refl}
use Rattle.lfm_protocol.specs.declared.points.Point.TheVariants.{TakeClearHead}
use Rattle.lfm_pool.specs.Seats.{note_of, state_of}
use Rattle.lfm_pool.specs.Tables.{known, part}
use Rattle.lfm_pool.proofs.CollectedRecords.{clears_head}
use Rattle.lfm_pool.proofs.Keeping.{keeps_at, may_push}
use Rattle.lfm_pool.proofs.SeatWords.{same_after}
use Rattle.lfm_pool.proofs.collect.clear_head.Goals as goal

pub next_step-requires-clause-table : goal.next_step-requires-clause-table
next_step-requires-clause-table c = c.requires.belongs.table

pub next_step-requires-clause-inside : goal.next_step-requires-clause-inside
next_step-requires-clause-inside c = (c.requires.mutex, c.requires.belongs.parts)

pub next_step-requires-clause-is_next : goal.next_step-requires-clause-is_next
next_step-requires-clause-is_next c = clears_head c.args.pool.now.limits.seats c.args.seat.now.number (state_of c.args.seat.now c.args.mutex) c.requires.at

pub next_step-requires-clause-chained : goal.next_step-requires-clause-chained
next_step-requires-clause-chained c =
    let s = c.args.seat.now in (
      keeps_at (state_of s c.args.mutex) s.number (part s.place.me.0 c.args.mutex) (note_of s c.args.mutex) (TakeClearHead c.requires.at.0) c.requires.at.1 refl refl,
      may_push (TakeClearHead c.requires.at.0) (known s.place.me.0 c.args.mutex) (state_of s c.args.mutex).point c.requires.at.1 tt,
    )

pub returns-clause-belongs : goal.returns-clause-belongs
returns-clause-belongs c = same_after c.args.seat.now c.next_step.new.seat c.args.pool.now.limits c.args.mutex c.next_step.result (state_of c.args.seat.now c.args.mutex) c.next_step.ensures.table c.next_step.ensures.step
