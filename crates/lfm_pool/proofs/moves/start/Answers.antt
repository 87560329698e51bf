use Rattle.lfm_pool.specs.Steps.{begun_in, call_of}
use Rattle.lfm_pool.specs.Tables.{known, part}
use Rattle.lfm_pool.proofs.FastPaths.{sits_begun}
use Rattle.lfm_pool.proofs.SeveralSteps.{may_after}
use Rattle.lfm_pool.specs.Seats.{note_of}
use Rattle.lfm_pool.proofs.Keeping.{keeps_plain, plain_push}
use Rattle.lfm_pool.proofs.SeatWords.{same_after}
use Rattle.lfm_pool.proofs.moves.start.Goals as goal

pub first_step-requires-clause-table : goal.first_step-requires-clause-table
first_step-requires-clause-table c = c.requires.may.belongs.table

pub first_step-requires-clause-inside : goal.first_step-requires-clause-inside
first_step-requires-clause-inside c = (c.requires.may.mutex, c.requires.may.belongs.parts)

pub first_step-requires-clause-sits : goal.first_step-requires-clause-sits
first_step-requires-clause-sits c =
    let s = c.args.seat.now in sits_begun s.number s.place.id c.args.pool.now.limits (part s.place.me.0 c.args.mutex) c.requires.may.sits (call_of c.args.access)

pub first_step-requires-clause-elsewhere : goal.first_step-requires-clause-elsewhere
first_step-requires-clause-elsewhere c = c.requires.may.elsewhere

pub returns-clause-belongs : goal.returns-clause-belongs
returns-clause-belongs c =
    let s = c.args.seat.now in let l = c.args.pool.now.limits in let f = c.first_step in
    same_after s f.new.seat l c.args.mutex f.result (begun_in s.place.me.0 c.args.mutex l (call_of c.args.access)) f.ensures.table f.ensures.step

pub returns-clause-may : goal.returns-clause-may
returns-clause-may c =
    let s = c.args.seat.now in let l = c.args.pool.now.limits in let f = c.first_step in let x = begun_in s.place.me.0 c.args.mutex l (call_of c.args.access) in
    may_after s f.new.seat c.args.pool.now c.args.mutex x f.result c.requires.may (same_after s f.new.seat l c.args.mutex f.result x f.ensures.table f.ensures.step) f.ensures.step

pub first_step-requires-clause-is_next : goal.first_step-requires-clause-is_next
first_step-requires-clause-is_next c = c.requires.is_next.0

pub first_step-requires-clause-chained : goal.first_step-requires-clause-chained
first_step-requires-clause-chained c =
    let s = c.args.seat.now in let x = begun_in s.place.me.0 c.args.mutex c.args.pool.now.limits (call_of c.args.access) in (
      keeps_plain x s.number (part s.place.me.0 c.args.mutex) (note_of s c.args.mutex) c.requires.is_next.1,
      plain_push x.point (known s.place.me.0 c.args.mutex) c.requires.is_next.1,
    )
