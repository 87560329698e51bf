use Rattle.lfm_pool.specs.Steps.{begun_at, call_of, state_at}
use Rattle.lfm_pool.specs.Tables.{known, part}
use Rattle.lfm_pool.proofs.FastPaths.{sits_after_begin}
use Rattle.lfm_pool.proofs.SeveralSteps.{may_after}
use Rattle.lfm_pool.specs.Seats.{note_of}
use Rattle.lfm_pool.proofs.Keeping.{keeps_plain, plain_push}
use Rattle.lfm_pool.proofs.SeatWords.{same_after}
use Rattle.lfm_pool.proofs.moves.start_at.Goals as goal

pub first_step-requires-clause-table : goal.first_step-requires-clause-table
first_step-requires-clause-table g c = c.requires.may.belongs.table

pub first_step-requires-clause-inside : goal.first_step-requires-clause-inside
first_step-requires-clause-inside g c = (c.requires.may.mutex, c.requires.may.belongs.parts)

pub first_step-requires-clause-sits : goal.first_step-requires-clause-sits
first_step-requires-clause-sits g c =
    let s = c.args.seat.now in let m = c.args.mutex in
    sits_after_begin s.number s.place.id c.args.pool.now.limits (state_at s.place.me.0 m g.C.OneCall.depth) (part s.place.me.0 m) c.requires.now (call_of c.args.access)

pub first_step-requires-clause-elsewhere : goal.first_step-requires-clause-elsewhere
first_step-requires-clause-elsewhere g c = c.requires.may.elsewhere

pub returns-clause-belongs : goal.returns-clause-belongs
returns-clause-belongs g c =
    let s = c.args.seat.now in let l = c.args.pool.now.limits in let f = c.first_step in
    same_after s f.new.seat l c.args.mutex f.result (begun_at s.place.me.0 c.args.mutex g.C.OneCall.depth l (call_of c.args.access)) f.ensures.table f.ensures.step

pub returns-clause-may : goal.returns-clause-may
returns-clause-may g c =
    let s = c.args.seat.now in let l = c.args.pool.now.limits in let f = c.first_step in let x = begun_at s.place.me.0 c.args.mutex g.C.OneCall.depth l (call_of c.args.access) in
    may_after s f.new.seat c.args.pool.now c.args.mutex x f.result c.requires.may (same_after s f.new.seat l c.args.mutex f.result x f.ensures.table f.ensures.step) f.ensures.step

pub first_step-requires-clause-is_next : goal.first_step-requires-clause-is_next
first_step-requires-clause-is_next g c = c.requires.is_next.0

pub first_step-requires-clause-chained : goal.first_step-requires-clause-chained
first_step-requires-clause-chained g c =
    let s = c.args.seat.now in let x = begun_at s.place.me.0 c.args.mutex g.C.OneCall.depth c.args.pool.now.limits (call_of c.args.access) in (
      keeps_plain x s.number (part s.place.me.0 c.args.mutex) (note_of s c.args.mutex) c.requires.is_next.1,
      plain_push x.point (known s.place.me.0 c.args.mutex) c.requires.is_next.1,
    )
