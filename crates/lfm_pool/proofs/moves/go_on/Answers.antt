use Rattle.lfm_pool.specs.Seats.{note_of, state_of}
use Rattle.lfm_pool.specs.Tables.{known, part}
use Rattle.lfm_pool.proofs.Keeping.{keeps_plain, plain_push}
use Rattle.lfm_pool.proofs.SeveralSteps.{may_after}
use Rattle.lfm_pool.proofs.SeatWords.{same_after}
use Rattle.lfm_pool.proofs.moves.go_on.Goals as goal

pub next_step-requires-clause-table : goal.next_step-requires-clause-table
next_step-requires-clause-table c = c.requires.may.belongs.table

pub next_step-requires-clause-inside : goal.next_step-requires-clause-inside
next_step-requires-clause-inside c = (c.requires.may.mutex, c.requires.may.belongs.parts)

pub next_step-requires-clause-sits : goal.next_step-requires-clause-sits
next_step-requires-clause-sits c = c.requires.may.sits

pub next_step-requires-clause-elsewhere : goal.next_step-requires-clause-elsewhere
next_step-requires-clause-elsewhere c = c.requires.may.elsewhere

pub returns-clause-belongs : goal.returns-clause-belongs
returns-clause-belongs c =
    let s = c.args.seat.now in let f = c.next_step in
    same_after s f.new.seat c.args.pool.now.limits c.args.mutex f.result (state_of s c.args.mutex) f.ensures.table f.ensures.step

pub returns-clause-may : goal.returns-clause-may
returns-clause-may c =
    let s = c.args.seat.now in let f = c.next_step in let x = state_of s c.args.mutex in
    may_after s f.new.seat c.args.pool.now c.args.mutex x f.result c.requires.may (same_after s f.new.seat c.args.pool.now.limits c.args.mutex f.result x f.ensures.table f.ensures.step) f.ensures.step

pub next_step-requires-clause-is_next : goal.next_step-requires-clause-is_next
next_step-requires-clause-is_next c = c.requires.is_next.0

pub next_step-requires-clause-chained : goal.next_step-requires-clause-chained
next_step-requires-clause-chained c =
    let s = c.args.seat.now in (
      keeps_plain (state_of s c.args.mutex) s.number (part s.place.me.0 c.args.mutex) (note_of s c.args.mutex) c.requires.is_next.1,
      plain_push (state_of s c.args.mutex).point (known s.place.me.0 c.args.mutex) c.requires.is_next.1,
    )
