use Rattle.std.proofs.Common.{arith}
use Rattle.lfm_pool.specs.Seats.{state_of}
use Rattle.lfm_pool.proofs.SeatWords.{grants, small_grant, target_of_grant, same_after}
use Rattle.lfm_pool.proofs.Keeping.{keeps_by_grant, may_push}
use Rattle.lfm_protocol.specs.declared.points.Point.TheVariants.{GrantWakeStore}
use Rattle.lfm_pool.specs.Seats.{note_of}
use Rattle.lfm_pool.specs.Tables.{known, part}
use Rattle.lfm_pool.proofs.wake_up.grant.Goals as goal

pub wake_at-index-requires-clause-many : goal.wake_at-index-requires-clause-many
wake_at-index-requires-clause-many c = c.args.pool.now.few.1

pub wake_at-index-requires-clause-number : goal.wake_at-index-requires-clause-number
wake_at-index-requires-clause-number c = let t = target_of_grant c.args.pool.now.mutexes c.args.pool.now.limits.seats c.args.mutex c.args.seat.now.number 0 0 (state_of c.args.seat.now c.args.mutex) c.requires.sits.ready c.args.oldest c.requires.at in let same = c.get-target.ensures in let few = c.args.pool.now.few.0 in (omega (arith, t.0, same), omega (arith, t.1, few, same))

pub wake_at-word-requires-clause-few : goal.wake_at-word-requires-clause-few
wake_at-word-requires-clause-few c = c.args.pool.now.few.0

pub wake_at-word-requires-clause-inside : goal.wake_at-word-requires-clause-inside
wake_at-word-requires-clause-inside c = let t = target_of_grant c.args.pool.now.mutexes c.args.pool.now.limits.seats c.args.mutex c.args.seat.now.number 0 0 (state_of c.args.seat.now c.args.mutex) c.requires.sits.ready c.args.oldest c.requires.at in let same = c.get-target.ensures in omega (arith, t.1, same)

pub to_word-wake-requires : goal.to_word-wake-requires
to_word-wake-requires c = small_grant c.args.pool.now.mutexes c.args.pool.now.limits.seats c.args.mutex c.args.seat.now.number 0 0 (state_of c.args.seat.now c.args.mutex) c.requires.sits.ready c.args.oldest c.requires.at

pub next_at-requires-clause-table : goal.next_at-requires-clause-table
next_at-requires-clause-table c = c.requires.belongs.table

pub next_at-requires-clause-inside : goal.next_at-requires-clause-inside
next_at-requires-clause-inside c = (c.requires.mutex, c.requires.belongs.parts)

pub next_at-requires-clause-is_next : goal.next_at-requires-clause-is_next
next_at-requires-clause-is_next c =
    grants c.args.pool.now.mutexes c.args.pool.now.limits.seats c.args.mutex c.args.seat.now.number c.wake_at-index.result c.wake_at-word.result (state_of c.args.seat.now c.args.mutex) c.requires.sits.ready c.args.oldest c.requires.at c.to_word-wake.result c.to_word-wake.ensures (let e = c.wake_at-word.ensures in let same = c.get-target.ensures in omega (arith, e, same)) (let e = c.wake_at-index.ensures in let same = c.get-target.ensures in omega (arith, e, same))

pub returns-clause-belongs : goal.returns-clause-belongs
returns-clause-belongs c = same_after c.args.seat.now c.next_at.new.seat c.args.pool.now.limits c.args.mutex c.next_at.result (state_of c.args.seat.now c.args.mutex) c.next_at.ensures.table c.next_at.ensures.step

pub next_at-requires-clause-chained : goal.next_at-requires-clause-chained
next_at-requires-clause-chained c =
    let s = c.args.seat.now in (
      keeps_by_grant (state_of s c.args.mutex) s.number (part s.place.me.0 c.args.mutex) (note_of s c.args.mutex) c.requires.at.0 c.args.oldest c.requires.at.1 c.requires.whole,
      may_push (GrantWakeStore c.requires.at.0 c.args.oldest) (known s.place.me.0 c.args.mutex) (state_of s c.args.mutex).point c.requires.at.1 tt,
    )
