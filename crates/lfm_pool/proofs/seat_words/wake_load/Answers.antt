use Rattle.std.proofs.Common.{arith}
use Rattle.lfm_protocol.specs.declared.answers.Call.TheVariants.{Receive}
use Rattle.lfm_pool.specs.Seats.{state_of}
use Rattle.lfm_pool.specs.Steps.{begun_in}
use Rattle.lfm_pool.specs.Tables.{known, part}
use Rattle.lfm_pool.proofs.FastPaths.{sits_begun}
use Rattle.lfm_pool.proofs.SeatWords.{loads_wake, receives, same_after}
use Rattle.std.proofs.Common.{refl}
use Rattle.lfm_pool.proofs.Keeping.{keeps_at, may_push}
use Rattle.lfm_protocol.specs.declared.points.Point.TheVariants.{ReceiveWakeLoad}
use Rattle.lfm_pool.specs.Seats.{note_of}
use Rattle.lfm_pool.proofs.seat_words.wake_load.Goals as goal

pub wake_at-index-requires-clause-many : goal.wake_at-index-requires-clause-many
wake_at-index-requires-clause-many c = c.args.pool.now.few.1

pub wake_at-index-requires-clause-number : goal.wake_at-index-requires-clause-number
wake_at-index-requires-clause-number c = let low = c.requires.sits.rooted.low in let high = c.requires.sits.rooted.high in let few = c.args.pool.now.few.0 in (low, omega (arith, high, few))

pub wake_at-word-requires-clause-few : goal.wake_at-word-requires-clause-few
wake_at-word-requires-clause-few c = c.args.pool.now.few.0

pub wake_at-word-requires-clause-inside : goal.wake_at-word-requires-clause-inside
wake_at-word-requires-clause-inside c = c.requires.sits.rooted.high

pub first_at-requires-clause-table : goal.first_at-requires-clause-table
first_at-requires-clause-table c = c.requires.belongs.table

pub first_at-requires-clause-inside : goal.first_at-requires-clause-inside
first_at-requires-clause-inside c = (c.requires.mutex, c.requires.belongs.parts)

pub first_at-requires-clause-sits : goal.first_at-requires-clause-sits
first_at-requires-clause-sits c =
    let s = c.args.seat.now in sits_begun s.number s.place.id c.args.pool.now.limits (part s.place.me.0 c.args.mutex) c.requires.sits Receive

pub first_at-requires-clause-is_next : goal.first_at-requires-clause-is_next
first_at-requires-clause-is_next c =
    let s = c.args.seat.now in
    let sits = sits_begun s.number s.place.id c.args.pool.now.limits (part s.place.me.0 c.args.mutex) c.requires.sits Receive in
    loads_wake c.args.pool.now.mutexes c.args.pool.now.limits.seats c.args.mutex c.args.seat.now.number c.wake_at-index.result c.wake_at-word.result (begun_in c.args.seat.now.place.me.0 c.args.mutex c.args.pool.now.limits Receive) sits.ready c.requires.at.0 (receives (state_of c.args.seat.now c.args.mutex) c.args.pool.now.limits c.requires.at) c.wake_at-word.ensures c.wake_at-index.ensures

pub returns-clause-belongs : goal.returns-clause-belongs
returns-clause-belongs c = same_after c.args.seat.now c.first_at.new.seat c.args.pool.now.limits c.args.mutex c.first_at.result (begun_in c.args.seat.now.place.me.0 c.args.mutex c.args.pool.now.limits Receive) c.first_at.ensures.table c.first_at.ensures.step

pub first_at-requires-clause-chained : goal.first_at-requires-clause-chained
first_at-requires-clause-chained c =
    let s = c.args.seat.now in let x = begun_in s.place.me.0 c.args.mutex c.args.pool.now.limits Receive in
    let at = receives (state_of s c.args.mutex) c.args.pool.now.limits c.requires.at in (
      keeps_at x s.number (part s.place.me.0 c.args.mutex) (note_of s c.args.mutex) (ReceiveWakeLoad c.requires.at.0) at refl refl,
      may_push (ReceiveWakeLoad c.requires.at.0) (known s.place.me.0 c.args.mutex) x.point at tt,
    )
