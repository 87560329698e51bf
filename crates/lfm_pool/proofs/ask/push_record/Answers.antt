use Rattle.lfm_pool.proofs.Asking.{admitted_still, begins_push, changes_fall_by, goes_on_pushing, has_pushed, may_more, stores_next}
use Rattle.lfm_pool.proofs.SeveralSteps.{same_then}
use Rattle.lfm_pool.proofs.ask.push_record.Goals as goal

pub loop-word-init : goal.loop-word-init
loop-word-init c = begins_push c.args.seat.now c.load_push-word.new.seat c.args.pool.now c.args.mutex c.load_push-word.result c.requires.may c.load_push-word.ensures.belongs c.load_push-word.ensures.loads

pub push-found-requires-clause-belongs : goal.push-found-requires-clause-belongs
push-found-requires-clause-belongs c = c.loop-word.invariant.may.belongs

pub push-found-requires-clause-mutex : goal.push-found-requires-clause-mutex
push-found-requires-clause-mutex c = c.loop-word.invariant.may.mutex

pub push-found-requires-clause-sits : goal.push-found-requires-clause-sits
push-found-requires-clause-sits c = c.loop-word.invariant.may.sits

pub push-found-requires-clause-elsewhere : goal.push-found-requires-clause-elsewhere
push-found-requires-clause-elsewhere c = c.loop-word.invariant.may.elsewhere

pub push-found-requires-clause-at : goal.push-found-requires-clause-at
push-found-requires-clause-at c =
    stores_next c.args.seat.now c.loop-word.seat c.args.pool.now c.args.mutex c.loop-word.word c.requires.may c.loop-word.invariant c.unpack_link.result c.unpack_link.ensures.holds

pub push-found-requires-clause-admitted : goal.push-found-requires-clause-admitted
push-found-requires-clause-admitted c =
    admitted_still c.args.seat.now c.loop-word.seat c.args.pool.now c.args.mutex c.loop-word.word c.requires.may c.loop-word.invariant c.requires.admitted

pub returns-then-found-word-clause-belongs : goal.returns-then-found-word-clause-belongs
returns-then-found-word-clause-belongs c = same_then c.args.seat.now c.loop-word.seat c.push-found.new.seat c.loop-word.invariant.belongs c.push-found.ensures.belongs

pub returns-then-found-word-clause-may : goal.returns-then-found-word-clause-may
returns-then-found-word-clause-may c =
    let h = c.push-found in
    may_more c.args.seat.now c.loop-word.seat c.args.pool.now c.args.mutex c.loop-word.word c.requires.may c.loop-word.invariant h.new.seat h.result c.unpack_link.result c.unpack_link.ensures.holds h.ensures.pushes h.ensures.belongs

pub returns-then-found-word-clause-queues : goal.returns-then-found-word-clause-queues
returns-then-found-word-clause-queues c =
    let h = c.push-found in
    has_pushed c.args.seat.now c.loop-word.seat c.args.pool.now c.args.mutex c.loop-word.word c.requires.may c.loop-word.invariant h.new.seat h.result c.unpack_link.result c.unpack_link.ensures.holds h.ensures.pushes c.if-found-word.true

pub loop-word-smaller : goal.loop-word-smaller
loop-word-smaller c =
    let h = c.push-found in
    changes_fall_by c.loop-word.word h.result c.unpack_link.result c.unpack_link.ensures.holds c.unpack_link.ensures.stamp h.ensures.sees c.if-found-word.false

pub loop-word-preserved : goal.loop-word-preserved
loop-word-preserved c =
    let h = c.push-found in
    goes_on_pushing c.args.seat.now c.loop-word.seat c.args.pool.now c.args.mutex c.loop-word.word c.requires.may c.loop-word.invariant h.new.seat h.result c.unpack_link.result c.unpack_link.ensures.holds h.ensures.pushes h.ensures.belongs
    h.ensures.sees c.if-found-word.false
