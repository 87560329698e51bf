use Rattle.std.proofs.Common.{◌+◌, arith}
use Rattle.lfm_pool.proofs.SeveralSteps.{same_then}
use Rattle.lfm_pool.proofs.Waits.{ends_by_try, fails_again, has_number}
use Rattle.lfm_pool.proofs.barging.nap.Goals as goal

pub wake_at-word-requires-clause-number : goal.wake_at-word-requires-clause-number
wake_at-word-requires-clause-number g c =
    let number = has_number c.args.seat.now c.args.pool.now c.args.mutex c.requires.between c.requires.mutex in
    (number.low, omega (arith, number.high, c.args.pool.now.few.0))

pub sleep-requires : goal.sleep-requires
sleep-requires g c =
    let number = has_number c.args.seat.now c.args.pool.now c.args.mutex c.requires.between c.requires.mutex in
    record { inside = omega (arith, number.low, number.high, c.args.pool.now.wide, c.wake_at-word.ensures) }

pub returns-then-not-is_busy-clause-tries : goal.returns-then-not-is_busy-clause-tries
returns-then-not-is_busy-clause-tries g c =
    let made = c.loop-made in let h = c.try_if_free-tried in let below = c.loop-made-test.true in
    ends_by_try c.args.pool.now c.args.mutex made.made 4 c.args.seat.now made.seat h.new.seat h.result (omega (arith, below)) c.if-not-is_busy.ensures made.invariant.tries h.ensures.tries

pub loop-made-preserved : goal.loop-made-preserved
loop-made-preserved g c =
    let made = c.loop-made in let h = c.try_if_free-tried in
    record {
      same = same_then c.args.seat.now.table_seat made.seat.table_seat h.new.seat.table_seat made.invariant.same h.ensures.belongs;
      between = h.ensures.between;
      tries = fails_again c.args.pool.now c.args.mutex made.made (made.made + 1) c.args.seat.now made.seat h.new.seat h.result (omega arith) c.if-not-is_busy.ensures made.invariant.tries h.ensures.tries;
    }
