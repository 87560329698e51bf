use Rattle.std.proofs.Common.{◌+◌, arith, Err}
use Rattle.lfm_model.specs.declared.refusals.Refusal.{Refusal}
use Rattle.lfm_pool.proofs.SeveralSteps.{same_then}
use Rattle.lfm_pool.proofs.Waits.{ends_by_try, fails_again, tries_fewer}
use Rattle.lfm_pool.proofs.barging.spin.Goals as goal

pub returns-then-not-is_busy-clause-tries : goal.returns-then-not-is_busy-clause-tries
returns-then-not-is_busy-clause-tries c =
    let made = c.loop-made in let h = c.try_if_free-tried in let below = c.loop-made-test.true in
    ends_by_try c.args.pool.now c.args.mutex made.made 11 c.args.seat.now made.seat h.new.seat h.result (omega (arith, below, c.spins_of-made-end.ensures)) c.if-not-is_busy.ensures made.invariant.tries h.ensures.tries

pub returns-then-counted-gt-HOLDER_AND_ONE_MORE-clause-tries : goal.returns-then-counted-gt-HOLDER_AND_ONE_MORE-clause-tries
returns-then-counted-gt-HOLDER_AND_ONE_MORE-clause-tries c =
    let made = c.loop-made in let h = c.try_if_free-tried in let below = c.loop-made-test.true in
    fails_again c.args.pool.now c.args.mutex made.made 11 c.args.seat.now made.seat h.new.seat h.result (omega (arith, below, c.spins_of-made-end.ensures)) c.if-not-is_busy.ensures made.invariant.tries h.ensures.tries

pub loop-made-preserved : goal.loop-made-preserved
loop-made-preserved c =
    let made = c.loop-made in let h = c.try_if_free-tried in
    record {
      same = same_then c.args.seat.now.table_seat made.seat.table_seat h.new.seat.table_seat made.invariant.same h.ensures.belongs;
      between = h.ensures.between;
      tries = fails_again c.args.pool.now c.args.mutex made.made (made.made + 1) c.args.seat.now made.seat h.new.seat h.result (omega arith) c.if-not-is_busy.ensures made.invariant.tries h.ensures.tries;
    }

pub returns-clause-tries : goal.returns-clause-tries
returns-clause-tries c =
    let made = c.loop-made in
    tries_fewer c.args.pool.now c.args.mutex made.made 11 c.args.seat.now made.seat (Err Refusal.Busy) (omega (arith, c.spins_of-made-end.ensures)) made.invariant.tries
