use Rattle.std.proofs.Common.{rules, ◌≡◌, None}
use Rattle.lfm_pool.proofs.BetweenCalls.{unlocked}
use Rattle.lfm_pool.proofs.calls.unlock_without_waking.Goals as goal

pub returns-clause-between : goal.returns-clause-between
returns-clause-between c =
    let k = c.unlock in
    let awake : c.args.seat.now.asleep_in ≡ None = search rules in
    unlocked c.args.seat.now k.new.seat c.args.pool.now c.args.mutex c.requires.between c.requires.mutex awake k.result k.ensures.rest k.ensures.unlocks
