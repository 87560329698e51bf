use Rattle.std.proofs.Common.{rules, ◌≡◌, Some}
use Rattle.std.specs.Prelude.{true, false, is_some}
use Rattle.lfm_pool.proofs.BetweenCalls.{still_asleep, woken}
use Rattle.lfm_pool.proofs.calls.try_receive.Goals as goal

pub try_receive-received-requires-clause-may : goal.try_receive-received-requires-clause-may
try_receive-received-requires-clause-may c =
    let asleep : c.args.seat.now.asleep_in ≡ Some c.args.mutex = search rules in
    (c.requires.between.sleeps c.args.mutex asleep).0.may

pub try_receive-received-requires-clause-sleeps : goal.try_receive-received-requires-clause-sleeps
try_receive-received-requires-clause-sleeps c =
    let asleep : c.args.seat.now.asleep_in ≡ Some c.args.mutex = search rules in
    (c.requires.between.sleeps c.args.mutex asleep).1

pub returns-then-is_some-clause-between : goal.returns-then-is_some-clause-between
returns-then-is_some-clause-between c =
    let k = c.try_receive-received in
    let asleep : c.args.seat.now.asleep_in ≡ Some c.args.mutex = search rules in
    let is : is_some k.result ≡ true = (let a = c.is_some.ensures in let b = c.if-is_some.true in cc) in
    woken c.args.seat.now k.new.seat c.args.pool.now c.args.mutex c.requires.between c.requires.mutex asleep k.ensures.belongs k.result is k.ensures.receives k.ensures.holds

pub returns-else-is_some-clause-between : goal.returns-else-is_some-clause-between
returns-else-is_some-clause-between c =
    let k = c.try_receive-received in
    let asleep : c.args.seat.now.asleep_in ≡ Some c.args.mutex = search rules in
    let is : is_some k.result ≡ false = (let a = c.is_some.ensures in let b = c.if-is_some.false in cc) in
    still_asleep c.args.seat.now k.new.seat c.args.pool.now c.args.mutex c.requires.between c.requires.mutex asleep k.ensures.belongs k.result is k.ensures.receives k.ensures.may
