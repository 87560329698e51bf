use Rattle.std.proofs.Common.{arith}
use Rattle.lfm_monitor.specs.Belongs.{cond_seats_of, plain_seats_of}
use Rattle.lfm_monitor.proofs.UsedConditions.{conds_woken_none}
use Rattle.lfm_monitor.proofs.UsedPlainConditions.{plain_woken_none}
use Rattle.lfm_monitor.proofs.monitor.Monitor.wait.Goals as goal

pub returns-then-is_plain : goal.returns-then-is_plain
returns-then-is_plain g c = let e = c.wait_until_notified.ensures in record {
  belongs = e.belongs;
  number = e.number;
  run = e.run;
  woken = e.woken;
  cond_woken = conds_woken_none (cond_seats_of c.args.pass.now) (cond_seats_of c.wait_until_notified.new.pass) e.morphing;
  plain_woken = e.plain_woken;
  waits = λ none. absurd (let some = c.if-is_plain.ensures in omega arith);
  plain_waits = λ some. e.waits;
  returns = e.returns;
}

pub returns : goal.returns
returns g c = let e = c.wait_until_sent.ensures in record {
  belongs = e.belongs;
  number = e.number;
  run = e.run;
  woken = e.woken;
  cond_woken = e.cond_woken;
  plain_woken = plain_woken_none (plain_seats_of c.args.pass.now) (plain_seats_of c.wait_until_sent.new.pass) e.plain;
  waits = λ none. e.waits;
  plain_waits = λ some. absurd (let none = c.if-is_plain.ensures in omega arith);
  returns = e.returns;
}
