use Rattle.std.proofs.Common.{inr}
use Rattle.lfm_mutex.specs.calls.Sight.{sight}
use Rattle.lfm_monitor.proofs.Barring.{seat_barred}
use Rattle.lfm_monitor.proofs.pass.Pass.bars_wait.Goals as goal

pub returns-in-Some : goal.returns-in-Some
returns-in-Some g c = seat_barred c.args.share (sight c.args.self.now.seat) c.args.self.now.mine c.in-Some.refusal (rw c.requires at c.in-Some.ensures)

pub returns-then-self-share : goal.returns-then-self-share
returns-then-self-share g c = let may = rw c.requires at c.in_default.ensures in (may.0, may.1, inr c.if-self-share.true)

pub returns : goal.returns
returns g c = let may = rw c.requires at c.in_default.ensures in (may.0, may.1, may.2, c.if-self-share.false)
