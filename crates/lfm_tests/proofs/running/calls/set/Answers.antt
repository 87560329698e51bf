use Rattle.std.proofs.Common.{ap}
use Rattle.lfm_tests.proofs.running.calls.set.Goals as goal

pub returns : goal.returns
returns c = let h = rw c.in-Some.is at (c.value_mut.follows.holds c.args.value) in (ap (λ p. p.table_id) h.1, h.3)
