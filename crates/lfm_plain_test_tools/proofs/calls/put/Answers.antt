use Rattle.std.proofs.Common.{ap}
use Rattle.lfm_plain_test_tools.proofs.calls.put.Goals as goal

pub returns : goal.returns
returns c = let h = rw c.in-Some.is at (c.value_mut.follows.holds c.args.number) in (ap (λ p. p.table_id) h.1, h.3)
