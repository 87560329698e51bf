use Rattle.std.proofs.Common.{ap, ◌+◌, ◌%◌}
use Rattle.lfm_test_tools.proofs.adding.add_one.Goals as goal

pub returns : goal.returns
returns c = let h = rw c.in-Some.is at (c.value_mut.follows.holds ((c.in-Some.number.now + 1) % 18446744073709551616)) in (ap (λ p. p.table_id) h.1, h.3)
