use Rattle.std.proofs.Common.{◌+◌, ◌%◌, ◌∙◌, ap}
use Rattle.lfm_bench.proofs.peers.ours.User.add_one.Goals as goal

pub invariant_of-self : goal.invariant_of-self
invariant_of-self c =
    let h = rw c.in-Some.is at (c.value_mut.follows.holds ((c.in-Some.value.now + 1) % 18446744073709551616)) in
    record { belongs = (ap (λ p. p.table_id) h.1 ∙ c.args.self.now.belongs.0, h.3 ∙ c.args.self.now.belongs.1) }
