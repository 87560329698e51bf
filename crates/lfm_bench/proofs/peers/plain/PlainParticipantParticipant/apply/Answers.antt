use Rattle.std.proofs.Common.{◌∙◌, ap}
use Rattle.lfm_bench.proofs.peers.plain.PlainParticipantParticipant.apply.Goals as goal

pub invariant_of-self-clause-of_mutex : goal.invariant_of-self-clause-of_mutex
invariant_of-self-clause-of_mutex c =
    let h = rw c.in-Some.is at (c.value_mut.follows.holds c.apply.new.self) in
    (ap (λ p. p.table_id) h.1 ∙ c.args.self.now.of_mutex.0, h.3 ∙ c.args.self.now.of_mutex.1)
