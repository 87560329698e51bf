use Rattle.std.proofs.Common.{rules, sym, true, ◌≡◌}
use Rattle.lfm_protocol.specs.Limits.{are_in_limits}
use Rattle.lfm_laws.proofs.steady.Start.{start_steady, few_seats, small_budget}
use Rattle.lfm_core.proofs.stepped.State.new.Goals as goal

pub invariant_of-result : goal.invariant_of-result
invariant_of-result c =
    let allowed : are_in_limits c.args.seats c.args.budget ≡ true = sym c.if-not-are_allowed.ensures in
    rw c.in-Ok.ensures
    (start_steady (record { seats = c.args.seats; budget = c.args.budget }) (few_seats c.args.seats c.args.budget allowed), small_budget c.args.seats c.args.budget allowed)

pub returns-then-not-are_allowed-clause-memory : goal.returns-then-not-are_allowed-clause-memory
returns-then-not-are_allowed-clause-memory c = search rules
