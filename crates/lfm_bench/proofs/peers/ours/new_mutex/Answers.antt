use Rattle.std.proofs.Common.{◌∙◌, ap, sym}
use Rattle.lfm_bench.proofs.peers.ours.new_mutex.Goals as goal

-- which mutex the seats belong to does not depend on the pace
pub returns-clause-seats : goal.returns-clause-seats
returns-clause-seats g c = λ j s at. let of = (c.in-Ok.ensures.seats.1 j s at).0 in
    (of.0 ∙ ap (λ t. t.table_id) (sym c.set_pace.ensures.same.0), of.1 ∙ sym c.set_pace.ensures.same.1)
