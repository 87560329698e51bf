use Rattle.std.proofs.Common.{◌∙◌, ap, subst, sym}
use Rattle.lfm_condvar.specs.Belongs.{cond_sight}
use Rattle.lfm_condvar.specs.Holds.{MadeFor}
use Rattle.lfm_bench.proofs.peers.morphing.new_condvar.Goals as goal

-- which condvar the seats belong to does not depend on the pace
pub returns-clause-seats : goal.returns-clause-seats
returns-clause-seats c = λ j s at. let of = (c.in-Ok.ensures.seats.1.2 j s at).0 in (
  (of.0.0 ∙ ap (λ t. t.table_id) (sym c.set_pace.ensures.same.0), of.0.1 ∙ sym c.set_pace.ensures.same.1),
  subst (λ l. MadeFor l (cond_sight s)) (sym c.set_pace.ensures.same.1) of.1,
)
