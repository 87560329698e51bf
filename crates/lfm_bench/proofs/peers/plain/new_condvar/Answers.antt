use Rattle.std.proofs.Common.{◌≡◌, ◌∙◌, ap, subst, sym}
use Rattle.lfm_mutex.specs.calls.Sight.{sight}
use Rattle.lfm_plain_condvar.specs.declared.parkers.Parkers.{Parkers}
use Rattle.lfm_plain_condvar.specs.Belongs.{HasWaker}
use Rattle.lfm_plain_condvar.specs.Holds.{SeatKept}
use Rattle.lfm_bench.proofs.peers.plain.new_condvar.Goals as goal

-- which condvar the seats belong to does not depend on the pace
pub returns : goal.returns
returns c = λ j s at.
    let same = c.set_pace.ensures.same in
    let of = c.in-Ok.ensures.belongs j s at in
    let has = (λ (p : Parkers). (SeatKept p.table.shared.table_id p.seats (sight s.seat) × (s.log.seat.table_id ≡ p.table.shared.table_id)) × HasWaker s p) in
    let now = subst has (sym same.2) ((of.0.1, of.0.2), of.1) in
    (((of.0.0.0 ∙ ap (λ t. t.table_id) (sym same.0), of.0.0.1 ∙ sym same.1), now.0.0, now.0.1), now.1)
