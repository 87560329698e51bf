use Rattle.std.proofs.Common.{◌∙◌, ap, sym}
use Rattle.lfm_plain_test_tools.proofs.hands.three_paced_hands.Goals as goal

-- the pace is no part of what the seats belong to
pub with_condvar-requires : goal.with_condvar-requires
with_condvar-requires c = λ j s at. let of = (c.in-Ok.ensures.seats.1 j s at).0 in (of.0 ∙ ap (λ t. t.table_id) (sym c.set_pace.ensures.same.0), of.1 ∙ sym c.set_pace.ensures.same.1)
