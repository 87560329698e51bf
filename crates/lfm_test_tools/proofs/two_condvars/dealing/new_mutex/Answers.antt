use Rattle.std.proofs.Common.{◌∙◌, ap, sym}
use Rattle.lfm_test_tools.proofs.two_condvars.dealing.new_mutex.Goals as goal

-- the pace is no part of what the seats belong to
pub returns-clause-seats : goal.returns-clause-seats
returns-clause-seats c = λ j s at. let of = (c.in-Ok.ensures.seats.1 j s at).0 in
    (of.0 ∙ ap (λ t. t.table_id) (sym c.set_pace.ensures.same.0), of.1 ∙ sym c.set_pace.ensures.same.1)
