use Rattle.std.proofs.Common.{◌∙◌, ap, sym}
use Rattle.lfm_mutex.specs.Belongs.{OfMutex}
use Rattle.lfm_mutex.proofs.Lists.{all_by_place}
use Rattle.lfm_thread_tests.proofs.mutex.paced.paced.Goals as goal

-- the pace is no part of what the seats belong to
pub returns : goal.returns
returns c = all_by_place (λ s. OfMutex s c.set_pace.new.self) c.in-Ok.seats.items (λ j s at. let of = (c.in-Ok.ensures.seats.1 j s at).0 in
    (of.0 ∙ ap (λ t. t.table_id) (sym c.set_pace.ensures.same.0), of.1 ∙ sym c.set_pace.ensures.same.1))
