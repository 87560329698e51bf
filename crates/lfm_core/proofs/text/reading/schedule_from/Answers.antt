use Rattle.lfm_core.proofs.texts.Replays.{some_reading, exact_reading}
use Rattle.lfm_core.proofs.text.reading.schedule_from.Goals as goal

pub returns-clause-some : goal.returns-clause-some
returns-clause-some g c =
    some_reading _ c.in_ok-input.input.items _ _ _ _ c.schedule_in.ensures.no_read c.in_ok-input.ensures.ok (rw c.deref.ensures.value at c.schedule_in.ensures.reads)

pub returns-clause-exact : goal.returns-clause-exact
returns-clause-exact g c = exact_reading _ _ _ _ _ _ c.in_ok-input.ensures.ok (rw c.deref.ensures.value at c.schedule_in.ensures.reads)
