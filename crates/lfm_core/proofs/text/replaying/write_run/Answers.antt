use Rattle.lfm_text.proofs.Writes.{wrote_then, failed_within, failed_on, failed_after}
use Rattle.lfm_core.proofs.text.replaying.write_run.Goals as goal

pub returns-in_err-write_opening-clause-text : goal.returns-in_err-write_opening-clause-text
returns-in_err-write_opening-clause-text g c = failed_within _ _ _ _ _ _ c.in_err-write_opening.ensures.text c.from_residual.ensures.1

pub returns-in_err-none_refused-clause-text : goal.returns-in_err-none_refused-clause-text
returns-in_err-none_refused-clause-text g c =
    wrote_then _ _ _ _ _ _ _ c.in_ok-write_opening.ensures.text (failed_on _ _ _ _ _ (rw c.deref.ensures.value at c.in_err-none_refused.ensures.text) c.from_residual-in_err-none_refused.ensures.1)

pub returns-in_err-flush-clause-text : goal.returns-in_err-flush-clause-text
returns-in_err-flush-clause-text g c =
    wrote_then _ _ _ _ _ _ _ c.in_ok-write_opening.ensures.text
    (failed_after _ _ _ _ _ _ _ (rw c.deref.ensures.value at c.in_ok-none_refused.ensures.text) c.in_err-flush.ensures c.from_residual-in_err-flush.ensures.1)
