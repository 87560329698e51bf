use Rattle.lfm_core.proofs.text.trace.write_how.Goals as goal

pub returns-in-Free : goal.returns-in-Free
returns-in-Free g c = rw c.in-Free.is c.write_text.ensures

pub returns-in-Queued : goal.returns-in-Queued
returns-in-Queued g c = rw c.in-Queued.is c.write_labelled.ensures
