use Rattle.std.proofs.Common.{ap, rules}
use Rattle.lfm_mutex.proofs.runs.RunGoesOn.{run_stays_at}
use Rattle.lfm_mutex.proofs.sections.change.Goals as goal

-- what is written through the borrow changes only the value
pub returns-clause-acts : goal.returns-clause-acts
returns-clause-acts g c = let h = rw c.in-Some.is at (c.value_mut.follows.holds c.f.new.arg2) in
    record { belongs = (ap (λ p. p.table_id) h.1, h.3); run = run_stays_at (ap (λ p. p.me.0) h.1); woken = h.5 }

pub returns-clause-changes : goal.returns-clause-changes
returns-clause-changes g c = let h = rw c.in-Some.is at (c.value_mut.follows.holds c.f.new.arg2) in (
  c.in-Some.value.now,
  c.f.new.arg2,
  c.in-Some.ensures.value.1,
  search rules,
  h.0,
)
