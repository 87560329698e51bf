use Rattle.lfm_condvar_laws.proofs.rounds.Made.{rounds_can_be_made}
use Rattle.lfm_condvar_laws.proofs.rounds.SentWaiters.{granted_waiters_hold_in_rounds, sent_waiters_hold_in_rounds}
use Rattle.lfm_condvar_laws.proofs.waits.sent_waiters_hold_in_rounds.Goals as goal

pub returns-clause-queued : goal.returns-clause-queued
returns-clause-queued c = sent_waiters_hold_in_rounds

pub returns-clause-granted : goal.returns-clause-granted
returns-clause-granted c = granted_waiters_hold_in_rounds

pub returns-clause-rounds : goal.returns-clause-rounds
returns-clause-rounds c = rounds_can_be_made
