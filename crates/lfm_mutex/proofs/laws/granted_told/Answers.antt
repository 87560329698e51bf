use Rattle.lfm_mutex.proofs.runs.Granted.{grants_are_told, wake_ups_are_told}
use Rattle.lfm_mutex.proofs.laws.granted_told.Goals as goal

pub returns-clause-grants : goal.returns-clause-grants
returns-clause-grants g c = grants_are_told g.row.T.Denot

pub returns-clause-wake_ups : goal.returns-clause-wake_ups
returns-clause-wake_ups g c = wake_ups_are_told g.row.T.Denot
