use Rattle.lfm_mutex.proofs.TableRuns.{seats_know_up_to_their_last_step}
use Rattle.lfm_mutex.proofs.runs.RunGoesOn.{same_trails_know_the_same}
use Rattle.lfm_mutex.proofs.run_laws.seats_know_up_to_their_last_step.Goals as goal

pub returns-clause-known : goal.returns-clause-known
returns-clause-known g c = seats_know_up_to_their_last_step g.T.Kept.follows g.T.Kept.fits

pub returns-clause-same : goal.returns-clause-same
returns-clause-same g c = same_trails_know_the_same g.row.T.Denot
