use Rattle.lfm_mutex.proofs.TableRuns.{other_steps_keep_the_core}
use Rattle.lfm_mutex.proofs.laws.other_steps_keep_the_core.Goals as goal

pub returns : goal.returns
returns g c = other_steps_keep_the_core g.T.Kept.follows g.T.Kept.fits
