use Rattle.lfm_mutex.proofs.TableStates.{resting_tables_are_free}
use Rattle.lfm_mutex.proofs.laws.resting_tables_are_free.Goals as goal

pub returns : goal.returns
returns g c = resting_tables_are_free g.T.Kept.follows g.T.Kept.fits
