use Rattle.lfm_mutex.proofs.TableStates.{tables_stand}
use Rattle.lfm_mutex.proofs.laws.tables_stand.Goals as goal

pub returns : goal.returns
returns g c = tables_stand g.T.Kept.follows g.T.Kept.fits
