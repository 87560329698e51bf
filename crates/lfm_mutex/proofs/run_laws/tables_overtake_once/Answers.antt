use Rattle.lfm_mutex.proofs.TableRuns.{tables_overtake_once}
use Rattle.lfm_mutex.proofs.run_laws.tables_overtake_once.Goals as goal

pub returns : goal.returns
returns g c = tables_overtake_once g.T.Kept.follows g.T.Kept.fits
