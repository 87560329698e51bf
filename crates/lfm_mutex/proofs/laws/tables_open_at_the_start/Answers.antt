use Rattle.lfm_mutex.proofs.TableRuns.{tables_open_at_the_start}
use Rattle.lfm_mutex.proofs.laws.tables_open_at_the_start.Goals as goal

pub returns : goal.returns
returns g c = tables_open_at_the_start g.T.Kept.follows g.T.Kept.fits
