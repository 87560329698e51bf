use Rattle.lfm_mutex.proofs.TableRuns.{tables_go_on_as_the_core}
use Rattle.lfm_mutex.proofs.laws.tables_go_on_as_the_core.Goals as goal

pub returns : goal.returns
returns g c = tables_go_on_as_the_core g.T.Kept.follows g.T.Kept.fits
