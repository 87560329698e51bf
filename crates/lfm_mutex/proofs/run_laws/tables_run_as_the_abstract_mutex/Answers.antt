use Rattle.lfm_mutex.proofs.TableRuns.{tables_run_as_the_abstract_mutex}
use Rattle.lfm_mutex.proofs.run_laws.tables_run_as_the_abstract_mutex.Goals as goal

pub returns : goal.returns
returns g c = tables_run_as_the_abstract_mutex g.T.Kept.follows g.T.Kept.fits
