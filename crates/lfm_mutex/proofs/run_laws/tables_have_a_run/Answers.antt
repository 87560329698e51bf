use Rattle.lfm_mutex.proofs.TableRuns.{tables_have_a_run}
use Rattle.lfm_mutex.proofs.run_laws.tables_have_a_run.Goals as goal

pub returns : goal.returns
returns g c = tables_have_a_run g.T.Kept.follows g.T.Kept.fits
