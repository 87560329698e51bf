use Rattle.lfm_mutex.proofs.TableRuns.{tables_end_calls}
use Rattle.lfm_mutex.proofs.run_laws.tables_end_calls.Goals as goal

pub returns : goal.returns
returns g c = tables_end_calls g.T.Kept.follows g.T.Kept.fits
