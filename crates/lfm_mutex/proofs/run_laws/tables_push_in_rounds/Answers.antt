use Rattle.lfm_mutex.proofs.TableRuns.{tables_push_in_rounds}
use Rattle.lfm_mutex.proofs.run_laws.tables_push_in_rounds.Goals as goal

pub returns : goal.returns
returns g c = tables_push_in_rounds g.T.Kept.follows g.T.Kept.fits
