use Rattle.lfm_mutex.proofs.TableRuns.{tables_go_through_reached_states}
use Rattle.lfm_mutex.proofs.run_laws.tables_go_through_reached_states.Goals as goal

pub returns : goal.returns
returns g c = tables_go_through_reached_states g.T.Kept.follows g.T.Kept.fits
