use Rattle.lfm_mutex.proofs.TableEvents.{tables_step_as_the_core}
use Rattle.lfm_mutex.proofs.laws.tables_step_as_the_core.Goals as goal

pub returns : goal.returns
returns g c = tables_step_as_the_core g.T.Kept.follows g.T.Kept.fits
