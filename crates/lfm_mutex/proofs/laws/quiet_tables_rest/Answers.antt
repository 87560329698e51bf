use Rattle.lfm_mutex.proofs.LawsHeld.{quiet_tables_rest}
use Rattle.lfm_mutex.proofs.laws.quiet_tables_rest.Goals as goal

pub returns : goal.returns
returns g c = quiet_tables_rest g.T.Kept.follows g.T.Kept.fits
