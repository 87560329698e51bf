use Rattle.lfm_mutex.proofs.LawsHeld.{tables_are_steady}
use Rattle.lfm_mutex.proofs.laws.tables_are_steady.Goals as goal

pub returns : goal.returns
returns g c = tables_are_steady g.T.Kept.follows g.T.Kept.fits
