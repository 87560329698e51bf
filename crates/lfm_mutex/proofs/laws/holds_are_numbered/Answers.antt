use Rattle.lfm_mutex.proofs.EndedHolds.{holds_are_numbered}
use Rattle.lfm_mutex.proofs.laws.holds_are_numbered.Goals as goal

pub returns : goal.returns
returns g c = holds_are_numbered g.T.Kept.follows g.T.Kept.fits
