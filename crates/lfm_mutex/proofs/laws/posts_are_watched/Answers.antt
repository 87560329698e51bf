use Rattle.lfm_mutex.proofs.LawsHeld.{posts_are_watched}
use Rattle.lfm_mutex.proofs.laws.posts_are_watched.Goals as goal

pub returns : goal.returns
returns g c = posts_are_watched g.T.Kept.follows g.T.Kept.fits
