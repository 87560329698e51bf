use Rattle.lfm_mutex.proofs.LawsHeld.{takes_find_a_record}
use Rattle.lfm_mutex.proofs.laws.takes_find_a_record.Goals as goal

pub returns : goal.returns
returns g c = takes_find_a_record g.T.Kept.follows g.T.Kept.fits
