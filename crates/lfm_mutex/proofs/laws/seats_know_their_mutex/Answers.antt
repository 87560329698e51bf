use Rattle.lfm_mutex.proofs.LawsHeld.{seats_know_their_mutex}
use Rattle.lfm_mutex.proofs.laws.seats_know_their_mutex.Goals as goal

pub returns : goal.returns
returns g c = seats_know_their_mutex g.row.T.Denot
