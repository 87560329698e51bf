use Rattle.lfm_pool_laws.proofs.States.{posts_of_mutexes_are_watched}
use Rattle.lfm_pool_laws.proofs.state_laws.posts_of_mutexes_are_watched.Goals as goal

pub returns : goal.returns
returns c = posts_of_mutexes_are_watched
