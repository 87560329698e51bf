use Rattle.lfm_pool.proofs.ChainLaws.{chains_are_walked}
use Rattle.lfm_pool.proofs.laws.chains_are_walked.Goals as goal

pub returns : goal.returns
returns c = chains_are_walked
