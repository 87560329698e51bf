use Rattle.lfm_laws.proofs.lawful.calls.DepthsCounted.{depth_counts_holds}
use Rattle.lfm_laws.proofs.calls.depth_counts_holds.Goals as goal

pub returns : goal.returns
returns c = depth_counts_holds
