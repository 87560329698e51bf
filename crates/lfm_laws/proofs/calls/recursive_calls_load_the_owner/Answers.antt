use Rattle.lfm_laws.proofs.lawful.calls.RecursiveCalls.{recursive_calls_load_the_owner}
use Rattle.lfm_laws.proofs.calls.recursive_calls_load_the_owner.Goals as goal

pub returns : goal.returns
returns c = recursive_calls_load_the_owner
