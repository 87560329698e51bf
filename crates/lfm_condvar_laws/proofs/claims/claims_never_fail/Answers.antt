use Rattle.lfm_condvar_laws.proofs.reached.ClaimsFound.{claims_never_fail}
use Rattle.lfm_condvar_laws.proofs.claims.claims_never_fail.Goals as goal

pub returns : goal.returns
returns c = claims_never_fail
