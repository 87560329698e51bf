use Rattle.std.proofs.Common.{rules}
use Rattle.lfm_model.proofs.objects.TotalObject.apply.Goals as goal

pub returns-clause-changes : goal.returns-clause-changes
returns-clause-changes c = search rules

pub returns-clause-replies : goal.returns-clause-replies
returns-clause-replies c = search rules
