use Rattle.std.proofs.Common.{rules}
use Rattle.lfm_shown.proofs.cases.next_case.Goals as goal

pub returns-in-PushedHandoffExchange : goal.returns-in-PushedHandoffExchange
returns-in-PushedHandoffExchange c = search rules
