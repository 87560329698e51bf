use Rattle.std.proofs.Common.{rules}
use Rattle.lfm_words.proofs.handoffs.unpack_handoff.Goals as goal

pub returns-clause-holds : goal.returns-clause-holds
returns-clause-holds c = search rules

pub returns-clause-packs : goal.returns-clause-packs
returns-clause-packs c = search rules
