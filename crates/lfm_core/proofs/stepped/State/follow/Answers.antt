use Rattle.lfm_core.proofs.stepped.State.follow.Goals as goal

pub returns-in-Steps-clause-core : goal.returns-in-Steps-clause-core
returns-in-Steps-clause-core c = rw c.in-Steps.is c.steps.ensures.core

pub returns-in-Steps-clause-turn : goal.returns-in-Steps-clause-turn
returns-in-Steps-clause-turn c = rw c.in-Steps.is c.steps.ensures.turn
