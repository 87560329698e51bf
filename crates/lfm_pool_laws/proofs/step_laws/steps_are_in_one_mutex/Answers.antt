use Rattle.lfm_pool_laws.proofs.Steps.{carriers_write_in_one_mutex, steps_are_in_one_mutex}
use Rattle.lfm_pool_laws.proofs.step_laws.steps_are_in_one_mutex.Goals as goal

pub returns-clause-steps : goal.returns-clause-steps
returns-clause-steps c = steps_are_in_one_mutex

pub returns-clause-writes : goal.returns-clause-writes
returns-clause-writes c = carriers_write_in_one_mutex
