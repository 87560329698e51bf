use Rattle.lfm_laws.proofs.lawful.runs.KeptSteady.{reached_are_narrow, steps_at_a_table, steps_at_a_table_in_limits}
use Rattle.lfm_laws.proofs.steadiness.steps_at_a_table.Goals as goal

pub returns-clause-step : goal.returns-clause-step
returns-clause-step c = steps_at_a_table

pub returns-clause-narrow : goal.returns-clause-narrow
returns-clause-narrow c = reached_are_narrow

pub returns-clause-in_limits : goal.returns-clause-in_limits
returns-clause-in_limits c = steps_at_a_table_in_limits
