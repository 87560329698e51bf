use Rattle.std.proofs.Common.{rules}
use Rattle.lfm_program.proofs.script_run.refusal_in.Goals as goal

pub returns-in-Performed-Refused-clause-refused : goal.returns-in-Performed-Refused-clause-refused
returns-in-Performed-Refused-clause-refused c = search rules

pub returns-in-Performed-Stuck-clause-refused : goal.returns-in-Performed-Stuck-clause-refused
returns-in-Performed-Stuck-clause-refused c = search rules

pub returns-in-Performed-Refused-clause-stopped : goal.returns-in-Performed-Refused-clause-stopped
returns-in-Performed-Refused-clause-stopped c = search rules
