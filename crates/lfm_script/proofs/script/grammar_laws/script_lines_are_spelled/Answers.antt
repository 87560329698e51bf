use Rattle.lfm_script.proofs.scripts.Decoding.{line_decodes}
use Rattle.lfm_script.proofs.scripts.Spelled.{line_only}
use Rattle.lfm_script.proofs.script.grammar_laws.script_lines_are_spelled.Goals as goal

pub returns-clause-only : goal.returns-clause-only
returns-clause-only c = line_only

pub returns-clause-all : goal.returns-clause-all
returns-clause-all c = line_decodes
