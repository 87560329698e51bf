use Rattle.lfm_script.proofs.scripts.Decoding.{header_decodes}
use Rattle.lfm_script.proofs.scripts.Spelled.{header_only}
use Rattle.lfm_script.proofs.script.grammar_laws.script_headers_are_spelled.Goals as goal

pub returns-clause-only : goal.returns-clause-only
returns-clause-only c = header_only

pub returns-clause-all : goal.returns-clause-all
returns-clause-all c = header_decodes
