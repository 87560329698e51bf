use Rattle.lfm_core.proofs.texts.Decoding.{spelled_decodes}
use Rattle.lfm_core.proofs.texts.Spelled.{line_only}
use Rattle.lfm_core.proofs.text.grammar_laws.lines_are_spelled.Goals as goal

pub returns-clause-only : goal.returns-clause-only
returns-clause-only c = line_only

pub returns-clause-all : goal.returns-clause-all
returns-clause-all c = spelled_decodes
