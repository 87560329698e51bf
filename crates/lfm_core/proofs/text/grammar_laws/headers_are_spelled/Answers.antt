use Rattle.lfm_core.proofs.texts.Decoding.{spelled_header_decodes}
use Rattle.lfm_core.proofs.texts.Spelled.{header_only}
use Rattle.lfm_core.proofs.text.grammar_laws.headers_are_spelled.Goals as goal

pub returns-clause-only : goal.returns-clause-only
returns-clause-only c = header_only

pub returns-clause-all : goal.returns-clause-all
returns-clause-all c = spelled_header_decodes
