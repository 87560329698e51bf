use Rattle.lfm_text.proofs.Numbers.{only, every}
use Rattle.lfm_text.proofs.text_laws.numbers_are_decimals.Goals as goal

pub returns-clause-only : goal.returns-clause-only
returns-clause-only c = only

pub returns-clause-all : goal.returns-clause-all
returns-clause-all c = every
