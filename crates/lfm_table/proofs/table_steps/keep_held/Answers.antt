use Rattle.std.proofs.Common.{◌∙◌, sym, None}
use Rattle.lfm_table.proofs.tables.StepFacts.{keeps_value}
use Rattle.lfm_table.proofs.table_steps.keep_held.Goals as goal

pub keep-requires-clause-stays : goal.keep-requires-clause-stays
keep-requires-clause-stays g c κs within n = keeps_value c.args.state.now c.args.seat.now.number n None c.requires.moves_nothing.2 c.requires.held ∙ sym c.requires.held
