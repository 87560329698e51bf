use Rattle.lfm_table.specs.Rule.{value_in}
use Rattle.lfm_mutex.proofs.steps.kinds.make_of.Given as goal

abbrev pub ghosts-make_step : goal.ghosts-make_step
ghosts-make_step g a = record { state = a.state.now; hand = value_in a.seat.now.moving }
