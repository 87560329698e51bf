use Rattle.lfm_table.specs.Rule.{value_in}
use Rattle.lfm_table.proofs.table_steps.store_grant.Given as goal

abbrev pub ghosts-operate : goal.ghosts-operate
ghosts-operate g a = record { state = a.state.now; hand = value_in a.seat.now.moving }
