use Rattle.lfm_pool.specs.Seats.{state_of}
use Rattle.lfm_pool.proofs.fast_paths.enter_if_free.Given as goal

abbrev pub ghosts-first_step : goal.ghosts-first_step
ghosts-first_step a = record { depth = (state_of a.seat.now a.mutex).depth }
