use Rattle.lfm_pool.proofs.fast_paths.leave.Given as goal

abbrev pub ghosts-first_step : goal.ghosts-first_step
ghosts-first_step a = record { depth = 1 }
