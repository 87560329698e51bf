use Rattle.lfm_pool.proofs.moves.start_at.Given as goal

abbrev pub ghosts-first_step : goal.ghosts-first_step
ghosts-first_step g a = record { depth = g.C.OneCall.depth }
