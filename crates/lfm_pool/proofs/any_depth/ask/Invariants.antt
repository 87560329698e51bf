use Rattle.lfm_pool.proofs.any_depth.ask.Given as goal

abbrev pub ghosts-ask_again : goal.ghosts-ask_again
ghosts-ask_again a = record { depth = a.depth }
