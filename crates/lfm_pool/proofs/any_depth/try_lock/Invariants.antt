use Rattle.lfm_pool.proofs.any_depth.try_lock.Given as goal

abbrev pub ghosts-try_again : goal.ghosts-try_again
ghosts-try_again a = record { depth = a.depth }
