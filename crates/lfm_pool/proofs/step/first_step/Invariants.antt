use Rattle.lfm_pool.proofs.step.first_step.Given as goal

abbrev pub ghosts-first_at : goal.ghosts-first_at
ghosts-first_at g a = record { depth = g.C.OneCall.depth }
