use Rattle.lfm_pool.proofs.depth.read_owner.Given as goal

abbrev pub ghosts-load_owner : goal.ghosts-load_owner
ghosts-load_owner a = record { mutex = a._mutex }
