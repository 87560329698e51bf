use Rattle.lfm_pool.proofs.admission.has_stamp.Given as goal

abbrev pub ghosts-load_push_word : goal.ghosts-load_push_word
ghosts-load_push_word a = record { mutex = a._mutex }
