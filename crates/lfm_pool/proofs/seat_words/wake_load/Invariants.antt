use Rattle.lfm_pool.specs.Seats.{state_of}
use Rattle.lfm_pool.proofs.seat_words.wake_load.Given as goal

abbrev pub ghosts-first_at : goal.ghosts-first_at
ghosts-first_at a = record { depth = (state_of a.seat.now a.mutex).depth }
