use Rattle.lfm_pool.specs.Seats.{note_of, popped_of}
use Rattle.lfm_pool.proofs.chain.carried_load.Given as goal

abbrev pub ghosts-load_word : goal.ghosts-load_word
ghosts-load_word a = record {
  number = (note_of a.seat.now a.word.mutex).carried;
  after = a.seat.now.place.me.0;
  within = popped_of a.seat.now a.word.mutex;
}
