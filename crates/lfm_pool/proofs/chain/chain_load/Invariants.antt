use Rattle.lfm_pool.specs.Chain.{first_link}
use Rattle.lfm_pool.specs.Seats.{popped_of}
use Rattle.lfm_pool.proofs.chain.chain_load.Given as goal

abbrev pub ghosts-load_word : goal.ghosts-load_word
ghosts-load_word a = record {
  number = first_link (popped_of a.seat.now a.word.mutex);
  after = a.seat.now.place.me.0;
  within = popped_of a.seat.now a.word.mutex;
}
