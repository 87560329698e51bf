use Rattle.std.specs.Prelude.{[]}
use Rattle.lfm_pool.specs.Chain.{first_link}
use Rattle.lfm_pool.specs.Seats.{note_of, popped_of}
use Rattle.lfm_pool.specs.Tables.{part, with_part}
use Rattle.lfm_pool.proofs.chain.chain_store.Given as goal

abbrev pub ghosts-store_word : goal.ghosts-store_word
ghosts-store_word a = record {
  number = first_link (popped_of a.seat.now a.word.mutex);
  after = with_part a.seat.now.place.me.0 a.word.mutex (part a.seat.now.place.me.0 a.word.mutex) (record (note_of a.seat.now a.word.mutex) { due = 0 });
  within = [];
}
