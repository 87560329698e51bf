use Rattle.std.specs.Prelude.{[]}
use Rattle.lfm_pool.specs.Seats.{note_of}
use Rattle.lfm_pool.specs.Tables.{part, with_part}
use Rattle.lfm_pool.proofs.chain.carried_store.Given as goal

abbrev pub ghosts-store_word : goal.ghosts-store_word
ghosts-store_word a = record {
  number = a.number;
  after = with_part a.seat.now.place.me.0 a.word.mutex (part a.seat.now.place.me.0 a.word.mutex) (record (note_of a.seat.now a.word.mutex) { carried = a.number });
  within = [];
}
