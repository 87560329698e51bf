use Rattle.lfm_tests.proofs.running.seats.alone.Goals as goal

pub take_one-requires : goal.take_one-requires
take_one-requires c = λ j s at. (c.in_ok-mutex.ensures.seats.1 j s at).0
