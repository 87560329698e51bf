use Rattle.lfm_tests.proofs.running.seats.pair_with.Goals as goal

pub take_two-requires : goal.take_two-requires
take_two-requires c = λ j s at. (c.in_ok-mutex.ensures.seats.1 j s at).0
