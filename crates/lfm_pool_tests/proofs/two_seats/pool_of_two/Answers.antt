use Rattle.lfm_pool_tests.proofs.two_seats.pool_of_two.Goals as goal

pub two_seats-requires : goal.two_seats-requires
two_seats-requires c = λ j s at. (c.in-Ok.ensures.seats.1 j s at).1
