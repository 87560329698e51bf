use Rattle.lfm_test_tools.proofs.two_seats.mutex_of_two.Goals as goal

pub two_seats-requires-after_bounds : goal.two_seats-requires-after_bounds
two_seats-requires-after_bounds g c κs within = λ j s at. (c.in-Ok.ensures.seats.1 j s at).0
