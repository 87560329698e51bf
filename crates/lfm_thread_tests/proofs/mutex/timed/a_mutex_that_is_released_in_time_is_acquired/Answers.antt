use Rattle.lfm_mutex.specs.Belongs.{OfMutex}
use Rattle.lfm_mutex.proofs.Lists.{all_by_place}
use Rattle.lfm_thread_tests.proofs.mutex.timed.a_mutex_that_is_released_in_time_is_acquired.Goals as goal

pub answers-requires-after_bounds : goal.answers-requires-after_bounds
answers-requires-after_bounds g c κs = all_by_place (λ s. OfMutex s c.in_ok-mutex.mutex) c.in_ok-mutex.seats.items (λ j s at. (c.in_ok-mutex.ensures.seats.1 j s at).0)
