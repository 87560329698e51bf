use Rattle.lfm_mutex.specs.Belongs.{OfMutex}
use Rattle.lfm_mutex.proofs.Lists.{all_by_place}
use Rattle.lfm_thread_tests.proofs.mutex.sleeping.a_thread_that_waits_sleeps.Goals as goal

pub reports-requires-after_bounds : goal.reports-requires-after_bounds
reports-requires-after_bounds g c κs = all_by_place (λ s. OfMutex s c.in_ok-mutex.mutex) c.in_ok-mutex.seats.items (λ j s at. (c.in_ok-mutex.ensures.seats.1 j s at).0)
