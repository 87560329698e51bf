use Rattle.lfm_mutex.specs.Belongs.{OfMutex}
use Rattle.lfm_mutex.proofs.Lists.{all_by_place, each_of_all}
use Rattle.lfm_thread_tests.proofs.mutex.workers.tried.Goals as goal

pub try_in_threads-requires-after_bounds : goal.try_in_threads-requires-after_bounds
try_in_threads-requires-after_bounds g c κs lives = all_by_place (λ s. OfMutex s c.in_ok-mutex.mutex) c.in_ok-mutex.seats.items (λ j s at. (c.in_ok-mutex.ensures.seats.1 j s at).0)

pub close-requires-clause-belongs : goal.close-requires-clause-belongs
close-requires-clause-belongs g c κs = each_of_all (λ w. OfMutex w.seat c.in_ok-mutex.mutex) c.in_ok-workers.workers.items c.in_ok-workers.ensures
