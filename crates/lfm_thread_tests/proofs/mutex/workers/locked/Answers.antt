use Rattle.lfm_mutex.specs.Belongs.{OfMutex}
use Rattle.lfm_mutex.proofs.Lists.{each_of_all}
use Rattle.lfm_thread_tests.proofs.mutex.workers.locked.Goals as goal

pub close-requires-clause-belongs : goal.close-requires-clause-belongs
close-requires-clause-belongs g c κs = each_of_all (λ w. OfMutex w.seat c.in_ok-mutex.mutex) c.in_ok-workers.workers.items c.in_ok-workers.ensures
