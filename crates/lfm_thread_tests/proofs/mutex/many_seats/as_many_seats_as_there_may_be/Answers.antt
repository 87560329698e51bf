use Rattle.lfm_mutex.specs.Belongs.{OfMutex}
use Rattle.lfm_mutex.proofs.Lists.{all_by_place, each_of_all}
use Rattle.lfm_thread_tests.proofs.mutex.many_seats.as_many_seats_as_there_may_be.Goals as goal

pub hand_over-answers-requires-clause-belong : goal.hand_over-answers-requires-clause-belong
hand_over-answers-requires-clause-belong g c = all_by_place (λ s. OfMutex s c.in_ok-mutex.mutex) c.in_ok-mutex.seats.items (λ j s at. (c.in_ok-mutex.ensures.seats.1 j s at).0)

pub close-requires-clause-belongs : goal.close-requires-clause-belongs
close-requires-clause-belongs g c κs = each_of_all (λ s. OfMutex s c.in_ok-mutex.mutex) c.hand_over-answers.new.seats.items c.hand_over-answers.ensures
