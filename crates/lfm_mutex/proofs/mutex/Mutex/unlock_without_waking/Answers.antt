use Rattle.lfm_mutex.proofs.mutex.Mutex.unlock_without_waking.Goals as goal

pub unlock_last_hold-unlocked-requires-clause-leaves : goal.unlock_last_hold-unlocked-requires-clause-leaves
unlock_last_hold-unlocked-requires-clause-leaves g c κs within = c.requires.leaves c.if-seat-eq1.true

pub returns-then-seat-eq1-clause-wakes : goal.returns-then-seat-eq1-clause-wakes
returns-then-seat-eq1-clause-wakes g c = c.unlock_last_hold-unlocked.ensures.acts.wakes
