use Rattle.lfm_mutex.proofs.mutex.Mutex.start_wait_without_waking.Goals as goal

pub wait_last_hold-released-requires-clause-leaves : goal.wait_last_hold-released-requires-clause-leaves
wait_last_hold-released-requires-clause-leaves g c κs within = c.requires.leaves c.if-seat-eq1.true

pub returns-then-seat-budget-clause-waits : goal.returns-then-seat-budget-clause-waits
returns-then-seat-budget-clause-waits g c = c.wait_last_hold-released.ensures.made.turned

pub returns-then-seat-budget-clause-steps : goal.returns-then-seat-budget-clause-steps
returns-then-seat-budget-clause-steps g c = c.wait_last_hold-released.ensures.made.made

pub returns-then-seat-budget-clause-bounded : goal.returns-then-seat-budget-clause-bounded
returns-then-seat-budget-clause-bounded g c = c.wait_last_hold-released.ensures.bounded

pub returns-then-seat-budget-clause-wakes : goal.returns-then-seat-budget-clause-wakes
returns-then-seat-budget-clause-wakes g c = c.wait_last_hold-released.ensures.acts.wakes
