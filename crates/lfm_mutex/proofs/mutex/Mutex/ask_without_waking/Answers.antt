use Rattle.lfm_mutex.proofs.mutex.Mutex.ask_without_waking.Goals as goal

pub returns-then-seat-budget-clause-asks : goal.returns-then-seat-budget-clause-asks
returns-then-seat-budget-clause-asks g c = c.ask_without_hold-asked.ensures.made.turned

pub returns-then-seat-budget-clause-steps : goal.returns-then-seat-budget-clause-steps
returns-then-seat-budget-clause-steps g c = c.ask_without_hold-asked.ensures.made.made

pub returns-then-seat-budget-clause-bounded : goal.returns-then-seat-budget-clause-bounded
returns-then-seat-budget-clause-bounded g c = c.ask_without_hold-asked.ensures.bounded

pub returns-then-seat-budget-clause-wakes : goal.returns-then-seat-budget-clause-wakes
returns-then-seat-budget-clause-wakes g c = c.ask_without_hold-asked.ensures.acts.wakes
