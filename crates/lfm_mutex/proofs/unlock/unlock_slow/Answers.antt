use Rattle.lfm_mutex.proofs.unlock.unlock_slow.Goals as goal

pub returns-in-Ended-Unlocked-clause-unlocks : goal.returns-in-Ended-Unlocked-clause-unlocks
returns-in-Ended-Unlocked-clause-unlocks g c = rw (c.in-Ended-Unlocked.is, c.in-Ended-Unlocked.field-0-is) at c.begin_and_release-turn.ensures.turned

pub returns-in-Ended-Unlocked-clause-steps : goal.returns-in-Ended-Unlocked-clause-steps
returns-in-Ended-Unlocked-clause-steps g c = rw (c.in-Ended-Unlocked.is, c.in-Ended-Unlocked.field-0-is) at c.begin_and_release-turn.ensures.made
