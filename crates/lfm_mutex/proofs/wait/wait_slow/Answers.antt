use Rattle.lfm_mutex.proofs.wait.wait_slow.Goals as goal

pub returns-in-Ended-Waiting-clause-waits : goal.returns-in-Ended-Waiting-clause-waits
returns-in-Ended-Waiting-clause-waits g c = rw (c.in-Ended-Waiting.is, c.in-Ended-Waiting.field-0-is) at c.begin_and_release-turn.ensures.turned

pub returns-in-Ended-Waiting-clause-steps : goal.returns-in-Ended-Waiting-clause-steps
returns-in-Ended-Waiting-clause-steps g c = rw (c.in-Ended-Waiting.is, c.in-Ended-Waiting.field-0-is) at c.begin_and_release-turn.ensures.made

pub returns-in-Ended-Waiting-clause-acts : goal.returns-in-Ended-Waiting-clause-acts
returns-in-Ended-Waiting-clause-acts g c = c.begin_and_release-turn.ensures.acts
