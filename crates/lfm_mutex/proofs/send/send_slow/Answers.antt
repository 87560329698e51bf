use Rattle.std.proofs.Common.{◌≡◌, rules}
use Rattle.lfm_protocol.specs.declared.answers.Answer.{Answer}
use Rattle.lfm_protocol.specs.declared.answers.Turn.TheVariants.{Ended, Refused}
use Rattle.lfm_protocol.specs.declared.answers.Why.{Why}
use Rattle.lfm_mutex.proofs.send.send_slow.Goals as goal

pub returns-in-Ended-Sent-clause-sends : goal.returns-in-Ended-Sent-clause-sends
returns-in-Ended-Sent-clause-sends g c = let e : c.begin_and_finish-turn.result.0 ≡ Ended Answer.Sent = search rules in rw (e, c.get.ensures.value) at c.begin_and_finish-turn.ensures.turned

pub returns-in-Ended-Sent-clause-steps : goal.returns-in-Ended-Sent-clause-steps
returns-in-Ended-Sent-clause-steps g c = let e : c.begin_and_finish-turn.result.0 ≡ Ended Answer.Sent = search rules in rw (e, c.get.ensures.value) at c.begin_and_finish-turn.ensures.made

pub returns-in-Ended-Sent-clause-bounded : goal.returns-in-Ended-Sent-clause-bounded
returns-in-Ended-Sent-clause-bounded g c = c.begin_and_finish-turn.ensures.bounded

pub returns-in-Ended-Sent-clause-acts : goal.returns-in-Ended-Sent-clause-acts
returns-in-Ended-Sent-clause-acts g c = c.begin_and_finish-turn.ensures.acts

pub returns-in-Refused-By-clause-sends : goal.returns-in-Refused-By-clause-sends
returns-in-Refused-By-clause-sends g c = let e : c.begin_and_finish-turn.result.0 ≡ Refused (Why.By c.in-Refused-By.refusal) = search rules in rw (e, c.get.ensures.value) at c.begin_and_finish-turn.ensures.turned

pub returns-in-Refused-By-clause-steps : goal.returns-in-Refused-By-clause-steps
returns-in-Refused-By-clause-steps g c = let e : c.begin_and_finish-turn.result.0 ≡ Refused (Why.By c.in-Refused-By.refusal) = search rules in rw (e, c.get.ensures.value) at c.begin_and_finish-turn.ensures.made

pub returns-in-Refused : goal.returns-in-Refused
returns-in-Refused g c = search rules
