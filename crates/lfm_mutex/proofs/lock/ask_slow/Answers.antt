use Rattle.std.proofs.Common.{◌≡◌, rules}
use Rattle.lfm_protocol.specs.declared.answers.Answer.{Answer}
use Rattle.lfm_protocol.specs.declared.answers.Turn.TheVariants.{Ended}
use Rattle.lfm_mutex.proofs.lock.ask_slow.Goals as goal

pub returns-in-Ended-Asked-clause-asks : goal.returns-in-Ended-Asked-clause-asks
returns-in-Ended-Asked-clause-asks g c = let e : c.begin_and_finish-turn.result.0 ≡ Ended (Answer.Asked c.in-Ended-Asked.asked) = search rules in rw e at c.begin_and_finish-turn.ensures.turned

pub returns-in-Ended-Asked-clause-steps : goal.returns-in-Ended-Asked-clause-steps
returns-in-Ended-Asked-clause-steps g c = let e : c.begin_and_finish-turn.result.0 ≡ Ended (Answer.Asked c.in-Ended-Asked.asked) = search rules in rw e at c.begin_and_finish-turn.ensures.made
