use Rattle.std.proofs.Common.{◌≡◌, rules, Ok, Err, refl}
use Rattle.lfm_model.specs.declared.refusals.Refusal.{Refusal}
use Rattle.lfm_protocol.specs.declared.answers.Answer.{Answer}
use Rattle.lfm_protocol.specs.declared.answers.Turn.TheVariants.{Ended, Refused}
use Rattle.lfm_mutex.specs.calls.Sight.{sight}
use Rattle.lfm_mutex.proofs.runs.ShortCalls.{receives_few}
use Rattle.lfm_mutex.proofs.runs.Woken.{try_receive_grants, woken_none}
use Rattle.lfm_mutex.proofs.mutex.Mutex.try_receive.Goals as goal

pub returns-in-Ended-Got-clause-bounded : goal.returns-in-Ended-Got-clause-bounded
returns-in-Ended-Got-clause-bounded g c = let r = c.in-Ended-Got in
    receives_few g.T.Kept.follows g.T.Kept.fits c.args.self.now.limits (sight c.args.seat.now) (sight c.begin_and_finish-turn.new.seat) (Ok r.got) (search rules) (search rules)

pub returns-then-seat-eq0-clause-bounded : goal.returns-then-seat-eq0-clause-bounded
returns-then-seat-eq0-clause-bounded g c = let r = c.receive_asleep in
    receives_few g.T.Kept.follows g.T.Kept.fits c.args.self.now.limits (sight c.args.seat.now) (sight r.new.seat) (Ok r.result) r.ensures.made.turned r.ensures.made.made

pub expect_none-requires : goal.expect_none-requires
expect_none-requires g c = c.begin_and_finish-turn.ensures.none refl

pub returns-in-Ended-Got-clause-receives : goal.returns-in-Ended-Got-clause-receives
returns-in-Ended-Got-clause-receives g c = let e : c.begin_and_finish-turn.result.0 ≡ Ended (Answer.Got c.in-Ended-Got.got) = search rules in rw e at c.begin_and_finish-turn.ensures.turned

pub returns-in-Ended-Got-clause-steps : goal.returns-in-Ended-Got-clause-steps
returns-in-Ended-Got-clause-steps g c = let e : c.begin_and_finish-turn.result.0 ≡ Ended (Answer.Got c.in-Ended-Got.got) = search rules in rw e at c.begin_and_finish-turn.ensures.made

pub returns-then-seat-eq0-clause-woken : goal.returns-then-seat-eq0-clause-woken
returns-then-seat-eq0-clause-woken g c = let r = c.receive_asleep in woken_none c.args.seat.now r.new.seat r.ensures.acts.woken (try_receive_grants c.args.self.now.limits (sight c.args.seat.now) (sight r.new.seat) (Ok r.result) r.ensures.made.made)

pub returns-in-Ended-Got-clause-woken : goal.returns-in-Ended-Got-clause-woken
returns-in-Ended-Got-clause-woken g c = let r = c.begin_and_finish-turn in woken_none c.args.seat.now r.new.seat r.ensures.acts.woken (try_receive_grants c.args.self.now.limits (sight c.args.seat.now) (sight r.new.seat) (Ok c.in-Ended-Got.got) (returns-in-Ended-Got-clause-steps g c))

pub returns-in-Refused-clause-woken : goal.returns-in-Refused-clause-woken
returns-in-Refused-clause-woken g c = let r = c.begin_and_finish-turn in let e : r.result.0 ≡ Refused c.in-Refused.field-0 = search rules in
    woken_none c.args.seat.now r.new.seat r.ensures.acts.woken (try_receive_grants c.args.self.now.limits (sight c.args.seat.now) (sight r.new.seat) (Err Refusal.NotWaiting) (rw e at r.ensures.made))
