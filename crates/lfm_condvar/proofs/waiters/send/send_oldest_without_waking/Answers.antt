use Rattle.std.proofs.Common.{rules, ◌≡◌, ℕ, [], ◌∷◌, Option, Ok, Err, refl}
use Rattle.lfm_mutex.specs.Belongs.{limits_of}
use Rattle.lfm_mutex.specs.calls.Sight.{sight}
use Rattle.lfm_condvar.proofs.Followed.{follows_none}
use Rattle.lfm_condvar.proofs.Sent.{refused_by}
use Rattle.lfm_mutex.proofs.runs.RunGoesOn.{run_same}
use Rattle.lfm_condvar.proofs.waiters.send.send_oldest_without_waking.Goals as goal

pub returns-then-asleep-clause-run : goal.returns-then-asleep-clause-run
returns-then-asleep-clause-run g c = run_same

pub returns-in_default-clause-run : goal.returns-in_default-clause-run
returns-in_default-clause-run g c = run_same

pub returns-in-Ok-clause-steps : goal.returns-in-Ok-clause-steps
returns-in-Ok-clause-steps g c = let o = c.send_lock_without_waking-sent in let t = sight o.new.seat in let is : o.result.0 ≡ Ok tt = search rules in ((c.in-Some.oldest.seat, t) ∷ [], (rw is at o.ensures.sends, rw is at o.ensures.steps, refl))

pub returns-in-Err-clause-steps : goal.returns-in-Err-clause-steps
returns-in-Err-clause-steps g c = let o = c.send_lock_without_waking-sent in let is : o.result.0 ≡ Err c.in-Err.refusal = search rules in
    refused_by (Option (ℕ × ℕ)) (limits_of c.args.mutex.now) c.in-Some.oldest.seat (sight c.args.seat.now) (sight o.new.seat) c.in-Err.refusal (rw is at o.ensures.sends) (rw is at o.ensures.steps)

pub returns-in_default-clause-sends : goal.returns-in_default-clause-sends
returns-in_default-clause-sends g c = search rules

pub returns-in-Ok-clause-sends : goal.returns-in-Ok-clause-sends
returns-in-Ok-clause-sends g c = search rules

pub returns-in-Ok-clause-follows : goal.returns-in-Ok-clause-follows
returns-in-Ok-clause-follows g c = search rules

pub returns-in-Err-clause-sends : goal.returns-in-Err-clause-sends
returns-in-Err-clause-sends g c = search rules

pub returns-then-asleep-clause-follows : goal.returns-then-asleep-clause-follows
returns-then-asleep-clause-follows g c s = follows_none s _

pub returns-in-Err-clause-follows : goal.returns-in-Err-clause-follows
returns-in-Err-clause-follows g c s = follows_none s _
