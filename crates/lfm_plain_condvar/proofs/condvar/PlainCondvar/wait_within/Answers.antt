use Rattle.std.proofs.Common.{Result, ◌+◌, ◌≤◌, refl, sym, ap, subst, arith}
use Rattle.lfm_model.specs.declared.refusals.Refusal.{Refusal}
use Rattle.lfm_protocol.specs.declared.limits.Limits.{Limits}
use Rattle.lfm_mutex.specs.Belongs.{limits_of, tries_of}
use Rattle.lfm_mutex.specs.calls.Sight.{sight}
use Rattle.lfm_mutex.proofs.runs.RunGoesOn.{run_next}
use Rattle.lfm_mutex.proofs.ConditionEnds.{handed_on}
use Rattle.lfm_plain_condvar.specs.declared.hold.append.ListedWait.{ListedWait}
use Rattle.lfm_plain_condvar.specs.Waits.{Refuses, SleepEnds, WaitWithinEnds}
use Rattle.lfm_plain_condvar.proofs.condvar.PlainCondvar.wait_within.Goals as goal

pub give_up-requires-clause-leaves : goal.give_up-requires-clause-leaves
give_up-requires-clause-leaves g c κs within = c.requires.leaves c.in_default.ensures.1

pub returns-clause-run : goal.returns-clause-run
returns-clause-run g c = run_next c.give_up.ensures.run c.come_back-how.ensures.run

pub returns-clause-waits : goal.returns-clause-waits
returns-clause-waits g c = let a = c.args in let v = a.self.now.inner in let u = c.give_up.ensures in
    let two : (sight a.cond.now.seat).takes + 2 ≤ (limits_of v).budget = (let test = c.if-left-lt2.false in let left = c.left.ensures in let same = ap (λ (l : Limits). l.budget) c.requires.belongs.0.0.0.1 in omega arith) in
    let ends = subst (λ (l : ListedWait _). SleepEnds (limits_of v) (tries_of v) (sight c.enlist.new.cond.seat) (sight c.sleep_or_leave-waited.new.cond.seat) l.enlisted.ticket c.sleep_or_leave-waited.result.0) c.until-wait.ensures.listed c.sleep_or_leave-waited.ensures.ends in
    (c.in_ok-enlisted.enlisted.enlisted.ticket, sight c.enlist.new.cond.seat, c.in_ok-enlisted.ensures.enlists.1, ends, (sight c.give_up.new.seat, (u.leaves, u.keeps.0, u.steps), c.come_back-how.ensures.back), two)

-- the list refused the seat
pub returns-in_err-enlisted-clause-waits : goal.returns-in_err-enlisted-clause-waits
returns-in_err-enlisted-clause-waits g c = let a = c.args in let v = a.self.now.inner in let e = c.in_err-enlisted.ensures.enlists in let d = sight c.enlist.new.cond.seat in let s = sight a.seat.now in
    handed_on (λ (q : Result _ Refusal). WaitWithinEnds g.T.Kept.follows g.T.Kept.fits (limits_of a.mutex.now) (limits_of v) (tries_of v) (tries_of a.mutex.now) (sight a.cond.now.seat) d s s q) _ _ c.from_residual.ensures.1
    (subst (λ (r : Refusal). Refuses g.T.Kept.follows g.T.Kept.fits (limits_of a.mutex.now) (limits_of v) 2 (tries_of v) (sight a.cond.now.seat) d s s r) (sym e.0) (e.2, refl))
