use Rattle.std.proofs.Common.{Result, ℕ, refl, sym, ◌∙◌, ap, subst}
use Rattle.lfm_model.specs.declared.refusals.Refusal.{Refusal}
use Rattle.lfm_mutex.specs.declared.seat.Seat.{Seat}
use Rattle.lfm_mutex.specs.Belongs.{limits_of, tries_of}
use Rattle.lfm_mutex.specs.calls.Sight.{sight}
use Rattle.lfm_mutex.proofs.runs.RunGoesOn.{run_next}
use Rattle.lfm_plain_condvar.specs.declared.hold.append.ListedWait.{ListedWait}
use Rattle.lfm_plain_condvar.specs.declared.waiters.Waiters.{Waiters}
use Rattle.lfm_plain_condvar.specs.Waits.{Listed, Refuses, WaitWithHowEnds}
use Rattle.lfm_mutex.proofs.ConditionEnds.{handed_on}
use Rattle.lfm_plain_condvar.proofs.condvar.PlainCondvar.wait_with_how.Goals as goal

pub give_up-requires-clause-leaves : goal.give_up-requires-clause-leaves
give_up-requires-clause-leaves g c κs within = c.requires.leaves c.in_default.ensures.1

pub sleep-woken-requires-clause-own : goal.sleep-woken-requires-clause-own
sleep-woken-requires-clause-own g c κs within = ap (λ (l : ListedWait _). l.number) c.new.ensures.listed ∙ c.in_ok-enlisted.ensures.enlists.0

pub returns-clause-run : goal.returns-clause-run
returns-clause-run g c = run_next c.give_up.ensures.run c.come_back-how.ensures.run

pub returns-clause-waits : goal.returns-clause-waits
returns-clause-waits g c = let v = c.args.self.now.inner in let u = c.give_up.ensures in (
  subst (λ (q : Seat Waiters). Listed (limits_of v) (tries_of v) (sight c.args.cond.now.seat) (sight q) c.ticket-ticket.result) (sym c.sleep-woken.ensures.same)
      (subst (λ (i : ℕ). Listed (limits_of v) (tries_of v) (sight c.args.cond.now.seat) (sight c.enlist.new.cond.seat) i) (sym c.ticket-ticket.ensures) c.in_ok-enlisted.ensures.enlists.1),
  (sight c.give_up.new.seat, (u.leaves, u.keeps.0, u.steps), c.come_back-how.ensures.back),
)

-- the list refused the seat
pub returns-in_err-enlisted-clause-waits : goal.returns-in_err-enlisted-clause-waits
returns-in_err-enlisted-clause-waits g c = let a = c.args in let v = a.self.now.inner in let e = c.in_err-enlisted.ensures.enlists in let d = sight c.enlist.new.cond.seat in let s = sight a.seat.now in
    handed_on (λ (q : Result _ Refusal). WaitWithHowEnds g.T.Kept.follows g.T.Kept.fits (limits_of a.mutex.now) (limits_of v) (tries_of v) (tries_of a.mutex.now) (sight a.cond.now.seat) d s s q) _ _ c.from_residual.ensures.1
    (subst (λ (r : Refusal). Refuses g.T.Kept.follows g.T.Kept.fits (limits_of a.mutex.now) (limits_of v) 1 (tries_of v) (sight a.cond.now.seat) d s s r) (sym e.0) (e.2, refl))
