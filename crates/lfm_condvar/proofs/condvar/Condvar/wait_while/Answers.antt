use Rattle.std.proofs.Common.{◌≡◌, zero, suc, true, Result, refl, ap, ◌∙◌}
use Rattle.std.specs.Fn.{FnReturnsAt}
use Rattle.lfm_model.specs.declared.refusals.Refusal.{Refusal}
use Rattle.lfm_mutex.specs.Belongs.{limits_of}
use Rattle.lfm_mutex.specs.calls.Sight.{Sight, sight}
use Rattle.lfm_condvar.specs.Belongs.{cond_limits, cond_sight, cond_tries}
use Rattle.lfm_mutex.specs.Conditions.{NeedNotWait, WouldWait}
use Rattle.lfm_condvar.specs.Repeated.{WaitWhileEnds}
use Rattle.lfm_mutex.proofs.ConditionEnds.{handed_on, if_true}
use Rattle.lfm_condvar.proofs.Repeating.{as_deep, may_again, stays}
use Rattle.lfm_mutex.proofs.runs.Woken.{polls_join, polls_none}
use Rattle.lfm_mutex.proofs.runs.RunGoesOn.{run_next, run_same}
use Rattle.lfm_condvar.proofs.condvar.Condvar.wait_while.Goals as goal

pub returns-in_err-_waited-clause-run : goal.returns-in_err-_waited-clause-run
returns-in_err-_waited-clause-run g c = run_next c.waits.invariant.run c.in_err-_waited.ensures.run

pub waits-init : goal.waits-init
waits-init g c = record { belongs = c.requires.belongs; beside = (refl, refl); run = run_same; woken = polls_none c.args.seat.now c.args.seat.now refl refl; cond_woken = polls_none c.args.cond.now.seat c.args.cond.now.seat refl refl; leaves = c.requires.leaves; depth = refl; waits = (zero, (refl, refl)) }

-- one more wait was needed
pub waits-preserved : goal.waits-preserved
waits-preserved g c = let i = c.waits.invariant in let e = c.in_ok-_waited.ensures in let user = limits_of c.args.mutex.now in let own = cond_limits c.args.self.now in let tries = cond_tries c.args.self.now in
    let c' = cond_sight c.waits.cond in let d = cond_sight c.wait.new.cond in let s = sight c.waits.seat in let t = sight c.wait.new.seat in
    let says = (λ (v : _) (b : _). FnReturnsAt g.F.Fn c.args.condition v b) in let must : c.must_wait.result ≡ true = cc in record {
      belongs = (e.belongs.0, (e.belongs.1.0 ∙ i.belongs.1.0, e.belongs.1.1 ∙ i.belongs.1.1));
      woken = polls_join c.args.seat.now c.waits.seat c.wait.new.seat i.woken e.woken;
      cond_woken = polls_join c.args.cond.now.seat c.waits.cond.seat c.wait.new.cond.seat i.cond_woken e.cond_woken;
      beside = (e.belongs.1.0 ∙ i.beside.0, e.belongs.1.1 ∙ i.beside.1);
      run = run_next i.run e.run;
      leaves = may_again g.T.Kept.follows g.T.Kept.fits user own tries c.in_ok-_waited._waited c' d s t c.requires.keeps e.waits;
      depth = as_deep g.T.Kept.follows g.T.Kept.fits user own tries c.in_ok-_waited._waited c' d s t e.waits ∙ i.depth;
      waits = (suc i.waits.0, (c', s, c.in_ok-_waited._waited, i.waits.1, if_true c.must_wait.result (WouldWait says s) (NeedNotWait says s) must c.must_wait.ensures, e.waits));
    }

pub returns-in_err-_waited-clause-depth : goal.returns-in_err-_waited-clause-depth
returns-in_err-_waited-clause-depth g c =
    ap (λ (u : Sight _). u.depth) (stays (limits_of c.args.mutex.now) (cond_limits c.args.self.now) (cond_tries c.args.self.now) _ (cond_sight c.waits.cond) (cond_sight c.wait.new.cond) (sight c.waits.seat) (sight c.wait.new.seat) c.in_err-_waited.ensures.waits) ∙ c.waits.invariant.depth

pub returns-in_err-_waited-clause-waits : goal.returns-in_err-_waited-clause-waits
returns-in_err-_waited-clause-waits g c = let i = c.waits.invariant in let e = c.in_err-_waited.ensures in let user = limits_of c.args.mutex.now in let own = cond_limits c.args.self.now in let tries = cond_tries c.args.self.now in let s = sight c.waits.seat in
    let says = (λ (v : _) (b : _). FnReturnsAt g.F.Fn c.args.condition v b) in let must : c.must_wait.result ≡ true = cc in
    handed_on (λ (q : Result _ Refusal). WaitWhileEnds g.T.Kept.follows g.T.Kept.fits user own tries says (cond_sight c.args.cond.now) (cond_sight c.wait.new.cond) (sight c.args.seat.now) (sight c.wait.new.seat) q) _ _ c.from_residual.ensures.1
    (i.waits.0, (cond_sight c.waits.cond), s, i.waits.1, if_true c.must_wait.result (WouldWait says s) (NeedNotWait says s) must c.must_wait.ensures, e.waits)

pub returns-in_err-_waited-clause-woken : goal.returns-in_err-_waited-clause-woken
returns-in_err-_waited-clause-woken g c = polls_join c.args.seat.now c.waits.seat c.wait.new.seat c.waits.invariant.woken c.in_err-_waited.ensures.woken

pub returns-in_err-_waited-clause-cond_woken : goal.returns-in_err-_waited-clause-cond_woken
returns-in_err-_waited-clause-cond_woken g c = polls_join c.args.cond.now.seat c.waits.cond.seat c.wait.new.cond.seat c.waits.invariant.cond_woken c.in_err-_waited.ensures.cond_woken
