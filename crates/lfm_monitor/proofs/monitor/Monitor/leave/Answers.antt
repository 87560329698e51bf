use Rattle.std.proofs.Common.{refl}
use Rattle.lfm_mutex.specs.calls.Sight.{sight}
use Rattle.lfm_monitor.specs.Belongs.{mutex_limits, opening_of, passes_of, share_of}
use Rattle.lfm_monitor.proofs.Holding.{leaves_one}
use Rattle.lfm_monitor.proofs.Knowing.{may_leave, given_up, gave_up, leave_ends, left_it, left_of, still, of_next}
use Rattle.lfm_monitor.proofs.Refusing.{leave_refused, refused_steps, same_began, same_kept, still_began}
use Rattle.lfm_monitor.proofs.monitor.Monitor.leave.Goals as goal

pub returns-in_err-unlocked-clause-run : goal.returns-in_err-unlocked-clause-run
returns-in_err-unlocked-clause-run g c = c.unlock.ensures.run

pub returns-in-Still-clause-run : goal.returns-in-Still-clause-run
returns-in-Still-clause-run g c = c.unlock.ensures.run

pub unlock-requires-clause-leaves : goal.unlock-requires-clause-leaves
unlock-requires-clause-leaves g c κs within = let p = c.args.pass.now in λ one. may_leave (sight p.seat) p.seen p.mine p.kept

pub invariant_of-pass-in-Still-1 : goal.invariant_of-pass-in-Still-1
invariant_of-pass-in-Still-1 g c = let p = c.args.pass.now in let u = rw c.in-Still.is at c.in_ok-unlocked.ensures.unlocks in
    record { kept = still c.in-Still.depth (sight p.seat) (sight c.unlock.new.seat) p.seen p.mine p.kept u.0 u.1 u.2 u.3 }

pub invariant_of-pass-2 : goal.invariant_of-pass-2
invariant_of-pass-2 g c = let p = c.args.pass.now in let s = sight p.seat in let t = sight c.unlock.new.seat in
    let u = gave_up c.in_ok-unlocked.unlocked s t (given_up c.in_ok-unlocked.unlocked c.in-Free.is) c.in_ok-unlocked.ensures.unlocks in
    record { kept = left_it s t p.seen p.mine c.journal_len-length.result p.kept u.0 (λ z. absurd (let a = u.2 in cc)) c.journal_len-length.ensures }

pub returns : goal.returns
returns g c = let p = c.args.pass.now in let m = c.args.self.now in let s = sight p.seat in let t = sight c.unlock.new.seat in
    let left = given_up c.in_ok-unlocked.unlocked c.in-Free.is in let u = gave_up c.in_ok-unlocked.unlocked s t left c.in_ok-unlocked.ensures.unlocks in
    let ends = leave_ends c.in_ok-unlocked.unlocked s t p.seen p.mine c.journal_len-length.result left p.kept c.in_ok-unlocked.ensures.unlocks c.journal_len-length.ensures in record {
      belongs = (of_next m.mutex p.seat c.unlock.new.seat c.requires.belongs.0 c.unlock.ensures.belongs, left_of (opening_of m) (passes_of m) (share_of m) s t p.seen p.mine p.kept c.requires.belongs.1 u.0, c.requires.belongs.2);
      number = (leaves_one c.in_ok-unlocked.unlocked s t p.seen c.journal_len-length.result ends).number;
      leaves = ends;
      run = c.unlock.ensures.run;
      woken = c.unlock.ensures.woken;
      mine = refl;
      conditions = (refl, refl);
      steps = c.in_ok-unlocked.ensures.steps;
      bounded = c.in_ok-unlocked.ensures.bounded;
    }

pub invariant_of-pass : goal.invariant_of-pass
invariant_of-pass g c = let p = c.args.pass.now in
    record { kept = same_kept (sight p.seat) (sight c.unlock.new.seat) p.seen p.mine c.in_err-unlocked.ensures.unlocks.1 p.kept }

pub returns-in_err-unlocked-clause-belongs : goal.returns-in_err-unlocked-clause-belongs
returns-in_err-unlocked-clause-belongs g c = let p = c.args.pass.now in let m = c.args.self.now in (
  of_next m.mutex p.seat c.unlock.new.seat c.requires.belongs.0 c.unlock.ensures.belongs,
  same_began (opening_of m) (passes_of m) (share_of m) (sight p.seat) (sight c.unlock.new.seat) c.in_err-unlocked.ensures.unlocks.1 c.requires.belongs.1,
  c.requires.belongs.2,
)

pub returns-in_err-unlocked-clause-leaves : goal.returns-in_err-unlocked-clause-leaves
returns-in_err-unlocked-clause-leaves g c = let p = c.args.pass.now in
    leave_refused _ _ (sight p.seat) (sight c.unlock.new.seat) p.seen c.in_err-unlocked.ensures.unlocks c.from_residual.ensures.1

pub returns-in_err-unlocked-clause-mine : goal.returns-in_err-unlocked-clause-mine
returns-in_err-unlocked-clause-mine g c = refl

pub returns-in_err-unlocked-clause-conditions : goal.returns-in_err-unlocked-clause-conditions
returns-in_err-unlocked-clause-conditions g c = (refl, refl)

pub returns-in_err-unlocked-clause-steps : goal.returns-in_err-unlocked-clause-steps
returns-in_err-unlocked-clause-steps g c =
    refused_steps (mutex_limits c.args.self.now) _ _ (sight c.args.pass.now.seat) (sight c.unlock.new.seat) c.in_err-unlocked.ensures.unlocks c.from_residual.ensures.1

pub returns-in_err-unlocked-clause-bounded : goal.returns-in_err-unlocked-clause-bounded
returns-in_err-unlocked-clause-bounded g c = c.in_err-unlocked.ensures.bounded

pub returns-in-Still-clause-belongs : goal.returns-in-Still-clause-belongs
returns-in-Still-clause-belongs g c = let p = c.args.pass.now in let m = c.args.self.now in let u = rw c.in-Still.is at c.in_ok-unlocked.ensures.unlocks in (
  of_next m.mutex p.seat c.unlock.new.seat c.requires.belongs.0 c.unlock.ensures.belongs,
  still_began (opening_of m) (passes_of m) (share_of m) c.in-Still.depth (sight p.seat) (sight c.unlock.new.seat) u.3 c.requires.belongs.1,
  c.requires.belongs.2,
)

pub returns-in-Still-clause-leaves : goal.returns-in-Still-clause-leaves
returns-in-Still-clause-leaves g c = let u = rw c.in-Still.is at c.in_ok-unlocked.ensures.unlocks in (u.0, u.1, u.2, u.3, refl)

pub returns-in-Still-clause-mine : goal.returns-in-Still-clause-mine
returns-in-Still-clause-mine g c = refl

pub returns-in-Still-clause-conditions : goal.returns-in-Still-clause-conditions
returns-in-Still-clause-conditions g c = (refl, refl)

pub returns-in-Still-clause-steps : goal.returns-in-Still-clause-steps
returns-in-Still-clause-steps g c = rw c.in-Still.is at c.in_ok-unlocked.ensures.steps

pub returns-in-Still-clause-bounded : goal.returns-in-Still-clause-bounded
returns-in-Still-clause-bounded g c = c.in_ok-unlocked.ensures.bounded

pub returns-in_err-unlocked-clause-woken : goal.returns-in_err-unlocked-clause-woken
returns-in_err-unlocked-clause-woken g c = c.unlock.ensures.woken

pub returns-in-Still-clause-woken : goal.returns-in-Still-clause-woken
returns-in-Still-clause-woken g c = c.unlock.ensures.woken
