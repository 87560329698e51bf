use Rattle.std.proofs.Common.{arith, inl, refl, ap, ◌∙◌, ◌<◌, Some}
use Rattle.lfm_mutex.specs.Belongs.{limits_of}
use Rattle.lfm_mutex.specs.calls.Sight.{sight}
use Rattle.lfm_monitor.specs.Belongs.{mutex_limits, opening_of, passes_of, share_of, tries_in}
use Rattle.lfm_monitor.proofs.Trails.{locked_rewritten}
use Rattle.lfm_monitor.proofs.Asking.{again_began, enter_none, enter_refused, enter_steps}
use Rattle.lfm_monitor.proofs.Refusing.{same_began, same_kept}
use Rattle.lfm_monitor.proofs.Knowing.{gained, may_all, room_left, arrived, again, of_next}
use Rattle.lfm_mutex.specs.calls.WakeUps.{grants_of}
use Rattle.lfm_mutex.proofs.runs.Woken.{polls_join, polls_none, may_poll, woken_none}
use Rattle.lfm_mutex.proofs.runs.RunGoesOn.{run_next, run_same}
use Rattle.lfm_monitor.proofs.monitor.Monitor.enter_by.Goals as goal

pub returns-then-lacks_entry-clause-run : goal.returns-then-lacks_entry-clause-run
returns-then-lacks_entry-clause-run g c = run_same

pub returns-in_err-locked-clause-run : goal.returns-in_err-locked-clause-run
returns-in_err-locked-clause-run g c = c.lock_by.ensures.run

pub returns-in-Again-clause-run : goal.returns-in-Again-clause-run
returns-in-Again-clause-run g c = c.lock_by.ensures.run

pub returns-clause-run : goal.returns-clause-run
returns-clause-run g c = run_next c.lock_by.ensures.run c.write_took.ensures.8

pub write_took-requires-clause-may : goal.write_took-requires-clause-may
write_took-requires-clause-may g c κs within v is = let p = c.args.pass.now in let m = c.args.self.now in let gains = rw c.in-Held.is at c.in_ok-locked.ensures.locks in let s = sight p.seat in let t = sight c.lock_by.new.seat in
    let room : p.mine < m.share = room_left m.share p.mine (λ h. c.if-lacks_entry.ensures.1 (gains.0, gains.1, h)) in
    may_all c.in-Held.how s t p.seen p.mine (opening_of m) (passes_of m) (share_of m) t.number v gains.3 p.kept c.requires.belongs.1 room (gained c.in-Held.how (limits_of m.mutex).budget s t gains) is

pub invariant_of-pass-2 : goal.invariant_of-pass-2
invariant_of-pass-2 g c = let p = c.args.pass.now in let m = c.args.self.now in let gains = rw c.in-Held.is at c.in_ok-locked.ensures.locks in
    record {
      kept = (arrived c.in-Held.how (sight p.seat) c.lock_by.new.seat c.write_took.new.seat p.seen p.mine (opening_of m) (passes_of m) (share_of m) p.kept c.requires.belongs.1
          (gained c.in-Held.how (limits_of m.mutex).budget (sight p.seat) (sight c.lock_by.new.seat) gains) c.write_took.ensures).kept;
    }

pub returns-clause-belongs : goal.returns-clause-belongs
returns-clause-belongs g c = let p = c.args.pass.now in let m = c.args.self.now in let gains = rw c.in-Held.is at c.in_ok-locked.ensures.locks in let w = c.write_took.ensures in (
  of_next m.mutex c.lock_by.new.seat c.write_took.new.seat (of_next m.mutex p.seat c.lock_by.new.seat c.requires.belongs.0 c.lock_by.ensures.belongs) w.6,
  (arrived c.in-Held.how (sight p.seat) c.lock_by.new.seat c.write_took.new.seat p.seen p.mine (opening_of m) (passes_of m) (share_of m) p.kept c.requires.belongs.1
      (gained c.in-Held.how (limits_of m.mutex).budget (sight p.seat) (sight c.lock_by.new.seat) gains) w).still,
  c.requires.belongs.2,
)

pub returns-clause-enters : goal.returns-clause-enters
returns-clause-enters g c = let p = c.args.pass.now in let m = c.args.self.now in let gains = rw c.in-Held.is at c.in_ok-locked.ensures.locks in let w = c.write_took.ensures in (
  gains.0,
  ap (λ u. u.takes) w.3 ∙ gains.5,
  (arrived c.in-Held.how (sight p.seat) c.lock_by.new.seat c.write_took.new.seat p.seen p.mine (opening_of m) (passes_of m) (share_of m) p.kept c.requires.belongs.1
      (gained c.in-Held.how (limits_of m.mutex).budget (sight p.seat) (sight c.lock_by.new.seat) gains) w).comes,
)

pub invariant_of-pass-in-Again-1 : goal.invariant_of-pass-in-Again-1
invariant_of-pass-in-Again-1 g c = let p = c.args.pass.now in let locks = rw c.in-Again.is at c.in_ok-locked.ensures.locks in
    record { kept = again c.in-Again.depth (sight p.seat) (sight c.lock_by.new.seat) p.seen p.mine p.kept locks }

pub returns-clause-steps : goal.returns-clause-steps
returns-clause-steps g c = let w = c.write_took.ensures in
    locked_rewritten (mutex_limits c.args.self.now) c.args.locking (tries_in c.args.self.now) c.in-Held.how (sight c.args.pass.now.seat) (sight c.lock_by.new.seat) (sight c.write_took.new.seat) (Some w.1) w.3 (rw c.in-Held.is at c.in_ok-locked.ensures.steps)

pub invariant_of-pass : goal.invariant_of-pass
invariant_of-pass g c = let p = c.args.pass.now in record { kept = same_kept (sight p.seat) (sight c.lock_by.new.seat) p.seen p.mine c.in_err-locked.ensures.locks.1 p.kept }

pub returns-in_err-locked-clause-belongs : goal.returns-in_err-locked-clause-belongs
returns-in_err-locked-clause-belongs g c = let p = c.args.pass.now in let m = c.args.self.now in (
  of_next m.mutex p.seat c.lock_by.new.seat c.requires.belongs.0 c.lock_by.ensures.belongs,
  same_began (opening_of m) (passes_of m) (share_of m) (sight p.seat) (sight c.lock_by.new.seat) c.in_err-locked.ensures.locks.1 c.requires.belongs.1,
  c.requires.belongs.2,
)

pub returns-in_err-locked-clause-enters : goal.returns-in_err-locked-clause-enters
returns-in_err-locked-clause-enters g c = let p = c.args.pass.now in let m = c.args.self.now in
    enter_refused (limits_of m.mutex).budget (share_of m) p.mine _ _ (sight p.seat) (sight c.lock_by.new.seat) m.shared c.in_err-locked.ensures.locks c.from_residual.ensures.1

pub returns-in_err-locked-clause-seen : goal.returns-in_err-locked-clause-seen
returns-in_err-locked-clause-seen g c = refl

pub returns-in_err-locked-clause-conditions : goal.returns-in_err-locked-clause-conditions
returns-in_err-locked-clause-conditions g c = (refl, refl)

pub returns-in_err-locked-clause-steps : goal.returns-in_err-locked-clause-steps
returns-in_err-locked-clause-steps g c = let m = c.args.self.now in
    enter_steps (mutex_limits m) c.args.locking (tries_in m) (limits_of m.mutex).budget _ _ (sight c.args.pass.now.seat) (sight c.lock_by.new.seat) c.in_err-locked.ensures.locks c.from_residual.ensures.1

pub returns-in-Again-clause-belongs : goal.returns-in-Again-clause-belongs
returns-in-Again-clause-belongs g c = let p = c.args.pass.now in let m = c.args.self.now in let u = rw c.in-Again.is at c.in_ok-locked.ensures.locks in (
  of_next m.mutex p.seat c.lock_by.new.seat c.requires.belongs.0 c.lock_by.ensures.belongs,
  again_began (opening_of m) (passes_of m) (share_of m) c.in-Again.depth (sight p.seat) (sight c.lock_by.new.seat) u c.requires.belongs.1,
  c.requires.belongs.2,
)

pub returns-in-Again-clause-enters : goal.returns-in-Again-clause-enters
returns-in-Again-clause-enters g c = let u = rw c.in-Again.is at c.in_ok-locked.ensures.locks in (u, refl)

pub returns-in-Again-clause-seen : goal.returns-in-Again-clause-seen
returns-in-Again-clause-seen g c = refl

pub returns-in-Again-clause-conditions : goal.returns-in-Again-clause-conditions
returns-in-Again-clause-conditions g c = (refl, refl)

pub returns-in-Again-clause-steps : goal.returns-in-Again-clause-steps
returns-in-Again-clause-steps g c = rw c.in-Again.is at c.in_ok-locked.ensures.steps

pub returns-then-lacks_entry-clause-belongs : goal.returns-then-lacks_entry-clause-belongs
returns-then-lacks_entry-clause-belongs g c = c.requires.belongs

pub returns-then-lacks_entry-clause-enters : goal.returns-then-lacks_entry-clause-enters
returns-then-lacks_entry-clause-enters g c = let l = c.if-lacks_entry.ensures.0 refl in ((l.0, l.1, inl l.2), refl, refl)

pub returns-then-lacks_entry-clause-seen : goal.returns-then-lacks_entry-clause-seen
returns-then-lacks_entry-clause-seen g c = refl

pub returns-then-lacks_entry-clause-conditions : goal.returns-then-lacks_entry-clause-conditions
returns-then-lacks_entry-clause-conditions g c = (refl, refl)

pub returns-then-lacks_entry-clause-steps : goal.returns-then-lacks_entry-clause-steps
returns-then-lacks_entry-clause-steps g c = let m = c.args.self.now in let s = sight c.args.pass.now.seat in enter_none (mutex_limits m) c.args.locking (tries_in m) _ s s refl

pub returns-clause-seen : goal.returns-clause-seen
returns-clause-seen g c = refl

pub returns-clause-conditions : goal.returns-clause-conditions
returns-clause-conditions g c = (refl, refl)

pub overflow_add-pass : goal.overflow_add-pass
overflow_add-pass g c = let p = c.args.pass.now in let m = c.args.self.now in let gains = rw c.in-Held.is at c.in_ok-locked.ensures.locks in
    let room : p.mine < m.share = room_left m.share p.mine (λ h. c.if-lacks_entry.ensures.1 (gains.0, gains.1, h)) in omega arith

pub returns-then-lacks_entry-clause-woken : goal.returns-then-lacks_entry-clause-woken
returns-then-lacks_entry-clause-woken g c = polls_none c.args.pass.now.seat c.args.pass.now.seat refl refl

pub returns-in_err-locked-clause-woken : goal.returns-in_err-locked-clause-woken
returns-in_err-locked-clause-woken g c = c.lock_by.ensures.woken

pub returns-in-Again-clause-woken : goal.returns-in-Again-clause-woken
returns-in-Again-clause-woken g c = c.lock_by.ensures.woken

pub returns-clause-woken : goal.returns-clause-woken
returns-clause-woken g c = let p = c.args.pass.now in polls_join p.seat c.lock_by.new.seat c.write_took.new.seat c.lock_by.ensures.woken (may_poll c.lock_by.new.seat c.write_took.new.seat (woken_none c.lock_by.new.seat c.write_took.new.seat c.write_took.ensures.7 (ap (λ u. grants_of u.trail) c.write_took.ensures.3)))
