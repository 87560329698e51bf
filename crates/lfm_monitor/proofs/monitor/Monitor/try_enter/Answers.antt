use Rattle.std.proofs.Common.{arith, inl, refl, ap, ◌∙◌, ◌<◌, Some, length}
use Rattle.lfm_mutex.specs.Belongs.{limits_of}
use Rattle.lfm_protocol.specs.declared.answers.Call.{Call}
use Rattle.lfm_mutex.specs.calls.Sight.{sight}
use Rattle.lfm_monitor.specs.Belongs.{mutex_limits, opening_of, passes_of, share_of}
use Rattle.lfm_monitor.proofs.Asking.{again_began, last_began, try_enter_refused, try_enter_steps}
use Rattle.lfm_monitor.proofs.Trails.{rewritten}
use Rattle.lfm_monitor.proofs.Knowing.{gained, may_all, room_left, arrived, again, looked, of_next, try_refused}
use Rattle.lfm_mutex.specs.calls.WakeUps.{grants_of}
use Rattle.lfm_mutex.proofs.runs.Woken.{woken_join, woken_none}
use Rattle.lfm_mutex.proofs.runs.RunGoesOn.{run_next, run_same}
use Rattle.lfm_monitor.proofs.monitor.Monitor.try_enter.Goals as goal

pub returns-then-lacks_entry-clause-run : goal.returns-then-lacks_entry-clause-run
returns-then-lacks_entry-clause-run g c = run_same

pub returns-in_err-locked-clause-run : goal.returns-in_err-locked-clause-run
returns-in_err-locked-clause-run g c = c.try_lock.ensures.run

pub returns-in-Again-clause-run : goal.returns-in-Again-clause-run
returns-in-Again-clause-run g c = c.try_lock.ensures.run

pub returns-clause-run : goal.returns-clause-run
returns-clause-run g c = run_next c.try_lock.ensures.run c.write_took.ensures.8

pub write_took-requires-clause-may : goal.write_took-requires-clause-may
write_took-requires-clause-may g c κs within v is = let p = c.args.pass.now in let m = c.args.self.now in let gains = rw c.in-Held.is at c.in_ok-locked.ensures.locks in let s = sight p.seat in let t = sight c.try_lock.new.seat in
    let room : p.mine < m.share = room_left m.share p.mine (λ h. c.if-lacks_entry.ensures.1 (gains.0, gains.1, h)) in
    may_all c.in-Held.how s t p.seen p.mine (opening_of m) (passes_of m) (share_of m) t.number v gains.3 p.kept c.requires.belongs.1 room (gained c.in-Held.how (limits_of m.mutex).budget s t gains) is

pub invariant_of-pass-2 : goal.invariant_of-pass-2
invariant_of-pass-2 g c = let p = c.args.pass.now in let m = c.args.self.now in let gains = rw c.in-Held.is at c.in_ok-locked.ensures.locks in
    record {
      kept = (arrived c.in-Held.how (sight p.seat) c.try_lock.new.seat c.write_took.new.seat p.seen p.mine (opening_of m) (passes_of m) (share_of m) p.kept c.requires.belongs.1
          (gained c.in-Held.how (limits_of m.mutex).budget (sight p.seat) (sight c.try_lock.new.seat) gains) c.write_took.ensures).kept;
    }

pub returns-clause-belongs : goal.returns-clause-belongs
returns-clause-belongs g c = let p = c.args.pass.now in let m = c.args.self.now in let gains = rw c.in-Held.is at c.in_ok-locked.ensures.locks in let w = c.write_took.ensures in (
  of_next m.mutex c.try_lock.new.seat c.write_took.new.seat (of_next m.mutex p.seat c.try_lock.new.seat c.requires.belongs.0 c.try_lock.ensures.belongs) w.6,
  (arrived c.in-Held.how (sight p.seat) c.try_lock.new.seat c.write_took.new.seat p.seen p.mine (opening_of m) (passes_of m) (share_of m) p.kept c.requires.belongs.1
      (gained c.in-Held.how (limits_of m.mutex).budget (sight p.seat) (sight c.try_lock.new.seat) gains) w).still,
  c.requires.belongs.2,
)

pub returns-clause-enters : goal.returns-clause-enters
returns-clause-enters g c = let p = c.args.pass.now in let m = c.args.self.now in let gains = rw c.in-Held.is at c.in_ok-locked.ensures.locks in let w = c.write_took.ensures in (
  gains.0,
  ap (λ u. u.takes) w.3 ∙ gains.5,
  (arrived c.in-Held.how (sight p.seat) c.try_lock.new.seat c.write_took.new.seat p.seen p.mine (opening_of m) (passes_of m) (share_of m) p.kept c.requires.belongs.1
      (gained c.in-Held.how (limits_of m.mutex).budget (sight p.seat) (sight c.try_lock.new.seat) gains) w).comes,
)

pub invariant_of-pass-in-Again-1 : goal.invariant_of-pass-in-Again-1
invariant_of-pass-in-Again-1 g c = let p = c.args.pass.now in let locks = rw c.in-Again.is at c.in_ok-locked.ensures.locks in
    record { kept = again c.in-Again.depth (sight p.seat) (sight c.try_lock.new.seat) p.seen p.mine p.kept locks }

pub invariant_of-pass : goal.invariant_of-pass
invariant_of-pass g c = let p = c.args.pass.now in let e = c.in_err-locked in
    record { kept = looked (sight p.seat) (sight c.try_lock.new.seat) p.seen p.mine p.kept (try_refused _ (limits_of c.args.self.now.mutex).budget (sight p.seat) (sight c.try_lock.new.seat) e.ensures.locks) }

pub returns-clause-steps : goal.returns-clause-steps
returns-clause-steps g c = let w = c.write_took.ensures in
    rewritten (mutex_limits c.args.self.now) Call.TryLock (sight c.args.pass.now.seat) (sight c.try_lock.new.seat) (sight c.write_took.new.seat) _ (Some w.1) w.3 (rw c.in-Held.is at c.in_ok-locked.ensures.steps)

pub returns-then-lacks_entry-clause-enters : goal.returns-then-lacks_entry-clause-enters
returns-then-lacks_entry-clause-enters g c = let l = c.if-lacks_entry.ensures.0 refl in ((l.0, l.1, inl l.2), refl, refl)

pub returns-then-lacks_entry-clause-steps : goal.returns-then-lacks_entry-clause-steps
returns-then-lacks_entry-clause-steps g c = refl

pub returns-then-lacks_entry-clause-belongs : goal.returns-then-lacks_entry-clause-belongs
returns-then-lacks_entry-clause-belongs g c = c.requires.belongs

pub returns-then-lacks_entry-clause-seen : goal.returns-then-lacks_entry-clause-seen
returns-then-lacks_entry-clause-seen g c = refl

pub returns-then-lacks_entry-clause-conditions : goal.returns-then-lacks_entry-clause-conditions
returns-then-lacks_entry-clause-conditions g c = (refl, refl)

pub returns-in_err-locked-clause-belongs : goal.returns-in_err-locked-clause-belongs
returns-in_err-locked-clause-belongs g c = let p = c.args.pass.now in let m = c.args.self.now in let s = sight p.seat in let t = sight c.try_lock.new.seat in (
  of_next m.mutex p.seat c.try_lock.new.seat c.requires.belongs.0 c.try_lock.ensures.belongs,
  last_began (opening_of m) (passes_of m) (share_of m) s t (ap (λ u. u.last) (try_refused _ (limits_of m.mutex).budget s t c.in_err-locked.ensures.locks)) c.requires.belongs.1,
  c.requires.belongs.2,
)

pub returns-in_err-locked-clause-enters : goal.returns-in_err-locked-clause-enters
returns-in_err-locked-clause-enters g c = let p = c.args.pass.now in let m = c.args.self.now in let s = sight p.seat in let t = sight c.try_lock.new.seat in
    try_enter_refused (limits_of m.mutex).budget (share_of m) p.mine _ _ s t m.shared c.if-lacks_entry.ensures.1 c.in_err-locked.ensures.locks c.from_residual.ensures.1

pub returns-in_err-locked-clause-steps : goal.returns-in_err-locked-clause-steps
returns-in_err-locked-clause-steps g c = let p = c.args.pass.now in let m = c.args.self.now in let s = sight p.seat in let t = sight c.try_lock.new.seat in
    try_enter_steps (mutex_limits m) (limits_of m.mutex).budget _ _ s t c.in_err-locked.ensures.locks c.in_err-locked.ensures.steps c.from_residual.ensures.1

pub returns-in_err-locked-clause-seen : goal.returns-in_err-locked-clause-seen
returns-in_err-locked-clause-seen g c = refl

pub returns-in_err-locked-clause-conditions : goal.returns-in_err-locked-clause-conditions
returns-in_err-locked-clause-conditions g c = (refl, refl)

pub returns-in-Again-clause-seen : goal.returns-in-Again-clause-seen
returns-in-Again-clause-seen g c = refl

pub returns-in-Again-clause-conditions : goal.returns-in-Again-clause-conditions
returns-in-Again-clause-conditions g c = (refl, refl)

pub returns-in-Again-clause-belongs : goal.returns-in-Again-clause-belongs
returns-in-Again-clause-belongs g c = let p = c.args.pass.now in let m = c.args.self.now in let s = sight p.seat in let t = sight c.try_lock.new.seat in let u = rw c.in-Again.is at c.in_ok-locked.ensures.locks in (
  of_next m.mutex p.seat c.try_lock.new.seat c.requires.belongs.0 c.try_lock.ensures.belongs,
  again_began (opening_of m) (passes_of m) (share_of m) c.in-Again.depth s t u c.requires.belongs.1,
  c.requires.belongs.2,
)

pub returns-in-Again-clause-enters : goal.returns-in-Again-clause-enters
returns-in-Again-clause-enters g c = let u = rw c.in-Again.is at c.in_ok-locked.ensures.locks in (u, refl)

pub returns-in-Again-clause-steps : goal.returns-in-Again-clause-steps
returns-in-Again-clause-steps g c = rw c.in-Again.is at c.in_ok-locked.ensures.steps

pub returns-clause-seen : goal.returns-clause-seen
returns-clause-seen g c = refl

pub returns-clause-conditions : goal.returns-clause-conditions
returns-clause-conditions g c = (refl, refl)

pub overflow_add-pass : goal.overflow_add-pass
overflow_add-pass g c = let p = c.args.pass.now in let m = c.args.self.now in let gains = rw c.in-Held.is at c.in_ok-locked.ensures.locks in
    let room : p.mine < m.share = room_left m.share p.mine (λ h. c.if-lacks_entry.ensures.1 (gains.0, gains.1, h)) in omega arith

pub returns-in_err-locked-clause-bounded : goal.returns-in_err-locked-clause-bounded
returns-in_err-locked-clause-bounded g c = c.in_err-locked.ensures.bounded

pub returns-in-Again-clause-bounded : goal.returns-in-Again-clause-bounded
returns-in-Again-clause-bounded g c = c.in_ok-locked.ensures.bounded

pub returns-clause-bounded : goal.returns-clause-bounded
returns-clause-bounded g c = let same = ap (λ u. length u.trail) c.write_took.ensures.3 in let few = c.in_ok-locked.ensures.bounded in omega (arith, same, few)

pub returns-then-lacks_entry-clause-bounded : goal.returns-then-lacks_entry-clause-bounded
returns-then-lacks_entry-clause-bounded g c = omega arith

pub returns-then-lacks_entry-clause-woken : goal.returns-then-lacks_entry-clause-woken
returns-then-lacks_entry-clause-woken g c = woken_none c.args.pass.now.seat c.args.pass.now.seat refl refl

pub returns-in_err-locked-clause-woken : goal.returns-in_err-locked-clause-woken
returns-in_err-locked-clause-woken g c = c.try_lock.ensures.woken

pub returns-in-Again-clause-woken : goal.returns-in-Again-clause-woken
returns-in-Again-clause-woken g c = c.try_lock.ensures.woken

pub returns-clause-woken : goal.returns-clause-woken
returns-clause-woken g c = let p = c.args.pass.now in woken_join p.seat c.try_lock.new.seat c.write_took.new.seat c.try_lock.ensures.woken (woken_none c.try_lock.new.seat c.write_took.new.seat c.write_took.ensures.7 (ap (λ u. grants_of u.trail) c.write_took.ensures.3))
