use Rattle.std.proofs.Common.{arith, refl, ap, ◌∙◌, ◌<◌, Some}
use Rattle.lfm_protocol.specs.declared.answers.Call.{Call}
use Rattle.lfm_mutex.specs.calls.Sight.{sight}
use Rattle.lfm_monitor.specs.Belongs.{mutex_limits, opening_of, passes_of, share_of}
use Rattle.lfm_monitor.proofs.Asking.{last_began, receive_refused, receive_steps, receive_still}
use Rattle.lfm_monitor.proofs.Refusing.{same_began, same_kept}
use Rattle.lfm_monitor.proofs.Trails.{rewritten}
use Rattle.lfm_monitor.proofs.Knowing.{some_of, woken, may_all, arrived, looked, of_next}
use Rattle.lfm_mutex.specs.calls.WakeUps.{grants_of}
use Rattle.lfm_mutex.proofs.runs.Woken.{woken_join, woken_none}
use Rattle.lfm_mutex.proofs.runs.RunGoesOn.{run_next}
use Rattle.lfm_monitor.proofs.monitor.Monitor.try_receive.Goals as goal

pub returns-in_err-received-clause-run : goal.returns-in_err-received-clause-run
returns-in_err-received-clause-run g c = c.try_receive.ensures.run

pub returns-in-None-clause-run : goal.returns-in-None-clause-run
returns-in-None-clause-run g c = c.try_receive.ensures.run

pub returns-clause-run : goal.returns-clause-run
returns-clause-run g c = run_next c.try_receive.ensures.run c.write_took.ensures.8

pub write_took-requires-clause-may : goal.write_took-requires-clause-may
write_took-requires-clause-may g c κs within v is = let p = c.args.pass.now in let m = c.args.self.now in let wakes = rw c.in-Some.is at c.in_ok-received.ensures.receives in let s = sight p.seat in let t = sight c.try_receive.new.seat in
    let l = some_of s.last p.kept.there in let room : p.mine < m.share = (let r = (p.kept.sleeps wakes.0).room l.0 l.1 in let e = (c.requires.belongs.1 l.0 l.1).2 in omega arith) in
    may_all c.in-Some.how s t p.seen p.mine (opening_of m) (passes_of m) (share_of m) t.number v wakes.3 p.kept c.requires.belongs.1 room (woken c.in-Some.how s t p.seen p.mine p.kept wakes) is

pub invariant_of-pass-2 : goal.invariant_of-pass-2
invariant_of-pass-2 g c = let p = c.args.pass.now in let m = c.args.self.now in let wakes = rw c.in-Some.is at c.in_ok-received.ensures.receives in
    record {
      kept = (arrived c.in-Some.how (sight p.seat) c.try_receive.new.seat c.write_took.new.seat p.seen p.mine (opening_of m) (passes_of m) (share_of m) p.kept c.requires.belongs.1
          (woken c.in-Some.how (sight p.seat) (sight c.try_receive.new.seat) p.seen p.mine p.kept wakes) c.write_took.ensures).kept;
    }

pub returns-clause-belongs : goal.returns-clause-belongs
returns-clause-belongs g c = let p = c.args.pass.now in let m = c.args.self.now in let wakes = rw c.in-Some.is at c.in_ok-received.ensures.receives in let w = c.write_took.ensures in (
  of_next m.mutex c.try_receive.new.seat c.write_took.new.seat (of_next m.mutex p.seat c.try_receive.new.seat c.requires.belongs.0 c.try_receive.ensures.belongs) w.6,
  (arrived c.in-Some.how (sight p.seat) c.try_receive.new.seat c.write_took.new.seat p.seen p.mine (opening_of m) (passes_of m) (share_of m) p.kept c.requires.belongs.1
      (woken c.in-Some.how (sight p.seat) (sight c.try_receive.new.seat) p.seen p.mine p.kept wakes) w).still,
  c.requires.belongs.2,
)

pub returns-clause-enters : goal.returns-clause-enters
returns-clause-enters g c = let p = c.args.pass.now in let m = c.args.self.now in let wakes = rw c.in-Some.is at c.in_ok-received.ensures.receives in let w = c.write_took.ensures in (
  wakes.0,
  ap (λ u. u.takes) w.3 ∙ wakes.5,
  (arrived c.in-Some.how (sight p.seat) c.try_receive.new.seat c.write_took.new.seat p.seen p.mine (opening_of m) (passes_of m) (share_of m) p.kept c.requires.belongs.1
      (woken c.in-Some.how (sight p.seat) (sight c.try_receive.new.seat) p.seen p.mine p.kept wakes) w).comes,
)

pub invariant_of-pass-in-None : goal.invariant_of-pass-in-None
invariant_of-pass-in-None g c = let p = c.args.pass.now in let r = rw c.in-None.is at c.in_ok-received.ensures.receives in
    record { kept = looked (sight p.seat) (sight c.try_receive.new.seat) p.seen p.mine p.kept r.2 }

pub returns-clause-steps : goal.returns-clause-steps
returns-clause-steps g c = let w = c.write_took.ensures in
    rewritten (mutex_limits c.args.self.now) Call.Receive (sight c.args.pass.now.seat) (sight c.try_receive.new.seat) (sight c.write_took.new.seat) _ (Some w.1) w.3 (rw c.in-Some.is at c.in_ok-received.ensures.steps)

pub invariant_of-pass : goal.invariant_of-pass
invariant_of-pass g c = let p = c.args.pass.now in let m = c.args.self.now in let s = sight p.seat in let t = sight c.try_receive.new.seat in record { kept = same_kept s t p.seen p.mine (receive_still _ s t c.in_err-received.ensures.receives) p.kept }

pub returns-in_err-received-clause-belongs : goal.returns-in_err-received-clause-belongs
returns-in_err-received-clause-belongs g c = let p = c.args.pass.now in let m = c.args.self.now in let s = sight p.seat in let t = sight c.try_receive.new.seat in (
  of_next m.mutex p.seat c.try_receive.new.seat c.requires.belongs.0 c.try_receive.ensures.belongs,
  same_began (opening_of m) (passes_of m) (share_of m) s t (receive_still _ s t c.in_err-received.ensures.receives) c.requires.belongs.1,
  c.requires.belongs.2,
)

pub returns-in_err-received-clause-enters : goal.returns-in_err-received-clause-enters
returns-in_err-received-clause-enters g c = let p = c.args.pass.now in let m = c.args.self.now in let s = sight p.seat in let t = sight c.try_receive.new.seat in receive_refused p.seen p.mine _ _ s t p.kept c.in_err-received.ensures.receives c.from_residual.ensures.1

pub returns-in_err-received-clause-steps : goal.returns-in_err-received-clause-steps
returns-in_err-received-clause-steps g c = let p = c.args.pass.now in let m = c.args.self.now in let s = sight p.seat in let t = sight c.try_receive.new.seat in receive_steps (mutex_limits m) _ _ s t c.in_err-received.ensures.receives c.from_residual.ensures.1

pub returns-in_err-received-clause-seen : goal.returns-in_err-received-clause-seen
returns-in_err-received-clause-seen g c = refl

pub returns-in_err-received-clause-conditions : goal.returns-in_err-received-clause-conditions
returns-in_err-received-clause-conditions g c = (refl, refl)

pub returns-in-None-clause-seen : goal.returns-in-None-clause-seen
returns-in-None-clause-seen g c = refl

pub returns-in-None-clause-conditions : goal.returns-in-None-clause-conditions
returns-in-None-clause-conditions g c = (refl, refl)

pub returns-in-None-clause-belongs : goal.returns-in-None-clause-belongs
returns-in-None-clause-belongs g c = let p = c.args.pass.now in let m = c.args.self.now in let s = sight p.seat in let t = sight c.try_receive.new.seat in let r = rw c.in-None.is at c.in_ok-received.ensures.receives in (
  of_next m.mutex p.seat c.try_receive.new.seat c.requires.belongs.0 c.try_receive.ensures.belongs,
  last_began (opening_of m) (passes_of m) (share_of m) s t (ap (λ u. u.last) r.2) c.requires.belongs.1,
  c.requires.belongs.2,
)

pub returns-in-None-clause-enters : goal.returns-in-None-clause-enters
returns-in-None-clause-enters g c = let r = rw c.in-None.is at c.in_ok-received.ensures.receives in (r.0, r.2, refl)

pub returns-in-None-clause-steps : goal.returns-in-None-clause-steps
returns-in-None-clause-steps g c = rw c.in-None.is at c.in_ok-received.ensures.steps

pub returns-clause-seen : goal.returns-clause-seen
returns-clause-seen g c = refl

pub returns-clause-conditions : goal.returns-clause-conditions
returns-clause-conditions g c = (refl, refl)

pub overflow_add-pass : goal.overflow_add-pass
overflow_add-pass g c = let p = c.args.pass.now in let m = c.args.self.now in let wakes = rw c.in-Some.is at c.in_ok-received.ensures.receives in let s = sight p.seat in let l = some_of s.last p.kept.there in
    let room : p.mine < m.share = (let r = (p.kept.sleeps wakes.0).room l.0 l.1 in let e = (c.requires.belongs.1 l.0 l.1).2 in omega arith) in omega arith

pub returns-in_err-received-clause-woken : goal.returns-in_err-received-clause-woken
returns-in_err-received-clause-woken g c = c.try_receive.ensures.woken

pub returns-in-None-clause-woken : goal.returns-in-None-clause-woken
returns-in-None-clause-woken g c = c.try_receive.ensures.woken

pub returns-clause-woken : goal.returns-clause-woken
returns-clause-woken g c = let p = c.args.pass.now in woken_join p.seat c.try_receive.new.seat c.write_took.new.seat c.try_receive.ensures.woken (woken_none c.try_receive.new.seat c.write_took.new.seat c.write_took.ensures.7 (ap (λ u. grants_of u.trail) c.write_took.ensures.3))
