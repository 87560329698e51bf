use Rattle.std.proofs.Common.{arith, inl, refl, ap, ◌∙◌, ◌<◌, ◌+◌, Some}
use Rattle.lfm_mutex.specs.Belongs.{limits_of}
use Rattle.lfm_protocol.specs.declared.answers.Call.{Call}
use Rattle.lfm_mutex.specs.calls.Sight.{sight}
use Rattle.lfm_monitor.specs.Belongs.{mutex_limits, opening_of, passes_of, share_of}
use Rattle.lfm_monitor.proofs.Trails.{rewritten}
use Rattle.lfm_monitor.proofs.Asking.{again_began, ask_refused, ask_steps, last_began}
use Rattle.lfm_monitor.proofs.Refusing.{same_began, same_kept}
use Rattle.lfm_monitor.proofs.Knowing.{gained, may_all, room_left, arrived, again, asleep, of_next}
use Rattle.lfm_mutex.specs.calls.WakeUps.{grants_of}
use Rattle.lfm_mutex.proofs.runs.Woken.{woken_join, woken_none}
use Rattle.lfm_mutex.proofs.runs.RunGoesOn.{run_next, run_same}
use Rattle.lfm_monitor.proofs.monitor.Monitor.ask.Goals as goal

pub returns-then-lacks_entry-clause-run : goal.returns-then-lacks_entry-clause-run
returns-then-lacks_entry-clause-run g c = run_same

pub returns-in_err-asked-clause-run : goal.returns-in_err-asked-clause-run
returns-in_err-asked-clause-run g c = c.ask.ensures.run

pub returns-in-Again-clause-run : goal.returns-in-Again-clause-run
returns-in-Again-clause-run g c = c.ask.ensures.run

pub returns-in-Asleep-clause-run : goal.returns-in-Asleep-clause-run
returns-in-Asleep-clause-run g c = c.ask.ensures.run

pub returns-clause-run : goal.returns-clause-run
returns-clause-run g c = run_next c.ask.ensures.run c.write_took.ensures.8

pub write_took-requires-clause-may : goal.write_took-requires-clause-may
write_took-requires-clause-may g c κs within v is = let p = c.args.pass.now in let m = c.args.self.now in let gains = rw c.in-Held.is at c.in_ok-asked.ensures.asks in let s = sight p.seat in let t = sight c.ask.new.seat in
    let room : p.mine < m.share = room_left m.share p.mine (λ h. c.if-lacks_entry.ensures.1 (gains.0, gains.1, h)) in
    may_all c.in-Held.how s t p.seen p.mine (opening_of m) (passes_of m) (share_of m) t.number v gains.3 p.kept c.requires.belongs.1 room (gained c.in-Held.how (limits_of m.mutex).budget s t gains) is

pub invariant_of-pass-2 : goal.invariant_of-pass-2
invariant_of-pass-2 g c = let p = c.args.pass.now in let m = c.args.self.now in let gains = rw c.in-Held.is at c.in_ok-asked.ensures.asks in
    record {
      kept = (arrived c.in-Held.how (sight p.seat) c.ask.new.seat c.write_took.new.seat p.seen p.mine (opening_of m) (passes_of m) (share_of m) p.kept c.requires.belongs.1
          (gained c.in-Held.how (limits_of m.mutex).budget (sight p.seat) (sight c.ask.new.seat) gains) c.write_took.ensures).kept;
    }

pub returns-clause-belongs : goal.returns-clause-belongs
returns-clause-belongs g c = let p = c.args.pass.now in let m = c.args.self.now in let gains = rw c.in-Held.is at c.in_ok-asked.ensures.asks in let w = c.write_took.ensures in (
  of_next m.mutex c.ask.new.seat c.write_took.new.seat (of_next m.mutex p.seat c.ask.new.seat c.requires.belongs.0 c.ask.ensures.belongs) w.6,
  (arrived c.in-Held.how (sight p.seat) c.ask.new.seat c.write_took.new.seat p.seen p.mine (opening_of m) (passes_of m) (share_of m) p.kept c.requires.belongs.1
      (gained c.in-Held.how (limits_of m.mutex).budget (sight p.seat) (sight c.ask.new.seat) gains) w).still,
  c.requires.belongs.2,
)

pub returns-clause-enters : goal.returns-clause-enters
returns-clause-enters g c = let p = c.args.pass.now in let m = c.args.self.now in let gains = rw c.in-Held.is at c.in_ok-asked.ensures.asks in let w = c.write_took.ensures in (
  gains.0,
  ap (λ u. u.takes) w.3 ∙ gains.5,
  (arrived c.in-Held.how (sight p.seat) c.ask.new.seat c.write_took.new.seat p.seen p.mine (opening_of m) (passes_of m) (share_of m) p.kept c.requires.belongs.1
      (gained c.in-Held.how (limits_of m.mutex).budget (sight p.seat) (sight c.ask.new.seat) gains) w).comes,
)

pub invariant_of-pass-in-Again-1 : goal.invariant_of-pass-in-Again-1
invariant_of-pass-in-Again-1 g c = let p = c.args.pass.now in let locks = rw c.in-Again.is at c.in_ok-asked.ensures.asks in
    record { kept = again c.in-Again.depth (sight p.seat) (sight c.ask.new.seat) p.seen p.mine p.kept locks }

pub invariant_of-pass-in-Asleep : goal.invariant_of-pass-in-Asleep
invariant_of-pass-in-Asleep g c = let p = c.args.pass.now in let m = c.args.self.now in let a = rw c.in-Asleep.is at c.in_ok-asked.ensures.asks in let s = sight p.seat in
    record { kept = asleep (opening_of m) (passes_of m) (share_of m) s (sight c.ask.new.seat) p.seen p.mine (s.takes + 1) p.kept c.requires.belongs.1 a.1 (room_left m.share p.mine (λ h. c.if-lacks_entry.ensures.1 (a.0, a.1, h))) a.3 }

pub returns-clause-steps : goal.returns-clause-steps
returns-clause-steps g c = let w = c.write_took.ensures in
    rewritten (mutex_limits c.args.self.now) Call.Lock (sight c.args.pass.now.seat) (sight c.ask.new.seat) (sight c.write_took.new.seat) _ (Some w.1) w.3 (rw c.in-Held.is at c.in_ok-asked.ensures.steps)

pub invariant_of-pass : goal.invariant_of-pass
invariant_of-pass g c = let p = c.args.pass.now in record { kept = same_kept (sight p.seat) (sight c.ask.new.seat) p.seen p.mine c.in_err-asked.ensures.asks.1 p.kept }

pub returns-in_err-asked-clause-belongs : goal.returns-in_err-asked-clause-belongs
returns-in_err-asked-clause-belongs g c = let p = c.args.pass.now in let m = c.args.self.now in (
  of_next m.mutex p.seat c.ask.new.seat c.requires.belongs.0 c.ask.ensures.belongs,
  same_began (opening_of m) (passes_of m) (share_of m) (sight p.seat) (sight c.ask.new.seat) c.in_err-asked.ensures.asks.1 c.requires.belongs.1,
  c.requires.belongs.2,
)

pub returns-in_err-asked-clause-enters : goal.returns-in_err-asked-clause-enters
returns-in_err-asked-clause-enters g c = let p = c.args.pass.now in let m = c.args.self.now in
    ask_refused (limits_of m.mutex).budget (share_of m) p.mine _ _ (sight p.seat) (sight c.ask.new.seat) m.shared c.in_err-asked.ensures.asks c.from_residual.ensures.1

pub returns-in_err-asked-clause-seen : goal.returns-in_err-asked-clause-seen
returns-in_err-asked-clause-seen g c = refl

pub returns-in_err-asked-clause-conditions : goal.returns-in_err-asked-clause-conditions
returns-in_err-asked-clause-conditions g c = (refl, refl)

pub returns-in_err-asked-clause-steps : goal.returns-in_err-asked-clause-steps
returns-in_err-asked-clause-steps g c = let m = c.args.self.now in
    ask_steps (mutex_limits m) (limits_of m.mutex).budget _ _ (sight c.args.pass.now.seat) (sight c.ask.new.seat) c.in_err-asked.ensures.asks c.from_residual.ensures.1

pub returns-in-Again-clause-belongs : goal.returns-in-Again-clause-belongs
returns-in-Again-clause-belongs g c = let p = c.args.pass.now in let m = c.args.self.now in let u = rw c.in-Again.is at c.in_ok-asked.ensures.asks in (
  of_next m.mutex p.seat c.ask.new.seat c.requires.belongs.0 c.ask.ensures.belongs,
  again_began (opening_of m) (passes_of m) (share_of m) c.in-Again.depth (sight p.seat) (sight c.ask.new.seat) u c.requires.belongs.1,
  c.requires.belongs.2,
)

pub returns-in-Again-clause-enters : goal.returns-in-Again-clause-enters
returns-in-Again-clause-enters g c = let u = rw c.in-Again.is at c.in_ok-asked.ensures.asks in (u, refl)

pub returns-in-Again-clause-seen : goal.returns-in-Again-clause-seen
returns-in-Again-clause-seen g c = refl

pub returns-in-Again-clause-conditions : goal.returns-in-Again-clause-conditions
returns-in-Again-clause-conditions g c = (refl, refl)

pub returns-in-Again-clause-steps : goal.returns-in-Again-clause-steps
returns-in-Again-clause-steps g c = rw c.in-Again.is at c.in_ok-asked.ensures.steps

pub returns-in-Asleep-clause-enters : goal.returns-in-Asleep-clause-enters
returns-in-Asleep-clause-enters g c = let a = rw c.in-Asleep.is at c.in_ok-asked.ensures.asks in (a.0, a.1, a.3, refl)

pub returns-in-Asleep-clause-steps : goal.returns-in-Asleep-clause-steps
returns-in-Asleep-clause-steps g c = rw c.in-Asleep.is at c.in_ok-asked.ensures.steps

pub returns-then-lacks_entry-clause-belongs : goal.returns-then-lacks_entry-clause-belongs
returns-then-lacks_entry-clause-belongs g c = c.requires.belongs

pub returns-then-lacks_entry-clause-enters : goal.returns-then-lacks_entry-clause-enters
returns-then-lacks_entry-clause-enters g c = let l = c.if-lacks_entry.ensures.0 refl in ((l.0, l.1, inl l.2), refl, refl)

pub returns-then-lacks_entry-clause-seen : goal.returns-then-lacks_entry-clause-seen
returns-then-lacks_entry-clause-seen g c = refl

pub returns-then-lacks_entry-clause-conditions : goal.returns-then-lacks_entry-clause-conditions
returns-then-lacks_entry-clause-conditions g c = (refl, refl)

pub returns-then-lacks_entry-clause-steps : goal.returns-then-lacks_entry-clause-steps
returns-then-lacks_entry-clause-steps g c = refl

pub returns-clause-seen : goal.returns-clause-seen
returns-clause-seen g c = refl

pub returns-clause-conditions : goal.returns-clause-conditions
returns-clause-conditions g c = (refl, refl)

pub returns-in-Asleep-clause-belongs : goal.returns-in-Asleep-clause-belongs
returns-in-Asleep-clause-belongs g c = let p = c.args.pass.now in let m = c.args.self.now in let a = rw c.in-Asleep.is at c.in_ok-asked.ensures.asks in (
  of_next m.mutex p.seat c.ask.new.seat c.requires.belongs.0 c.ask.ensures.belongs,
  last_began (opening_of m) (passes_of m) (share_of m) (sight p.seat) (sight c.ask.new.seat) (ap (λ u. u.last) a.3) c.requires.belongs.1,
  c.requires.belongs.2,
)

pub returns-in-Asleep-clause-seen : goal.returns-in-Asleep-clause-seen
returns-in-Asleep-clause-seen g c = refl

pub returns-in-Asleep-clause-conditions : goal.returns-in-Asleep-clause-conditions
returns-in-Asleep-clause-conditions g c = (refl, refl)

pub overflow_add-pass : goal.overflow_add-pass
overflow_add-pass g c = let p = c.args.pass.now in let m = c.args.self.now in let gains = rw c.in-Held.is at c.in_ok-asked.ensures.asks in
    let room : p.mine < m.share = room_left m.share p.mine (λ h. c.if-lacks_entry.ensures.1 (gains.0, gains.1, h)) in omega arith

pub returns-then-lacks_entry-clause-woken : goal.returns-then-lacks_entry-clause-woken
returns-then-lacks_entry-clause-woken g c = woken_none c.args.pass.now.seat c.args.pass.now.seat refl refl

pub returns-in_err-asked-clause-woken : goal.returns-in_err-asked-clause-woken
returns-in_err-asked-clause-woken g c = c.ask.ensures.woken

pub returns-in-Again-clause-woken : goal.returns-in-Again-clause-woken
returns-in-Again-clause-woken g c = c.ask.ensures.woken

pub returns-in-Asleep-clause-woken : goal.returns-in-Asleep-clause-woken
returns-in-Asleep-clause-woken g c = c.ask.ensures.woken

pub returns-clause-woken : goal.returns-clause-woken
returns-clause-woken g c = let p = c.args.pass.now in woken_join p.seat c.ask.new.seat c.write_took.new.seat c.ask.ensures.woken (woken_none c.ask.new.seat c.write_took.new.seat c.write_took.ensures.7 (ap (λ u. grants_of u.trail) c.write_took.ensures.3))
