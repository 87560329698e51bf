use Rattle.std.proofs.Common.{ap, arith, refl, sym}
use Rattle.lfm_mutex.specs.calls.Sight.{sight}
use Rattle.lfm_monitor.specs.Belongs.{opening_of, passes_of, share_of}
use Rattle.lfm_monitor.proofs.Knowing.{may_did, did}
use Rattle.lfm_mutex.specs.calls.WakeUps.{grants_of}
use Rattle.lfm_mutex.proofs.runs.Woken.{woken_none}
use Rattle.lfm_mutex.proofs.runs.RunGoesOn.{run_same}
use Rattle.lfm_monitor.proofs.monitor.Monitor.apply.Goals as goal

pub returns-clause-run : goal.returns-clause-run
returns-clause-run g c = c.write_did-reply.ensures.writes.8

pub returns-then-asleep-clause-run : goal.returns-then-asleep-clause-run
returns-then-asleep-clause-run g c = run_same

pub returns-then-depth-eq0-clause-run : goal.returns-then-depth-eq0-clause-run
returns-then-depth-eq0-clause-run g c = run_same

pub returns-then-pass-self-clause-run : goal.returns-then-pass-self-clause-run
returns-then-pass-self-clause-run g c = run_same

pub write_did-reply-requires-clause-may : goal.write_did-reply-requires-clause-may
write_did-reply-requires-clause-may g c κs within v is = let p = c.args.pass.now in let m = c.args.self.now in let s = sight p.seat in
    may_did s p.seen p.mine (opening_of m) (passes_of m) (share_of m) s.number v refl p.kept c.requires.belongs.1 c.if-pass-self.false is

pub invariant_of-pass : goal.invariant_of-pass
invariant_of-pass g c = let p = c.args.pass.now in let w = c.write_did-reply.ensures.writes in let s = sight p.seat in
    record { kept = did c.args.op s (sight c.write_did-reply.new.seat) p.seen p.mine s.number w.0 w.1 refl p.kept w.2 w.3 w.4 w.5 }

pub returns-clause-applies : goal.returns-clause-applies
returns-clause-applies g c = let e = c.write_did-reply.ensures in let w = e.writes in
    (sym c.if-asleep.ensures, refl, (w.0, w.1, w.2, w.3, e.reply w.0 w.2, e.object w.0 w.1 w.2 (ap (λ u. u.value) w.3), w.4))

pub returns-then-pass-self-clause-applies : goal.returns-then-pass-self-clause-applies
returns-then-pass-self-clause-applies g c = (sym c.if-asleep.ensures, omega arith, c.if-pass-self.true, refl, refl)

pub returns-clause-woken : goal.returns-clause-woken
returns-clause-woken g c = let p = c.args.pass.now in let w = c.write_did-reply in woken_none p.seat w.new.seat w.ensures.writes.7 (ap (λ u. grants_of u.trail) w.ensures.writes.3)

pub returns-then-asleep-clause-woken : goal.returns-then-asleep-clause-woken
returns-then-asleep-clause-woken g c = woken_none c.args.pass.now.seat c.args.pass.now.seat refl refl

pub returns-then-depth-eq0-clause-woken : goal.returns-then-depth-eq0-clause-woken
returns-then-depth-eq0-clause-woken g c = woken_none c.args.pass.now.seat c.args.pass.now.seat refl refl

pub returns-then-pass-self-clause-woken : goal.returns-then-pass-self-clause-woken
returns-then-pass-self-clause-woken g c = woken_none c.args.pass.now.seat c.args.pass.now.seat refl refl
