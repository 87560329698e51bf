use Rattle.std.proofs.Common.{rules, ◌≡◌, ℕ, Ok, Err, refl, sym, ap, subst, arith}
use Rattle.lfm_model.specs.declared.answers.How.{How}
use Rattle.lfm_protocol.specs.declared.limits.Limits.{Limits}
use Rattle.lfm_mutex.specs.calls.Sight.{Sight, sight}
use Rattle.lfm_condvar.specs.Belongs.{cond_limits, cond_sight, cond_tries}
use Rattle.lfm_condvar.specs.Waits.{WaitEnds}
use Rattle.lfm_monitor.specs.Journaled.{JournalFits, JournalFollows}
use Rattle.lfm_monitor.specs.Belongs.{cond_seats_of, conditions_in, conditions_of, mutex_limits, opening_of, passes_of, share_of, tries_in}
use Rattle.lfm_monitor.specs.CondSeats.{condition_limits}
use Rattle.lfm_monitor.specs.Passes.{Began}
use Rattle.lfm_monitor.proofs.Barring.{barred}
use Rattle.lfm_monitor.proofs.Refusing.{same_kept}
use Rattle.lfm_monitor.proofs.Knowing.{may_all, may_leave, of_next, some_of}
use Rattle.lfm_monitor.proofs.Returning.{refused, returned, wait_refused, waited}
use Rattle.lfm_monitor.proofs.UsedConditions.{as_told, at_place, conds_woken_none, conds_woken_one, still_of_conditions}
use Rattle.lfm_mutex.specs.calls.WakeUps.{grants_of}
use Rattle.lfm_mutex.proofs.runs.Woken.{polls_join, polls_none, may_poll, woken_none}
use Rattle.lfm_mutex.proofs.runs.RunGoesOn.{run_next, run_same}
use Rattle.lfm_monitor.proofs.monitor.Monitor.wait_until_sent.Goals as goal

pub wait-requires-clause-belongs : goal.wait-requires-clause-belongs
wait-requires-clause-belongs g c κs within = let a = at_place c.args.pass.now c.args.self.now c.in-Some-index_of.index _ _ c.requires.belongs c.in-Some-index_of.ensures.1 c.index_mut-cond.ensures.value c.index.ensures in (a.belongs, c.requires.belongs.0)

pub wait-requires-clause-leaves : goal.wait-requires-clause-leaves
wait-requires-clause-leaves g c κs within = let p = c.args.pass.now in λ one. may_leave (sight p.seat) p.seen p.mine p.kept

pub returns-in_err-how : goal.returns-in_err-how
returns-in_err-how g c = let p = c.args.pass.now in let m = c.args.self.now in let n = c.in-Some-index_of.index in let x = c.index_mut-cond.result.now in let y = c.wait.new.cond in let v = c.index.result.now in let s = sight p.seat in
    let t = sight c.wait.new.seat in let e = c.wait.ensures in let a = at_place p m n x v c.requires.belongs c.in-Some-index_of.ensures.1 c.index_mut-cond.ensures.value c.index.ensures in
    let ends = as_told p m n x v (λ (l : Limits) (tries : ℕ). WaitEnds JournalFollows JournalFits (mutex_limits m) l tries (cond_sight x) (cond_sight y) s t (Err c.in_err-how.field-0.0)) a c.in_err-how.ensures.waits in
    let same = wait_refused (mutex_limits m) (condition_limits (passes_of m)) (tries_in m) (cond_sight x) (cond_sight y) s t c.in_err-how.field-0.0 ends in
    let old = some_of s.last p.kept.there in let low = p.kept.seated old.0 old.1 in let o = c.requires.belongs.1 old.0 old.1 in
    let answered : c.from_residual.result ≡ Err c.in_err-how.field-0.0 = search rules in rw answered record {
      belongs = (
        of_next m.mutex p.seat c.wait.new.seat c.requires.belongs.0 e.belongs.1,
        subst (λ (u : Sight _). Began (opening_of m) (passes_of m) (share_of m) u) (sym same) c.requires.belongs.1,
        record { morphing = still_of_conditions (cond_seats_of p) (conditions_in m) n y v c.requires.belongs.2.morphing a.condition e.belongs.0; plain = c.requires.belongs.2.plain },
      );
      number = ap (λ (u : Sight _). u.number) same;
      run = e.run;
      woken = e.woken;
      plain = refl;
      cond_woken = conds_woken_one (cond_seats_of p) n x y a.seat e.cond_woken;
      waits = refused (mutex_limits m) (condition_limits (passes_of m)) (tries_in m) (share_of m) (conditions_of m) c.args.condition (cond_seats_of p) _ s t p.mine c.in_err-how.field-0.0 m.shared c.in_default.ensures (let b = o.1 in omega arith)
          (n, x, y, c.in-Some-index_of.ensures.0, a.seat, refl, ends);
      returns = (same, refl, refl);
    }

pub write_took-requires-clause-may : goal.write_took-requires-clause-may
write_took-requires-clause-may g c κs within v is = let p = c.args.pass.now in let m = c.args.self.now in let s = sight p.seat in let t = sight c.wait.new.seat in let r : How × ℕ = (c.in_ok-how.how, c.in_ok-how.ticket) in let n = c.journal_len-length.result in
    let h = waited (mutex_limits m) (cond_limits c.index.result.now) (cond_tries c.index.result.now) (cond_sight c.index_mut-cond.result.now) (cond_sight c.wait.new.cond) s t r p.seen p.mine n (opening_of m) (passes_of m) (share_of m) p.kept c.requires.belongs.1 c.in_default.ensures.3
    c.journal_len-length.ensures c.in_ok-how.ensures.waits in
    may_all r.0 h.0 t n p.mine (opening_of m) (passes_of m) (share_of m) t.number v h.1.comes.number h.1.kept h.1.of c.in_default.ensures.3 h.1.comes is

pub invariant_of-pass-2 : goal.invariant_of-pass-2
invariant_of-pass-2 g c = let p = c.args.pass.now in let m = c.args.self.now in let s = sight p.seat in let t = sight c.wait.new.seat in let r : How × ℕ = (c.in_ok-how.how, c.in_ok-how.ticket) in let n = c.journal_len-length.result in
    let h = waited (mutex_limits m) (cond_limits c.index.result.now) (cond_tries c.index.result.now) (cond_sight c.index_mut-cond.result.now) (cond_sight c.wait.new.cond) s t r p.seen p.mine n (opening_of m) (passes_of m) (share_of m) p.kept c.requires.belongs.1 c.in_default.ensures.3
    c.journal_len-length.ensures c.in_ok-how.ensures.waits in
    record {
      kept = (returned r s h.0 c.wait.new.seat c.write_took.new.seat p.seen p.mine n (opening_of m) (passes_of m) (share_of m) p.kept c.in_default.ensures.0 c.in_default.ensures.1 c.journal_len-length.ensures h.1 c.write_took.ensures).kept;
    }

pub returns : goal.returns
returns g c = let p = c.args.pass.now in let m = c.args.self.now in let k = c.in-Some-index_of.index in let x = c.index_mut-cond.result.now in let y = c.wait.new.cond in let v = c.index.result.now in let s = sight p.seat in
    let t = sight c.wait.new.seat in let r : How × ℕ = (c.in_ok-how.how, c.in_ok-how.ticket) in let n = c.journal_len-length.result in let e = c.wait.ensures in let w = c.write_took.ensures in
    let a = at_place p m k x v c.requires.belongs c.in-Some-index_of.ensures.1 c.index_mut-cond.ensures.value c.index.ensures in
    let h = waited (mutex_limits m) (cond_limits v) (cond_tries v) (cond_sight x) (cond_sight y) s t r p.seen p.mine n (opening_of m) (passes_of m) (share_of m) p.kept c.requires.belongs.1 c.in_default.ensures.3 c.journal_len-length.ensures c.in_ok-how.ensures.waits in
    let back = returned r s h.0 c.wait.new.seat c.write_took.new.seat p.seen p.mine n (opening_of m) (passes_of m) (share_of m) p.kept c.in_default.ensures.0 c.in_default.ensures.1 c.journal_len-length.ensures h.1 w in
    let ends = as_told p m k x v (λ (l : Limits) (tries : ℕ). WaitEnds JournalFollows JournalFits (mutex_limits m) l tries (cond_sight x) (cond_sight y) s t (Ok r)) a c.in_ok-how.ensures.waits in record {
      belongs = (of_next m.mutex c.wait.new.seat c.write_took.new.seat (of_next m.mutex p.seat c.wait.new.seat c.requires.belongs.0 e.belongs.1) w.6, back.of, record { morphing = still_of_conditions (cond_seats_of p) (conditions_in m) k y v c.requires.belongs.2.morphing a.condition e.belongs.0; plain = c.requires.belongs.2.plain });
      number = back.waits.2;
      run = run_next e.run w.8;
      woken = polls_join p.seat c.wait.new.seat c.write_took.new.seat e.woken (may_poll c.wait.new.seat c.write_took.new.seat (woken_none c.wait.new.seat c.write_took.new.seat w.7 (ap (λ u. grants_of u.trail) w.3)));
      plain = refl;
      cond_woken = conds_woken_one (cond_seats_of p) k x y a.seat e.cond_woken;
      waits = (c.in_default.ensures, (k, x, y, c.in-Some-index_of.ensures.0, a.seat, refl, (t, ends, (w.0, w.1, w.2, w.3, w.4, w.5))));
      returns = back.waits;
    }

pub returns-in-Some : goal.returns-in-Some
returns-in-Some g c = let p = c.args.pass.now in let m = c.args.self.now in record {
  belongs = c.requires.belongs;
  number = refl;
  run = run_same;
  woken = polls_none c.args.pass.now.seat c.args.pass.now.seat refl refl;
  plain = refl;
  cond_woken = conds_woken_none (cond_seats_of p) (cond_seats_of p) refl;
  waits = barred (mutex_limits m) (condition_limits (passes_of m)) (tries_in m) (share_of m) (conditions_of m) c.args.condition (cond_seats_of p) (sight p.seat) p.mine _ c.in-Some.ensures;
  returns = (refl, refl, refl);
}

pub returns-in_default-index_of : goal.returns-in_default-index_of
returns-in_default-index_of g c = record { belongs = c.requires.belongs; number = refl; run = run_same; woken = polls_none c.args.pass.now.seat c.args.pass.now.seat refl refl; plain = refl; cond_woken = conds_woken_none (cond_seats_of c.args.pass.now) (cond_seats_of c.args.pass.now) refl; waits = (c.in_default.ensures, c.in_default-index_of.ensures, refl, refl); returns = (refl, refl, refl) }

pub invariant_of-pass : goal.invariant_of-pass
invariant_of-pass g c = let p = c.args.pass.now in let m = c.args.self.now in let s = sight p.seat in let t = sight c.wait.new.seat in record {
  kept = same_kept s t p.seen p.mine
      (wait_refused (mutex_limits m) (cond_limits c.index.result.now) (cond_tries c.index.result.now) (cond_sight c.index_mut-cond.result.now) (cond_sight c.wait.new.cond) s t c.in_err-how.field-0.0 c.in_err-how.ensures.waits) p.kept;
}
