use Rattle.std.proofs.Common.{rules, ◌≡◌, ℕ, Ok, Err, refl, sym, ap, subst, arith}
use Rattle.lfm_model.specs.declared.answers.How.{How}
use Rattle.lfm_protocol.specs.declared.limits.Limits.{Limits}
use Rattle.lfm_mutex.specs.calls.Sight.{Sight, sight}
use Rattle.lfm_mutex.specs.Belongs.{limits_of, tries_of}
use Rattle.lfm_plain_condvar.specs.Waits.{Refuses, WaitWithHowEnds}
use Rattle.lfm_monitor.specs.Journaled.{JournalFits, JournalFollows}
use Rattle.lfm_monitor.specs.Belongs.{cond_seats_of, mutex_limits, opening_of, passes_of, plain_conditions_in, plain_conditions_of, plain_seats_of, share_of, tries_in}
use Rattle.lfm_monitor.specs.CondSeats.{condition_limits}
use Rattle.lfm_monitor.specs.Passes.{Began}
use Rattle.lfm_monitor.proofs.Refusing.{same_kept}
use Rattle.lfm_monitor.proofs.Knowing.{may_all, may_leave, of_next}
use Rattle.lfm_monitor.proofs.PlainReturning.{plain_barred, plain_refused, plain_wait_refused, plain_waited}
use Rattle.lfm_monitor.proofs.Returning.{returned}
use Rattle.lfm_monitor.proofs.UsedPlainConditions.{as_plain_told, at_plain_place, plain_woken_none, plain_woken_one, still_of_plain_conditions}
use Rattle.lfm_mutex.specs.calls.WakeUps.{grants_of}
use Rattle.lfm_mutex.proofs.runs.Woken.{polls_join, polls_none, may_poll, woken_none}
use Rattle.lfm_mutex.proofs.runs.RunGoesOn.{run_next, run_same}
use Rattle.lfm_monitor.proofs.monitor.Monitor.wait_until_notified.Goals as goal

pub wait_with_how-requires-clause-belongs : goal.wait_with_how-requires-clause-belongs
wait_with_how-requires-clause-belongs g c κs within = let a = at_plain_place c.args.pass.now c.args.self.now c.in-Some-plain_index_of.index _ _ c.requires.belongs c.in-Some-plain_index_of.ensures.1 c.index_mut-plain.ensures.value c.index.ensures in (a.belongs, c.requires.belongs.0)

pub wait_with_how-requires-clause-leaves : goal.wait_with_how-requires-clause-leaves
wait_with_how-requires-clause-leaves g c κs within = let p = c.args.pass.now in λ one. may_leave (sight p.seat) p.seen p.mine p.kept

pub returns-in_err-how : goal.returns-in_err-how
returns-in_err-how g c = let p = c.args.pass.now in let m = c.args.self.now in let n = c.in-Some-plain_index_of.index in let x = c.index_mut-plain.result.now in let y = c.wait_with_how.new.cond in let v = c.index.result.now in let s = sight p.seat in
    let t = sight c.wait_with_how.new.seat in let e = c.wait_with_how.ensures in let a = at_plain_place p m n x v c.requires.belongs c.in-Some-plain_index_of.ensures.1 c.index_mut-plain.ensures.value c.index.ensures in
    let ends = as_plain_told p m n x v (λ (l : Limits) (tries : ℕ). WaitWithHowEnds JournalFollows JournalFits (mutex_limits m) l tries (tries_in m) (sight x.seat) (sight y.seat) s t (Err c.in_err-how.field-0.0)) a c.in_err-how.ensures.waits in
    let same = plain_wait_refused (mutex_limits m) (condition_limits (passes_of m)) 1 (tries_in m) (sight x.seat) (sight y.seat) s t c.in_err-how.field-0.0 ends in
    let answered : c.from_residual.result ≡ Err c.in_err-how.field-0.0 = search rules in rw answered record {
      belongs = (
        of_next m.mutex p.seat c.wait_with_how.new.seat c.requires.belongs.0 e.belongs.1,
        subst (λ (u : Sight _). Began (opening_of m) (passes_of m) (share_of m) u) (sym same) c.requires.belongs.1,
        record { morphing = c.requires.belongs.2.morphing; plain = still_of_plain_conditions (plain_seats_of p) (plain_conditions_in m) n y v c.requires.belongs.2.plain a.condition e.belongs.0 },
      );
      number = ap (λ (u : Sight _). u.number) same;
      run = e.run;
      woken = e.woken;
      plain_woken = plain_woken_one (plain_seats_of p) n x y a.seat e.cond_woken;
      morphing = refl;
      waits = plain_refused (mutex_limits m) (condition_limits (passes_of m)) 1 (tries_in m) (share_of m) (plain_conditions_of m) c.args.condition (plain_seats_of p) _ s t p.mine c.in_err-how.field-0.0 m.shared c.in_default.ensures
          (n, x, y, c.in-Some-plain_index_of.ensures.0, a.seat, refl, ends);
      returns = (same, refl, refl);
    }

pub write_took-requires-clause-may : goal.write_took-requires-clause-may
write_took-requires-clause-may g c κs within v is = let p = c.args.pass.now in let m = c.args.self.now in let s = sight p.seat in let t = sight c.wait_with_how.new.seat in let n = c.journal_len-length.result in
    let h = plain_waited (mutex_limits m) (tries_in m) c.in_ok-how.how s t p.seen p.mine n (opening_of m) (passes_of m) (share_of m) p.kept c.requires.belongs.1 c.journal_len-length.ensures c.in_ok-how.ensures.waits.1 in
    may_all c.in_ok-how.how h.0 t n p.mine (opening_of m) (passes_of m) (share_of m) t.number v h.1.comes.number h.1.kept h.1.of c.in_default.ensures.3 h.1.comes is

pub invariant_of-pass-2 : goal.invariant_of-pass-2
invariant_of-pass-2 g c = let p = c.args.pass.now in let m = c.args.self.now in let s = sight p.seat in let t = sight c.wait_with_how.new.seat in let n = c.journal_len-length.result in
    let r : How × ℕ = (c.in_ok-how.how, c.in_ok-how.ticket) in let h = plain_waited (mutex_limits m) (tries_in m) c.in_ok-how.how s t p.seen p.mine n (opening_of m) (passes_of m) (share_of m) p.kept c.requires.belongs.1 c.journal_len-length.ensures c.in_ok-how.ensures.waits.1 in
    record {
      kept = (returned r s h.0 c.wait_with_how.new.seat c.write_took.new.seat p.seen p.mine n (opening_of m) (passes_of m) (share_of m) p.kept c.in_default.ensures.0 c.in_default.ensures.1 c.journal_len-length.ensures h.1 c.write_took.ensures).kept;
    }

pub returns : goal.returns
returns g c = let p = c.args.pass.now in let m = c.args.self.now in let k = c.in-Some-plain_index_of.index in let x = c.index_mut-plain.result.now in let y = c.wait_with_how.new.cond in let v = c.index.result.now in let s = sight p.seat in
    let t = sight c.wait_with_how.new.seat in let r : How × ℕ = (c.in_ok-how.how, c.in_ok-how.ticket) in let n = c.journal_len-length.result in let e = c.wait_with_how.ensures in let w = c.write_took.ensures in
    let a = at_plain_place p m k x v c.requires.belongs c.in-Some-plain_index_of.ensures.1 c.index_mut-plain.ensures.value c.index.ensures in
    let h = plain_waited (mutex_limits m) (tries_in m) c.in_ok-how.how s t p.seen p.mine n (opening_of m) (passes_of m) (share_of m) p.kept c.requires.belongs.1 c.journal_len-length.ensures c.in_ok-how.ensures.waits.1 in
    let back = returned r s h.0 c.wait_with_how.new.seat c.write_took.new.seat p.seen p.mine n (opening_of m) (passes_of m) (share_of m) p.kept c.in_default.ensures.0 c.in_default.ensures.1 c.journal_len-length.ensures h.1 w in
    let ends = as_plain_told p m k x v (λ (l : Limits) (tries : ℕ). WaitWithHowEnds JournalFollows JournalFits (mutex_limits m) l tries (tries_in m) (sight x.seat) (sight y.seat) s t (Ok (c.in_ok-how.how, c.in_ok-how.ticket))) a c.in_ok-how.ensures.waits in record {
      belongs = (
        of_next m.mutex c.wait_with_how.new.seat c.write_took.new.seat (of_next m.mutex p.seat c.wait_with_how.new.seat c.requires.belongs.0 e.belongs.1) w.6,
        back.of,
        record { morphing = c.requires.belongs.2.morphing; plain = still_of_plain_conditions (plain_seats_of p) (plain_conditions_in m) k y v c.requires.belongs.2.plain a.condition e.belongs.0 },
      );
      number = back.waits.2;
      run = run_next e.run w.8;
      woken = polls_join p.seat c.wait_with_how.new.seat c.write_took.new.seat e.woken (may_poll c.wait_with_how.new.seat c.write_took.new.seat (woken_none c.wait_with_how.new.seat c.write_took.new.seat w.7 (ap (λ u. grants_of u.trail) w.3)));
      plain_woken = plain_woken_one (plain_seats_of p) k x y a.seat e.cond_woken;
      morphing = refl;
      waits = (c.in_default.ensures, (k, x, y, c.in-Some-plain_index_of.ensures.0, a.seat, refl, (e.notifies, (t, ends, (w.0, w.1, w.2, w.3, w.4, w.5)))));
      returns = back.waits;
    }

pub returns-in-Some : goal.returns-in-Some
returns-in-Some g c = let p = c.args.pass.now in let m = c.args.self.now in record {
  belongs = c.requires.belongs;
  number = refl;
  run = run_same;
  woken = polls_none p.seat p.seat refl refl;
  plain_woken = plain_woken_none (plain_seats_of p) (plain_seats_of p) refl;
  morphing = refl;
  waits = plain_barred (condition_limits (passes_of m)) 1 (tries_in m) (share_of m) (plain_conditions_of m) c.args.condition (plain_seats_of p) (sight p.seat) p.mine _ c.in-Some.ensures;
  returns = (refl, refl, refl);
}

pub returns-in_default-plain_index_of : goal.returns-in_default-plain_index_of
returns-in_default-plain_index_of g c = let p = c.args.pass.now in record {
  belongs = c.requires.belongs;
  number = refl;
  run = run_same;
  woken = polls_none p.seat p.seat refl refl;
  plain_woken = plain_woken_none (plain_seats_of p) (plain_seats_of p) refl;
  morphing = refl;
  waits = (c.in_default.ensures, c.in_default-plain_index_of.ensures, refl, refl);
  returns = (refl, refl, refl);
}

pub invariant_of-pass : goal.invariant_of-pass
invariant_of-pass g c = let p = c.args.pass.now in let m = c.args.self.now in let s = sight p.seat in let t = sight c.wait_with_how.new.seat in let v = c.index.result.now in record {
  kept = same_kept s t p.seen p.mine
      (plain_wait_refused (mutex_limits m) (limits_of v.inner) 1 (tries_of v.inner) (sight c.index_mut-plain.result.now.seat) (sight c.wait_with_how.new.cond.seat) s t c.in_err-how.field-0.0 c.in_err-how.ensures.waits) p.kept;
}
