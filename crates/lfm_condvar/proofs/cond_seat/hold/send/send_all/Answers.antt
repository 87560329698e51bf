use Rattle.std.proofs.Common.{rules, ◌≡◌, ℕ, List, Option, Some, None, Ok, Err, ◌∷◌, [], ◌++◌, length-append, arith, sym, ap, subst, ◌∙◌, refl}
use Rattle.lfm_mutex.specs.Belongs.{limits_of}
use Rattle.lfm_mutex.specs.calls.Sight.{sight}
use Rattle.lfm_condvar.specs.Lists.{waiter}
use Rattle.lfm_condvar.specs.Wakes.{SendsAll, SendsBy, SendsInTurn, SentEach}
use Rattle.lfm_condvar.proofs.HeldBack.{held_more, held_none}
use Rattle.lfm_condvar.proofs.Followed.{follows_more, follows_none}
use Rattle.lfm_condvar.proofs.Sent.{all_sent, awake_still, in_turn, sent_more, sent_none, some_by, some_sent, taken_more, taken_none}
use Rattle.lfm_mutex.proofs.runs.RunGoesOn.{run_next, run_same}
use Rattle.lfm_condvar.proofs.cond_seat.hold.send.send_all.Goals as goal

pub returns-in-Err-clause-run : goal.returns-in-Err-clause-run
returns-in-Err-clause-run g c = run_next c.sends.invariant.run (run_next c.send_oldest_without_waking-answer.ensures.run c.hold_back-held.ensures.run)

pub returns-in-None-clause-run : goal.returns-in-None-clause-run
returns-in-None-clause-run g c = run_next c.sends.invariant.run (run_next c.send_oldest_without_waking-answer.ensures.run c.hold_back-held.ensures.run)

pub sends-init : goal.sends-init
sends-init g c = let s = c.args.seat.now in record {
  belongs = (c.requires.belongs, (refl, refl));
  run = run_same;
  wide = c.requires.wide;
  gone = ([], taken_none c.args.waiters.now, sent_none (sight s), refl);
  steps = ([], refl);
  wakes = held_none (limits_of c.args.mutex.now).seats s;
  follows = λ k. follows_none k c.args.waiters.now;
}

pub sends-preserved : goal.sends-preserved
sends-preserved g c = let i = c.sends.invariant in let o = c.send_oldest_without_waking-answer in let is : o.result.0 ≡ Ok (Some c.in-Some.field-0) = search rules in let told = rw is at o.ensures.sends in let p = c.in-Some.field-0 in let x = waiter p.0 p.1 in
    let s = sight c.args.seat.now in let m = sight c.sends.seat in let t = sight c.send_oldest_without_waking-answer.new.seat in let w = c.send_oldest_without_waking-answer.new.waiters in let n = (limits_of c.args.mutex.now).seats in let same = sym c.hold_back-held.ensures.same in
    record {
      belongs = search rules;
      run = run_next i.run (run_next o.ensures.run c.hold_back-held.ensures.run);
      wide = (let same = told.0.seats in let wide = i.wide in omega arith);
      gone = (i.gone.0 ++ x ∷ [], taken_more i.gone.0 x c.args.waiters.now c.sends.waiters w i.gone.1 told.0, subst (λ z. SentEach (i.gone.0 ++ x ∷ []) s z) same (sent_more n i.gone.0 x s m t i.gone.2 told.2), (let l = length-append i.gone.0 (x ∷ []) in let k = i.gone.3 in omega arith));
      steps = (let b = rw is at o.ensures.steps in (i.steps.0 ++ b.0, subst (λ z. SendsInTurn (limits_of c.args.mutex.now) s (i.steps.0 ++ b.0) z) same (in_turn (limits_of c.args.mutex.now) i.steps.0 b.0 s m t i.steps.1 b.1)));
      follows = λ k. follows_more k c.args.waiters.now c.sends.waiters w (i.follows k) (o.ensures.follows k);
      wakes = (let b = c.hold_back-held in held_more n c.sends.held o.result.1 b.result c.args.seat.now c.sends.seat o.new.seat b.new.seat b.ensures.later i.wakes o.ensures.woken o.ensures.wakes b.ensures.woken b.ensures.same);
    }

pub returns-in-Err-clause-sends : goal.returns-in-Err-clause-sends
returns-in-Err-clause-sends g c = let i = c.sends.invariant in let o = c.send_oldest_without_waking-answer in let is : o.result.0 ≡ Err c.in-Err.refusal = search rules in
    subst (λ z. SendsAll (limits_of c.args.mutex.now).seats (sight c.args.seat.now) z c.args.waiters.now c.send_oldest_without_waking-answer.new.waiters (Err c.in-Err.refusal)) (sym c.hold_back-held.ensures.same)
    (some_sent (limits_of c.args.mutex.now).seats i.gone.0 (sight c.args.seat.now) (sight c.sends.seat) (sight c.send_oldest_without_waking-answer.new.seat) c.args.waiters.now c.sends.waiters c.send_oldest_without_waking-answer.new.waiters c.in-Err.refusal i.gone.1 i.gone.2 c.requires.awake (rw is at o.ensures.sends))

pub returns-in-Err-clause-steps : goal.returns-in-Err-clause-steps
returns-in-Err-clause-steps g c = let i = c.sends.invariant in let o = c.send_oldest_without_waking-answer in let is : o.result.0 ≡ Err c.in-Err.refusal = search rules in let s = sight c.args.seat.now in let m = sight c.sends.seat in
    subst (λ z. SendsBy {A = ℕ} (limits_of c.args.mutex.now) (sight c.args.seat.now) z (Err c.in-Err.refusal)) (sym c.hold_back-held.ensures.same)
    (some_by (Option (ℕ × ℕ)) ℕ (limits_of c.args.mutex.now).seats (limits_of c.args.mutex.now) i.steps.0 s m (sight c.send_oldest_without_waking-answer.new.seat) c.sends.waiters c.send_oldest_without_waking-answer.new.waiters c.in-Err.refusal (awake_still i.gone.0 s m c.requires.awake i.gone.2) (rw is at o.ensures.sends) i.steps.1 (rw is at o.ensures.steps))

pub returns-in-None-clause-steps : goal.returns-in-None-clause-steps
returns-in-None-clause-steps g c = let i = c.sends.invariant in let n = c.send_oldest_without_waking-answer in let is : n.result.0 ≡ Ok None = search rules in let o = rw is at n.ensures.steps in
    subst (λ z. SendsBy (limits_of c.args.mutex.now) (sight c.args.seat.now) z (Ok c.sends.sent)) (sym c.hold_back-held.ensures.same)
    ((i.steps.0 ++ o.0, in_turn (limits_of c.args.mutex.now) i.steps.0 o.0 (sight c.args.seat.now) (sight c.sends.seat) (sight c.send_oldest_without_waking-answer.new.seat) i.steps.1 o.1))

pub returns-in-None-clause-sends : goal.returns-in-None-clause-sends
returns-in-None-clause-sends g c = let i = c.sends.invariant in let o = c.send_oldest_without_waking-answer in let is : o.result.0 ≡ Ok None = search rules in
    subst (λ z. SendsAll (limits_of c.args.mutex.now).seats (sight c.args.seat.now) z c.args.waiters.now c.send_oldest_without_waking-answer.new.waiters (Ok c.sends.sent)) (sym c.hold_back-held.ensures.same)
    (all_sent (limits_of c.args.mutex.now).seats c.sends.sent i.gone.0 (sight c.args.seat.now) (sight c.sends.seat) (sight c.send_oldest_without_waking-answer.new.seat) c.args.waiters.now c.sends.waiters c.send_oldest_without_waking-answer.new.waiters i.gone.1 i.gone.2 i.gone.3 c.requires.awake (rw is at o.ensures.sends))

pub returns-in-Err-clause-wakes : goal.returns-in-Err-clause-wakes
returns-in-Err-clause-wakes g c = let i = c.sends.invariant in let o = c.send_oldest_without_waking-answer in let b = c.hold_back-held in
    held_more (limits_of c.args.mutex.now).seats c.sends.held o.result.1 b.result c.args.seat.now c.sends.seat o.new.seat b.new.seat b.ensures.later i.wakes o.ensures.woken o.ensures.wakes b.ensures.woken b.ensures.same

pub returns-in-None-clause-wakes : goal.returns-in-None-clause-wakes
returns-in-None-clause-wakes g c = let i = c.sends.invariant in let o = c.send_oldest_without_waking-answer in let b = c.hold_back-held in
    held_more (limits_of c.args.mutex.now).seats c.sends.held o.result.1 b.result c.args.seat.now c.sends.seat o.new.seat b.new.seat b.ensures.later i.wakes o.ensures.woken o.ensures.wakes b.ensures.woken b.ensures.same

pub returns-in-Err-clause-follows : goal.returns-in-Err-clause-follows
returns-in-Err-clause-follows g c s = let o = c.send_oldest_without_waking-answer in follows_more s c.args.waiters.now c.sends.waiters o.new.waiters (c.sends.invariant.follows s) (o.ensures.follows s)
