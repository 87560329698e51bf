use Rattle.std.proofs.Common.{zero, suc, Result, inl, inr, refl, sym, subst, ◌∙◌}
use Rattle.std.specs.Fn.{FnReturnsAt}
use Rattle.lfm_model.specs.declared.refusals.Refusal.{Refusal}
use Rattle.lfm_monitor.specs.Belongs.{cond_seats_of, mine_of, pass_sight, plain_seats_of, seen_of, share_of}
use Rattle.lfm_monitor.specs.Tries.{ApplyUntilEnds}
use Rattle.lfm_monitor.proofs.Trying.{applied_depth, handed_on, waited_depth}
use Rattle.lfm_mutex.proofs.runs.Woken.{polls_join, polls_none, may_poll}
use Rattle.lfm_monitor.specs.CondSeats.{CondsWokenAsGranted}
use Rattle.lfm_monitor.specs.PlainSeats.{PlainSeatsWokenAsGranted}
use Rattle.lfm_monitor.proofs.UsedConditions.{conds_woken_join, conds_woken_none}
use Rattle.lfm_monitor.proofs.UsedPlainConditions.{plain_woken_join, plain_woken_none}
use Rattle.lfm_mutex.proofs.runs.RunGoesOn.{run_next, run_same}
use Rattle.lfm_monitor.proofs.monitor.Monitor.apply_until.Goals as goal

pub returns-in_err-reply-clause-run : goal.returns-in_err-reply-clause-run
returns-in_err-reply-clause-run g c = run_next c.tries.invariant.run c.apply.ensures.run

pub returns-then-accepts-clause-run : goal.returns-then-accepts-clause-run
returns-then-accepts-clause-run g c = run_next c.tries.invariant.run c.apply.ensures.run

pub returns-in_err-_waited-clause-run : goal.returns-in_err-_waited-clause-run
returns-in_err-_waited-clause-run g c = run_next (run_next c.tries.invariant.run c.apply.ensures.run) c.wait.ensures.run

pub tries-init : goal.tries-init
tries-init g c = record { belongs = c.requires.belongs; run = run_same; woken = polls_none c.args.pass.now.seat c.args.pass.now.seat refl refl; cond_woken = conds_woken_none (cond_seats_of c.args.pass.now) (cond_seats_of c.args.pass.now) refl; plain_woken = plain_woken_none (plain_seats_of c.args.pass.now) (plain_seats_of c.args.pass.now) refl; depth = refl; number = refl; tries = (zero, refl) }

-- one more try failed
pub tries-preserved : goal.tries-preserved
tries-preserved g c = let i = c.tries.invariant in let a = c.in_ok-reply.ensures in let w = c.in_ok-_waited.ensures in let l = c.tries.pass in let p = c.apply.new.pass in let q = c.wait.new.pass in record {
  belongs = w.belongs;
  depth = waited_depth c.in_ok-_waited._waited (pass_sight p) (pass_sight q) (seen_of p) (seen_of q) (mine_of p) (mine_of q) w.returns
      ∙ (applied_depth g.O.Object.after g.O.Object.reply (share_of c.args.self.now) c.args.op c.in_ok-reply.reply (pass_sight l) (pass_sight p) (mine_of l) (mine_of p) a.applies ∙ i.depth);
  number = w.number ∙ (a.number ∙ i.number);
  run = run_next i.run (run_next a.run w.run);
  woken = polls_join c.args.pass.now.seat l.seat q.seat i.woken (polls_join l.seat p.seat q.seat (may_poll l.seat p.seat a.woken) w.woken);
  cond_woken = conds_woken_join (cond_seats_of c.args.pass.now) (cond_seats_of p) (cond_seats_of q) (subst (CondsWokenAsGranted (cond_seats_of c.args.pass.now)) (sym a.conditions.0) i.cond_woken) w.cond_woken;
  plain_woken = plain_woken_join (plain_seats_of c.args.pass.now) (plain_seats_of p) (plain_seats_of q) (subst (PlainSeatsWokenAsGranted (plain_seats_of c.args.pass.now)) (sym a.conditions.1) i.plain_woken) w.plain_woken;
  tries = (
    suc i.tries.0,
    (
      l,
      i.tries.1,
      record {
        tried = p;
        replied = c.in_ok-reply.reply;
        waited = c.in_ok-_waited._waited;
        tries = (a.applies, a.seen, a.conditions);
        other = subst (λ b. FnReturnsAt g.F.Fn c.args.done c.in_ok-reply.reply b) c.if-accepts.false c.accepts.ensures;
        waits = (w.waits, w.plain_waits, w.returns);
      },
    ),
  );
}

pub returns-in_err-reply-clause-tries : goal.returns-in_err-reply-clause-tries
returns-in_err-reply-clause-tries g c = let i = c.tries.invariant in let a = c.in_err-reply.ensures in
    handed_on (λ (q : Result _ Refusal). ApplyUntilEnds g.O.Object.after g.O.Object.reply c.args.self.now c.args.condition c.args.op (λ r b. FnReturnsAt g.F.Fn c.args.done r b) c.args.pass.now c.apply.new.pass q) _ _ c.from_residual.ensures.1
    (i.tries.0, c.tries.pass, i.belongs, i.tries.1, inl (a.applies, a.seen, a.conditions))

pub returns-in_err-_waited-clause-tries : goal.returns-in_err-_waited-clause-tries
returns-in_err-_waited-clause-tries g c = let i = c.tries.invariant in let a = c.in_ok-reply.ensures in let w = c.in_err-_waited.ensures in
    let other = subst (λ b. FnReturnsAt g.F.Fn c.args.done c.in_ok-reply.reply b) c.if-accepts.false c.accepts.ensures in
    handed_on (λ (q : Result _ Refusal). ApplyUntilEnds g.O.Object.after g.O.Object.reply c.args.self.now c.args.condition c.args.op (λ r b. FnReturnsAt g.F.Fn c.args.done r b) c.args.pass.now c.wait.new.pass q) _ _ c.from_residual-in_err-_waited.ensures.1
    (i.tries.0, c.tries.pass, i.belongs, i.tries.1, inr (c.apply.new.pass, c.in_ok-reply.reply, (a.applies, a.seen, a.conditions), other, (w.waits, w.plain_waits, w.returns)))

pub returns-then-accepts-clause-applied : goal.returns-then-accepts-clause-applied
returns-then-accepts-clause-applied g c = let a = c.in_ok-reply.ensures in (c.tries.pass, c.tries.invariant.belongs, (a.applies, a.seen, a.conditions))

pub returns-then-accepts-clause-tries : goal.returns-then-accepts-clause-tries
returns-then-accepts-clause-tries g c = let i = c.tries.invariant in let a = c.in_ok-reply.ensures in
    (i.tries.0, c.tries.pass, i.belongs, i.tries.1, ((a.applies, a.seen, a.conditions), subst (λ b. FnReturnsAt g.F.Fn c.args.done c.in_ok-reply.reply b) c.if-accepts.true c.accepts.ensures))

pub returns-in_err-reply-clause-woken : goal.returns-in_err-reply-clause-woken
returns-in_err-reply-clause-woken g c = polls_join c.args.pass.now.seat c.tries.pass.seat c.apply.new.pass.seat c.tries.invariant.woken (may_poll c.tries.pass.seat c.apply.new.pass.seat c.apply.ensures.woken)

pub returns-then-accepts-clause-woken : goal.returns-then-accepts-clause-woken
returns-then-accepts-clause-woken g c = polls_join c.args.pass.now.seat c.tries.pass.seat c.apply.new.pass.seat c.tries.invariant.woken (may_poll c.tries.pass.seat c.apply.new.pass.seat c.apply.ensures.woken)

pub returns-in_err-_waited-clause-woken : goal.returns-in_err-_waited-clause-woken
returns-in_err-_waited-clause-woken g c = polls_join c.args.pass.now.seat c.apply.new.pass.seat c.wait.new.pass.seat (polls_join c.args.pass.now.seat c.tries.pass.seat c.apply.new.pass.seat c.tries.invariant.woken (may_poll c.tries.pass.seat c.apply.new.pass.seat c.apply.ensures.woken)) c.wait.ensures.woken

pub returns-in_err-reply-clause-cond_woken : goal.returns-in_err-reply-clause-cond_woken
returns-in_err-reply-clause-cond_woken g c = subst (CondsWokenAsGranted (cond_seats_of c.args.pass.now)) (sym c.in_err-reply.ensures.conditions.0) c.tries.invariant.cond_woken

pub returns-then-accepts-clause-cond_woken : goal.returns-then-accepts-clause-cond_woken
returns-then-accepts-clause-cond_woken g c = subst (CondsWokenAsGranted (cond_seats_of c.args.pass.now)) (sym c.in_ok-reply.ensures.conditions.0) c.tries.invariant.cond_woken

pub returns-in_err-_waited-clause-cond_woken : goal.returns-in_err-_waited-clause-cond_woken
returns-in_err-_waited-clause-cond_woken g c = let p = cond_seats_of c.args.pass.now in let q = cond_seats_of c.apply.new.pass in
    conds_woken_join p q (cond_seats_of c.wait.new.pass) (subst (CondsWokenAsGranted p) (sym c.in_ok-reply.ensures.conditions.0) c.tries.invariant.cond_woken) c.in_err-_waited.ensures.cond_woken

pub returns-in_err-reply-clause-plain_woken : goal.returns-in_err-reply-clause-plain_woken
returns-in_err-reply-clause-plain_woken g c = subst (PlainSeatsWokenAsGranted (plain_seats_of c.args.pass.now)) (sym c.in_err-reply.ensures.conditions.1) c.tries.invariant.plain_woken

pub returns-then-accepts-clause-plain_woken : goal.returns-then-accepts-clause-plain_woken
returns-then-accepts-clause-plain_woken g c = subst (PlainSeatsWokenAsGranted (plain_seats_of c.args.pass.now)) (sym c.in_ok-reply.ensures.conditions.1) c.tries.invariant.plain_woken

pub returns-in_err-_waited-clause-plain_woken : goal.returns-in_err-_waited-clause-plain_woken
returns-in_err-_waited-clause-plain_woken g c = let p = plain_seats_of c.args.pass.now in let q = plain_seats_of c.apply.new.pass in
    plain_woken_join p q (plain_seats_of c.wait.new.pass) (subst (PlainSeatsWokenAsGranted p) (sym c.in_ok-reply.ensures.conditions.1) c.tries.invariant.plain_woken) c.in_err-_waited.ensures.plain_woken
