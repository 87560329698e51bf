use Rattle.std.proofs.Common.{◌≡◌, ℕ, zero, suc, true, false, Result, inl, inr, refl, sym, subst, ◌∙◌, ap}
use Rattle.std.specs.Fn.{FnReturnsAt}
use Rattle.lfm_model.specs.declared.answers.How.{How}
use Rattle.lfm_model.specs.declared.refusals.Refusal.{Refusal}
use Rattle.lfm_plain_condvar.specs.declared.wait_for.Waited.{Waited}
use Rattle.lfm_monitor.specs.Belongs.{cond_seats_of, mine_of, pass_sight, plain_seats_of, seen_of, share_of}
use Rattle.lfm_monitor.specs.PlainConditions.{ticket_in}
use Rattle.lfm_monitor.specs.PlainSeats.{PlainSeatsWokenAsGranted}
use Rattle.lfm_monitor.specs.TimedTries.{FailedTriesWithin, ApplyUntilForEnds}
use Rattle.lfm_monitor.proofs.Trying.{applied_depth, handed_on, waited_depth}
use Rattle.lfm_monitor.proofs.UsedPlainConditions.{plain_woken_join, plain_woken_none}
use Rattle.lfm_mutex.proofs.runs.Woken.{polls_join, polls_none, may_poll}
use Rattle.lfm_mutex.proofs.runs.RunGoesOn.{run_next, run_same}
use Rattle.lfm_monitor.proofs.monitor.Monitor.apply_until_for.Goals as goal

pub tries-init : goal.tries-init
tries-init g c = let b = c.args.pass.now in
    record { belongs = c.requires.belongs; run = run_same; woken = polls_none b.seat b.seat refl refl; plain_woken = plain_woken_none (plain_seats_of b) (plain_seats_of b) refl; morphing = refl; depth = refl; number = refl; tries = (zero, (refl, refl)) }

-- one more try failed
pub tries-preserved : goal.tries-preserved
tries-preserved g c = let i = c.tries.invariant in let a = c.in_ok-reply.ensures in let b = c.args.pass.now in let l = c.tries.pass in let p = c.apply.new.pass in let w = c.in_ok-_how.ensures in let q = c.wait_within.new.pass in let r : How × Waited = (c.in_ok-_how._how, c.in_ok-_how.waited) in record {
  belongs = w.belongs;
  depth = waited_depth (r.0, ticket_in r.1) (pass_sight p) (pass_sight q) (seen_of p) (seen_of q) (mine_of p) (mine_of q) w.returns
      ∙ (applied_depth g.O.Object.after g.O.Object.reply (share_of c.args.self.now) c.args.op c.in_ok-reply.reply (pass_sight l) (pass_sight p) (mine_of l) (mine_of p) a.applies ∙ i.depth);
  number = w.number ∙ (a.number ∙ i.number);
  run = run_next i.run (run_next a.run w.run);
  woken = polls_join b.seat l.seat q.seat i.woken (polls_join l.seat p.seat q.seat (may_poll l.seat p.seat a.woken) w.woken);
  plain_woken = plain_woken_join (plain_seats_of b) (plain_seats_of p) (plain_seats_of q) (subst (PlainSeatsWokenAsGranted (plain_seats_of b)) (sym a.conditions.1) i.plain_woken) w.plain_woken;
  morphing = w.morphing ∙ (a.conditions.0 ∙ i.morphing);
  tries = (
    suc i.tries.0,
    (
      l,
      subst (FailedTriesWithin g.O.Object.after g.O.Object.reply c.args.self.now c.args.condition c.args.op (λ r b. FnReturnsAt g.F.Fn c.args.done r b) i.tries.0 b l) c.if-is_over.false i.tries.1,
      record {
        tried = p;
        replied = c.in_ok-reply.reply;
        waited = r;
        tries = (a.applies, a.seen, a.conditions);
        other = subst (λ b. FnReturnsAt g.F.Fn c.args.done c.in_ok-reply.reply b) c.if-accepts.false c.accepts.ensures;
        waits = (w.waits, w.returns);
        ends = c.timed_out-is_over.ensures;
      },
    ),
  );
}

pub returns-then-accepts : goal.returns-then-accepts
returns-then-accepts g c = let i = c.tries.invariant in let a = c.in_ok-reply.ensures in let b = c.args.pass.now in let l = c.tries.pass in let p = c.apply.new.pass in record {
  belongs = a.belongs;
  number = a.number ∙ i.number;
  run = run_next i.run a.run;
  woken = polls_join b.seat l.seat p.seat i.woken (may_poll l.seat p.seat a.woken);
  plain_woken = subst (PlainSeatsWokenAsGranted (plain_seats_of b)) (sym a.conditions.1) i.plain_woken;
  morphing = a.conditions.0 ∙ i.morphing;
  done = subst (λ b. FnReturnsAt g.F.Fn c.args.done c.in_ok-reply.reply b) c.if-accepts.true c.accepts.ensures;
  applied = (l, i.belongs, (a.applies, a.seen, a.conditions));
  depth = applied_depth g.O.Object.after g.O.Object.reply (share_of c.args.self.now) c.args.op c.in_ok-reply.reply (pass_sight l) (pass_sight p) (mine_of l) (mine_of p) a.applies ∙ i.depth;
  tries = (i.tries.0, c.tries.is_over, l, i.belongs, i.tries.1, ((a.applies, a.seen, a.conditions), subst (λ b. FnReturnsAt g.F.Fn c.args.done c.in_ok-reply.reply b) c.if-accepts.true c.accepts.ensures));
}

pub returns-then-is_over : goal.returns-then-is_over
returns-then-is_over g c = let i = c.tries.invariant in let a = c.in_ok-reply.ensures in let b = c.args.pass.now in let l = c.tries.pass in let p = c.apply.new.pass in record {
  belongs = a.belongs;
  number = a.number ∙ i.number;
  run = run_next i.run a.run;
  woken = polls_join b.seat l.seat p.seat i.woken (may_poll l.seat p.seat a.woken);
  plain_woken = subst (PlainSeatsWokenAsGranted (plain_seats_of b)) (sym a.conditions.1) i.plain_woken;
  morphing = a.conditions.0 ∙ i.morphing;
  done = subst (λ b. FnReturnsAt g.F.Fn c.args.done c.in_ok-reply.reply b) c.if-accepts.false c.accepts.ensures;
  applied = (l, i.belongs, (a.applies, a.seen, a.conditions));
  depth = applied_depth g.O.Object.after g.O.Object.reply (share_of c.args.self.now) c.args.op c.in_ok-reply.reply (pass_sight l) (pass_sight p) (mine_of l) (mine_of p) a.applies ∙ i.depth;
  tries = (i.tries.0, c.tries.is_over, l, i.belongs, i.tries.1, ((a.applies, a.seen, a.conditions), subst (λ b. FnReturnsAt g.F.Fn c.args.done c.in_ok-reply.reply b) c.if-accepts.false c.accepts.ensures, c.if-is_over.true));
}

pub returns-in_err-reply-clause-run : goal.returns-in_err-reply-clause-run
returns-in_err-reply-clause-run g c = run_next c.tries.invariant.run c.apply.ensures.run

pub returns-in_err-reply-clause-woken : goal.returns-in_err-reply-clause-woken
returns-in_err-reply-clause-woken g c = polls_join c.args.pass.now.seat c.tries.pass.seat c.apply.new.pass.seat c.tries.invariant.woken (may_poll c.tries.pass.seat c.apply.new.pass.seat c.apply.ensures.woken)

pub returns-in_err-reply-clause-plain_woken : goal.returns-in_err-reply-clause-plain_woken
returns-in_err-reply-clause-plain_woken g c = subst (PlainSeatsWokenAsGranted (plain_seats_of c.args.pass.now)) (sym c.in_err-reply.ensures.conditions.1) c.tries.invariant.plain_woken

pub returns-in_err-reply-clause-tries : goal.returns-in_err-reply-clause-tries
returns-in_err-reply-clause-tries g c = let i = c.tries.invariant in let a = c.in_err-reply.ensures in
    handed_on (λ (q : Result _ Refusal). ApplyUntilForEnds g.O.Object.after g.O.Object.reply c.args.self.now c.args.condition c.args.op (λ r b. FnReturnsAt g.F.Fn c.args.done r b) c.args.pass.now c.apply.new.pass q) _ _ c.from_residual.ensures.1
    (i.tries.0, c.tries.is_over, c.tries.pass, i.belongs, i.tries.1, inl (a.applies, a.seen, a.conditions))

pub returns-in_err-_how-clause-run : goal.returns-in_err-_how-clause-run
returns-in_err-_how-clause-run g c = run_next (run_next c.tries.invariant.run c.apply.ensures.run) c.wait_within.ensures.run

pub returns-in_err-_how-clause-woken : goal.returns-in_err-_how-clause-woken
returns-in_err-_how-clause-woken g c = polls_join c.args.pass.now.seat c.apply.new.pass.seat c.wait_within.new.pass.seat (polls_join c.args.pass.now.seat c.tries.pass.seat c.apply.new.pass.seat c.tries.invariant.woken (may_poll c.tries.pass.seat c.apply.new.pass.seat c.apply.ensures.woken)) c.wait_within.ensures.woken

pub returns-in_err-_how-clause-plain_woken : goal.returns-in_err-_how-clause-plain_woken
returns-in_err-_how-clause-plain_woken g c = let p = plain_seats_of c.args.pass.now in let q = plain_seats_of c.apply.new.pass in
    plain_woken_join p q (plain_seats_of c.wait_within.new.pass) (subst (PlainSeatsWokenAsGranted p) (sym c.in_ok-reply.ensures.conditions.1) c.tries.invariant.plain_woken) c.in_err-_how.ensures.plain_woken

pub returns-in_err-_how-clause-tries : goal.returns-in_err-_how-clause-tries
returns-in_err-_how-clause-tries g c = let i = c.tries.invariant in let a = c.in_ok-reply.ensures in let w = c.in_err-_how.ensures in
    let other = subst (λ b. FnReturnsAt g.F.Fn c.args.done c.in_ok-reply.reply b) c.if-accepts.false c.accepts.ensures in
    handed_on (λ (q : Result _ Refusal). ApplyUntilForEnds g.O.Object.after g.O.Object.reply c.args.self.now c.args.condition c.args.op (λ r b. FnReturnsAt g.F.Fn c.args.done r b) c.args.pass.now c.wait_within.new.pass q) _ _ c.from_residual-in_err-_how.ensures.1
    (i.tries.0, c.tries.is_over, c.tries.pass, i.belongs, i.tries.1, inr (c.apply.new.pass, c.in_ok-reply.reply, (a.applies, a.seen, a.conditions), other, c.if-is_over.false, (w.waits, w.returns)))
