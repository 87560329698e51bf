use Rattle.std.proofs.Common.{[], Ok, ap, inr, rules, subst, sym, ◌++◌, ◌∙◌, ◌∷◌, inl, refl}
use Rattle.lfm_protocol.specs.declared.answers.Call.{Call}
use Rattle.lfm_protocol.specs.declared.answers.Turn.TheVariants.{Refused}
use Rattle.lfm_protocol.specs.declared.answers.Why.{Why}
use Rattle.lfm_mutex.specs.calls.Sight.{Sight, sight, Receives}
use Rattle.lfm_mutex.specs.calls.Trails.{Makes}
use Rattle.lfm_mutex.proofs.runs.MadeCalls.{finds_none_more, refused_receive, first_receive}
use Rattle.lfm_mutex.proofs.runs.Woken.{polls_join, polls_none, may_poll}
use Rattle.lfm_table.proofs.tables.Actions.{run_next, run_same}
use Rattle.lfm_mutex.proofs.mutex.Mutex.receive_lock_within.Goals as goal

pub loop-init : goal.loop-init
loop-init g c = record { belongs = search rules; beside = search rules; woken = polls_none c.args.seat.now c.args.seat.now refl refl; run = run_same; seen = refl; received = ([], refl); first = inl refl; wake = search rules }

pub loop-preserved : goal.loop-preserved
loop-preserved g c = let i = c.loop.invariant in let s = c.try_receive.new.seat in
    let told = rw c.in-Ok-None.field-0-is at c.in-Ok-None.ensures.receives in
    let made = rw c.in-Ok-None.field-0-is at c.in-Ok-None.ensures.steps in
    let woken = polls_join c.args.seat.now c.loop.seat s i.woken (may_poll c.loop.seat s c.try_receive.ensures.woken) in
    record {
      belongs = search rules;
      beside = search rules;
      woken = (woken.0, c.await_grant-left.ensures ∙ woken.1, woken.2);
      run = run_next i.run c.try_receive.ensures.run;
      seen = search rules;
      received = (i.received.0 ++ sight s ∷ [], finds_none_more c.args.self.now.limits (sight c.args.seat.now) i.received.0 (sight c.loop.seat) (sight s) i.received.1 made);
      first = inr (ap (λ (z : Sight g.row.T.Denot). z.asleep) (sym i.seen) ∙ told.0, ap (λ (z : Sight g.row.T.Denot). z.in_call) (sym i.seen) ∙ told.1);
      wake = search rules;
    }

pub returns-in-Err-clause-steps : goal.returns-in-Err-clause-steps
returns-in-Err-clause-steps g c = let i = c.loop.invariant in let s = c.try_receive.new.seat in
    let told = refused_receive g.T.Kept.follows g.T.Kept.fits (sight c.loop.seat) (sight s) c.in-Err.refusal c.in-Err.ensures.receives in
    let same = first_receive (sight c.args.seat.now) (sight c.loop.seat) c.loop.seat.table_seat.place.me.0.trail i.first i.seen told.0 in
    subst (λ (z : Sight g.row.T.Denot). (cause : Why) × Makes c.args.self.now.limits Call.Receive z (sight s) (Refused cause)) same c.in-Err.ensures.steps

pub returns-in-Ok-Some-clause-receives : goal.returns-in-Ok-Some-clause-receives
returns-in-Ok-Some-clause-receives g c = let s = c.try_receive.new.seat in
    rw c.in-Ok-Some.field-0-is at (subst (λ (z : Sight g.row.T.Denot). Receives g.T.Kept.follows g.T.Kept.fits z (sight s) (Ok c.in-Ok-Some.field-0)) c.loop.invariant.seen c.in-Ok-Some.ensures.receives)

pub returns-in-Ok-Some-clause-steps : goal.returns-in-Ok-Some-clause-steps
returns-in-Ok-Some-clause-steps g c = let i = c.loop.invariant in (i.received.0, sight c.loop.seat, i.received.1, rw c.in-Ok-Some.field-0-is at c.in-Ok-Some.ensures.steps)

pub returns-in-Err-clause-woken : goal.returns-in-Err-clause-woken
returns-in-Err-clause-woken g c = polls_join c.args.seat.now c.loop.seat c.try_receive.new.seat c.loop.invariant.woken (may_poll c.loop.seat c.try_receive.new.seat c.try_receive.ensures.woken)

pub returns-in-Ok-Some-clause-woken : goal.returns-in-Ok-Some-clause-woken
returns-in-Ok-Some-clause-woken g c = polls_join c.args.seat.now c.loop.seat c.try_receive.new.seat c.loop.invariant.woken (may_poll c.loop.seat c.try_receive.new.seat c.try_receive.ensures.woken)

pub returns-in-Err-clause-run : goal.returns-in-Err-clause-run
returns-in-Err-clause-run g c = run_next c.loop.invariant.run c.try_receive.ensures.run

pub returns-in-Ok-Some-clause-run : goal.returns-in-Ok-Some-clause-run
returns-in-Ok-Some-clause-run g c = run_next c.loop.invariant.run c.try_receive.ensures.run
