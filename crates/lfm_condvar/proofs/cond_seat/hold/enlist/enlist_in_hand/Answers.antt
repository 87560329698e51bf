use Rattle.std.proofs.Common.{◌≡◌, ◌≤◌, ◌+◌, ℕ, Result, sym, subst, slice_index}
use Rattle.std.specs.Prelude.{IfOk}
use Rattle.lfm_model.specs.declared.refusals.Refusal.{Refusal}
use Rattle.lfm_mutex.specs.Belongs.{limits_of}
use Rattle.lfm_mutex.specs.calls.Sight.{sight}
use Rattle.lfm_condvar.specs.Keeping.{WaitersFollow}
use Rattle.lfm_condvar.specs.Waits.{Enlists}
use Rattle.lfm_condvar.proofs.Enlisted.{counted_once}
use Rattle.lfm_condvar.proofs.cond_seat.hold.enlist.enlist_in_hand.Goals as goal

pub enlist_without_waking-ticket-requires-clause-by : goal.enlist_without_waking-ticket-requires-clause-by
enlist_without_waking-ticket-requires-clause-by g c κs within = rw c.number-by.ensures (c.requires.may c.in-Some.waiters.now c.in-Some.ensures.value.1)

pub returns-clause-belongs : goal.returns-clause-belongs
returns-clause-belongs g c = let h = rw c.in-Some.is at (c.value_mut.follows.holds c.enlist_without_waking-ticket.new.waiters) in ((cc, cc), c.enlist_without_waking-ticket.ensures.belongs)

pub returns-clause-enlists : goal.returns-clause-enlists
returns-clause-enlists g c = let h = rw c.in-Some.is at (c.value_mut.follows.holds c.enlist_without_waking-ticket.new.waiters) in let v = c.in-Some.waiters.now in let w = c.enlist_without_waking-ticket.new.waiters in
    let by = c.number-by.result in let e = c.enlist_without_waking-ticket.ensures in let m = c.requires.may v c.in-Some.ensures.value.1 in
    let high : by ≤ v.seats = rw c.number-by.ensures m.0 in
    let few = counted_once (limits_of c.args.mutex.now) by (sight c.args.seat.now) (sight c.enlist_without_waking-ticket.new.seat) v w c.enlist_without_waking-ticket.result.0 high e.enlists in (
      v,
      w,
      (c.in-Some.ensures.value.1, h.0, subst (λ (i : ℕ). WaitersFollow i v w) c.number-by.ensures e.follows, subst (λ (i : ℕ). slice_index w.counts.items i ≤ slice_index v.counts.items i + 1) c.number-by.ensures few),
      subst (λ (r : Result ℕ Refusal). Enlists (limits_of c.args.mutex.now) (sight c.args.cond.now).number (sight c.args.seat.now) (sight c.enlist_without_waking-ticket.new.seat) v w r) (sym c.with_ahead.ensures.ticket)
          (subst (λ (i : ℕ). Enlists (limits_of c.args.mutex.now) i (sight c.args.seat.now) (sight c.enlist_without_waking-ticket.new.seat) v w c.enlist_without_waking-ticket.result.0) c.number-by.ensures e.enlists),
      subst (λ (n : ℕ). IfOk c.with_ahead.result (λ x. x.ahead ≡ n)) c.waiting-ahead.ensures c.with_ahead.ensures.ahead,
    )

pub returns-clause-cond_woken : goal.returns-clause-cond_woken
returns-clause-cond_woken g c = let h = rw c.in-Some.is at (c.value_mut.follows.holds c.enlist_without_waking-ticket.new.waiters) in h.5
