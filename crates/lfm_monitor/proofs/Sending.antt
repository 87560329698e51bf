-- A pass that has sent others.
use Rattle.std.proofs.Common.{◌≡◌, ℕ, ◌++◌, ◌∷◌, [], List, false, Option, Some, None, Result, Ok, Err, sym, ◌∙◌, ap, subst, map}
use Rattle.lfm_model.specs.declared.refusals.Refusal.{Refusal}
use Rattle.lfm_protocol.specs.declared.limits.Limits.{Limits}
use Rattle.lfm_mutex.specs.calls.Trails.{Seen}
use Rattle.lfm_mutex.specs.calls.Sight.{Sight}
use Rattle.lfm_condvar.specs.declared.cond_seat.CondSeat.{CondSeat}
use Rattle.lfm_condvar.specs.declared.waiters.Waiter.{Waiter}
use Rattle.lfm_condvar.specs.declared.waiters.Waiters.{Waiters}
use Rattle.lfm_condvar.specs.Wakes.{OldestNotWaiting, SendsOldest, SendsAll, WakeOneEnds as CondWakeOneEnds, WakeAllEnds as CondWakeAllEnds}
use Rattle.lfm_monitor.specs.declared.journaled.Journaled.{Journaled}
use Rattle.lfm_monitor.specs.Conditions.{OnCondition, OnlySends, WakeOneEnds, WakeAllEnds}
use Rattle.lfm_monitor.specs.Passes.{PassKept, Began}

module _ {T : Type 0} where
  pub only : (s t : Sight T) (trail : List Seen) (sends : List ℕ) → t ≡ record s { trail = trail; sends = sends } → OnlySends s t
  only s t trail sends e = e ∙ ap (λ (u : Sight T). record s { trail = u.trail; sends = u.sends }) (sym e)

  not_waiting : (n : ℕ) (s t : Sight T) (v : Waiters) → OldestNotWaiting n s t v → OnlySends s t
  not_waiting n s t v h = only s t t.trail s.sends h.3.3

  sent_oldest : (n : ℕ) (s t : Sight T) (v w : Waiters) (r : Result (Option (ℕ × ℕ)) Refusal) → SendsOldest n s t v w r → OnlySends s t
  sent_oldest n s t v w (Ok None) h = only s t s.trail s.sends h.3
  sent_oldest n s t v w (Ok (Some p)) h = only s t t.trail (s.sends ++ p.0 ∷ []) h.2.3
  sent_oldest n s t v w (Err Refusal.Asleep) h = only s t s.trail s.sends h.2
  sent_oldest n s t v w (Err Refusal.NotOwner) h = absurd h
  sent_oldest n s t v w (Err Refusal.Nested) h = absurd h
  sent_oldest n s t v w (Err Refusal.DepthFull) h = absurd h
  sent_oldest n s t v w (Err Refusal.Spent) h = absurd h
  sent_oldest n s t v w (Err Refusal.NoSuchSeat) h = absurd h
  sent_oldest n s t v w (Err Refusal.NotWaiting) h = not_waiting n s t v h.1
  sent_oldest n s t v w (Err Refusal.Busy) h = absurd h

  sent_on : (s m t : Sight T) → OnlySends s m → OnlySends m t → OnlySends s t
  sent_on s m t a b = only s t t.trail t.sends (b ∙ ap (λ (u : Sight T). record u { trail = t.trail; sends = t.sends }) a)

  sent_all : (n : ℕ) (s t : Sight T) (v w : Waiters) (r : Result ℕ Refusal) → SendsAll n s t v w r → OnlySends s t
  sent_all n s t v w (Ok k) h = only s t t.trail (s.sends ++ map (λ (x : Waiter). x.seat) v.list.items) h.3
  sent_all n s t v w (Err Refusal.Asleep) h = absurd h
  sent_all n s t v w (Err Refusal.NotOwner) h = absurd h
  sent_all n s t v w (Err Refusal.Nested) h = absurd h
  sent_all n s t v w (Err Refusal.DepthFull) h = absurd h
  sent_all n s t v w (Err Refusal.Spent) h = absurd h
  sent_all n s t v w (Err Refusal.NoSuchSeat) h = absurd h
  sent_all n s t v w (Err Refusal.NotWaiting) h = sent_on s h.1 t (only s h.1 h.1.trail (s.sends ++ map (λ (x : Waiter). x.seat) h.0) h.3) (not_waiting n h.1 t w h.4)
  sent_all n s t v w (Err Refusal.Busy) h = absurd h

  -- what a wake changes in the user seat
  pub one_sent : (n : ℕ) (own : Limits) (tries : ℕ) (c d : Sight Waiters) (s t : Sight T) (r : Result (Option (ℕ × ℕ)) Refusal) → CondWakeOneEnds n own tries c d s t r → OnlySends s t
  one_sent n own tries c d s t (Ok x) h = sent_oldest n s t h.0 h.1 (Ok x) h.3
  one_sent n own tries c d s t (Err Refusal.Asleep) h = only s t s.trail s.sends h.2
  one_sent n own tries c d s t (Err Refusal.NotOwner) h = absurd h.3
  one_sent n own tries c d s t (Err Refusal.Nested) h = absurd h.3
  one_sent n own tries c d s t (Err Refusal.DepthFull) h = absurd h.3
  one_sent n own tries c d s t (Err Refusal.Spent) h = only s t s.trail s.sends h.3
  one_sent n own tries c d s t (Err Refusal.NoSuchSeat) h = absurd h.3
  one_sent n own tries c d s t (Err Refusal.NotWaiting) h = sent_oldest n s t h.0 h.1 (Err Refusal.NotWaiting) h.3
  one_sent n own tries c d s t (Err Refusal.Busy) h = absurd h.3

  pub all_sent : (n : ℕ) (own : Limits) (tries : ℕ) (c d : Sight Waiters) (s t : Sight T) (r : Result ℕ Refusal) → CondWakeAllEnds n own tries c d s t r → OnlySends s t
  all_sent n own tries c d s t (Ok k) h = sent_all n s t h.0 h.1 (Ok k) h.3
  all_sent n own tries c d s t (Err Refusal.Asleep) h = only s t s.trail s.sends h.2
  all_sent n own tries c d s t (Err Refusal.NotOwner) h = absurd h.3
  all_sent n own tries c d s t (Err Refusal.Nested) h = absurd h.3
  all_sent n own tries c d s t (Err Refusal.DepthFull) h = absurd h.3
  all_sent n own tries c d s t (Err Refusal.Spent) h = only s t s.trail s.sends h.3
  all_sent n own tries c d s t (Err Refusal.NoSuchSeat) h = absurd h.3
  all_sent n own tries c d s t (Err Refusal.NotWaiting) h = sent_all n s t h.0 h.1 (Err Refusal.NotWaiting) h.3
  all_sent n own tries c d s t (Err Refusal.Busy) h = absurd h.3

module _ {O A R : Type 0} {K : _} where
  -- a pass that has sent others still knows what it knew
  pub sent_kept : (s t : Sight (Journaled O A R K)) (seen mine : ℕ) → PassKept s seen mine → OnlySends s t → PassKept t seen mine
  sent_kept s t seen mine kept is = subst (λ (u : Sight (Journaled O A R K)). PassKept u seen mine) (sym is) record {
    there = kept.there;
    seated = kept.seated;
    free = kept.free;
    held = kept.held;
    left = kept.left;
    holds = λ v at. let h = kept.holds v at in record { mine_is = h.mine_is; taker = h.taker; fit = h.fit; follow = h.follow };
    sleeps = λ z. let q = kept.sleeps z in record { out = q.out; quiet = q.quiet; room = q.room };
  }

  pub sent_began : (opening : O) (seats share : ℕ) (s t : Sight (Journaled O A R K)) → Began opening seats share s → OnlySends s t → Began opening seats share t
  sent_began opening seats share s t of is = subst (λ (u : Sight (Journaled O A R K)). Began opening seats share u) (sym is) of

  -- how a wake of the monitor ends, from how the wake of the condition's condvar ended
  pub wakes_one : (n : ℕ) (own : Limits) (tries count condition : ℕ) (cs ds : List CondSeat) (s t : Sight (Journaled O A R K)) (r : Result (Option (ℕ × ℕ)) Refusal) → s.asleep ≡ false
      → OnCondition condition cs ds (λ c d. CondWakeOneEnds n own tries c d s t r) → WakeOneEnds n own tries count condition cs ds s t r
  wakes_one n own tries count condition cs ds s t (Ok x) awake h = h
  wakes_one n own tries count condition cs ds s t (Err Refusal.Asleep) awake h = absurd (let q = h.6.0 in cc)
  wakes_one n own tries count condition cs ds s t (Err Refusal.NotOwner) awake h = h
  wakes_one n own tries count condition cs ds s t (Err Refusal.Nested) awake h = h
  wakes_one n own tries count condition cs ds s t (Err Refusal.DepthFull) awake h = h
  wakes_one n own tries count condition cs ds s t (Err Refusal.Spent) awake h = h
  wakes_one n own tries count condition cs ds s t (Err Refusal.NoSuchSeat) awake h = absurd h.6.3
  wakes_one n own tries count condition cs ds s t (Err Refusal.NotWaiting) awake h = h
  wakes_one n own tries count condition cs ds s t (Err Refusal.Busy) awake h = h

  pub wakes_all : (n : ℕ) (own : Limits) (tries count condition : ℕ) (cs ds : List CondSeat) (s t : Sight (Journaled O A R K)) (r : Result ℕ Refusal) → s.asleep ≡ false
      → OnCondition condition cs ds (λ c d. CondWakeAllEnds n own tries c d s t r) → WakeAllEnds n own tries count condition cs ds s t r
  wakes_all n own tries count condition cs ds s t (Ok k) awake h = h
  wakes_all n own tries count condition cs ds s t (Err Refusal.Asleep) awake h = absurd (let q = h.6.0 in cc)
  wakes_all n own tries count condition cs ds s t (Err Refusal.NotOwner) awake h = h
  wakes_all n own tries count condition cs ds s t (Err Refusal.Nested) awake h = h
  wakes_all n own tries count condition cs ds s t (Err Refusal.DepthFull) awake h = h
  wakes_all n own tries count condition cs ds s t (Err Refusal.Spent) awake h = h
  wakes_all n own tries count condition cs ds s t (Err Refusal.NoSuchSeat) awake h = absurd h.6.3
  wakes_all n own tries count condition cs ds s t (Err Refusal.NotWaiting) awake h = h
  wakes_all n own tries count condition cs ds s t (Err Refusal.Busy) awake h = h
