-- A wake of a plain condition: it sends nobody.
use Rattle.std.proofs.Common.{◌≡◌, ℕ, false, List, [], Option, Result, Ok, Err, refl}
use Rattle.lfm_model.specs.declared.refusals.Refusal.{Refusal}
use Rattle.lfm_protocol.specs.declared.limits.Limits.{Limits}
use Rattle.lfm_mutex.specs.calls.Sight.{Sight}
use Rattle.lfm_condvar.specs.Wakes.{SendsBy}
use Rattle.lfm_plain_condvar.specs.declared.plain_seat.PlainSeat.{PlainSeat}
use Rattle.lfm_plain_condvar.specs.Wakes.{WakeAllEnds, WakeOneWithNumberEnds}
use Rattle.lfm_monitor.specs.declared.journaled.Journaled.{Journaled}
use Rattle.lfm_monitor.specs.PlainConditions.{OnPlain, PlainWakeAllEnds, PlainWakeOneEnds}

module _ {O A R : Type 0} {K : _} where
  -- how a wake of the monitor ends, from how the wake of the condition's condvar ended
  pub plain_wakes_one : (own : Limits) (tries count condition : ℕ) (cs ds : List PlainSeat) (s : Sight (Journaled O A R K)) (r : Result (Option (ℕ × ℕ)) Refusal) → s.asleep ≡ false
      → OnPlain condition cs ds (λ c d. WakeOneWithNumberEnds own tries c d r) → PlainWakeOneEnds own tries count condition cs ds s s r
  plain_wakes_one own tries count condition cs ds s (Ok x) awake h = (awake, h, refl)
  plain_wakes_one own tries count condition cs ds s (Err Refusal.Asleep) awake h = absurd h.6
  plain_wakes_one own tries count condition cs ds s (Err Refusal.NotOwner) awake h = (awake, h, refl)
  plain_wakes_one own tries count condition cs ds s (Err Refusal.Nested) awake h = (awake, h, refl)
  plain_wakes_one own tries count condition cs ds s (Err Refusal.DepthFull) awake h = (awake, h, refl)
  plain_wakes_one own tries count condition cs ds s (Err Refusal.Spent) awake h = (awake, h, refl)
  plain_wakes_one own tries count condition cs ds s (Err Refusal.NoSuchSeat) awake h = absurd h.6
  plain_wakes_one own tries count condition cs ds s (Err Refusal.NotWaiting) awake h = (awake, h, refl)
  plain_wakes_one own tries count condition cs ds s (Err Refusal.Busy) awake h = (awake, h, refl)

  pub sends_none_of_one : (user own : Limits) (tries count condition : ℕ) (cs ds : List PlainSeat) (s t : Sight (Journaled O A R K)) (r : Result (Option (ℕ × ℕ)) Refusal) → PlainWakeOneEnds own tries count condition cs ds s t r → SendsBy user s t r
  sends_none_of_one user own tries count condition cs ds s t (Ok x) h = ([], h.2)
  sends_none_of_one user own tries count condition cs ds s t (Err Refusal.Asleep) h = h.2
  sends_none_of_one user own tries count condition cs ds s t (Err Refusal.NotOwner) h = h.2
  sends_none_of_one user own tries count condition cs ds s t (Err Refusal.Nested) h = h.2
  sends_none_of_one user own tries count condition cs ds s t (Err Refusal.DepthFull) h = h.2
  sends_none_of_one user own tries count condition cs ds s t (Err Refusal.Spent) h = h.2
  sends_none_of_one user own tries count condition cs ds s t (Err Refusal.NoSuchSeat) h = h.2
  sends_none_of_one user own tries count condition cs ds s t (Err Refusal.NotWaiting) h = absurd h.1.6
  sends_none_of_one user own tries count condition cs ds s t (Err Refusal.Busy) h = h.2

  pub plain_wakes_all : (own : Limits) (tries count condition : ℕ) (cs ds : List PlainSeat) (s : Sight (Journaled O A R K)) (r : Result ℕ Refusal) → s.asleep ≡ false
      → OnPlain condition cs ds (λ c d. WakeAllEnds own tries c d r) → PlainWakeAllEnds own tries count condition cs ds s s r
  plain_wakes_all own tries count condition cs ds s (Ok x) awake h = (awake, h, refl)
  plain_wakes_all own tries count condition cs ds s (Err Refusal.Asleep) awake h = absurd h.6
  plain_wakes_all own tries count condition cs ds s (Err Refusal.NotOwner) awake h = (awake, h, refl)
  plain_wakes_all own tries count condition cs ds s (Err Refusal.Nested) awake h = (awake, h, refl)
  plain_wakes_all own tries count condition cs ds s (Err Refusal.DepthFull) awake h = (awake, h, refl)
  plain_wakes_all own tries count condition cs ds s (Err Refusal.Spent) awake h = (awake, h, refl)
  plain_wakes_all own tries count condition cs ds s (Err Refusal.NoSuchSeat) awake h = absurd h.6
  plain_wakes_all own tries count condition cs ds s (Err Refusal.NotWaiting) awake h = (awake, h, refl)
  plain_wakes_all own tries count condition cs ds s (Err Refusal.Busy) awake h = (awake, h, refl)

  pub sends_none_of_all : (user own : Limits) (tries count condition : ℕ) (cs ds : List PlainSeat) (s t : Sight (Journaled O A R K)) (r : Result ℕ Refusal) → PlainWakeAllEnds own tries count condition cs ds s t r → SendsBy user s t r
  sends_none_of_all user own tries count condition cs ds s t (Ok x) h = ([], h.2)
  sends_none_of_all user own tries count condition cs ds s t (Err Refusal.Asleep) h = h.2
  sends_none_of_all user own tries count condition cs ds s t (Err Refusal.NotOwner) h = h.2
  sends_none_of_all user own tries count condition cs ds s t (Err Refusal.Nested) h = h.2
  sends_none_of_all user own tries count condition cs ds s t (Err Refusal.DepthFull) h = h.2
  sends_none_of_all user own tries count condition cs ds s t (Err Refusal.Spent) h = h.2
  sends_none_of_all user own tries count condition cs ds s t (Err Refusal.NoSuchSeat) h = h.2
  sends_none_of_all user own tries count condition cs ds s t (Err Refusal.NotWaiting) h = absurd h.1.6
  sends_none_of_all user own tries count condition cs ds s t (Err Refusal.Busy) h = h.2
