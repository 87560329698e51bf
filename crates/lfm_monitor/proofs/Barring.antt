-- A wait that the pass may not make.
use Rattle.std.proofs.Common.{ℕ, List, Err, inl, refl}
use Rattle.lfm_model.specs.declared.refusals.Refusal.{Refusal}
use Rattle.lfm_protocol.specs.declared.limits.Limits.{Limits}
use Rattle.lfm_mutex.specs.calls.Sight.{Sight, WaitRefused as SeatWaitRefused}
use Rattle.lfm_condvar.specs.declared.cond_seat.CondSeat.{CondSeat}
use Rattle.lfm_monitor.specs.declared.journaled.Journaled.{Journaled}
use Rattle.lfm_monitor.specs.Conditions.{WaitEnds, WaitRefused}

module _ {O A R : Type 0} {K : _} where
  -- a refusal of the pass's seat is a refusal of the pass
  pub seat_barred : (share : ℕ) (s : Sight (Journaled O A R K)) (mine : ℕ) (r : Refusal) → SeatWaitRefused share s r → WaitRefused share s mine r
  seat_barred share s mine Refusal.Asleep h = h
  seat_barred share s mine Refusal.NotOwner h = h
  seat_barred share s mine Refusal.Nested h = h
  seat_barred share s mine Refusal.DepthFull h = absurd h
  seat_barred share s mine Refusal.Spent h = (h.0, h.1, inl h.2)
  seat_barred share s mine Refusal.NoSuchSeat h = absurd h
  seat_barred share s mine Refusal.NotWaiting h = absurd h
  seat_barred share s mine Refusal.Busy h = absurd h

  pub barred : (user own : Limits) (tries share count condition : ℕ) (cs : List CondSeat) (s : Sight (Journaled O A R K)) (mine : ℕ) (r : Refusal) → WaitRefused share s mine r → WaitEnds user own tries share count condition cs cs s s mine (Err r)
  barred user own tries share count condition cs s mine Refusal.Asleep h = (h, refl, refl)
  barred user own tries share count condition cs s mine Refusal.NotOwner h = (h, refl, refl)
  barred user own tries share count condition cs s mine Refusal.Nested h = (h, refl, refl)
  barred user own tries share count condition cs s mine Refusal.DepthFull h = (h, refl, refl)
  barred user own tries share count condition cs s mine Refusal.Spent h = (inl (h, refl), refl)
  barred user own tries share count condition cs s mine Refusal.NoSuchSeat h = absurd h
  barred user own tries share count condition cs s mine Refusal.NotWaiting h = (h, refl, refl)
  barred user own tries share count condition cs s mine Refusal.Busy h = absurd h
