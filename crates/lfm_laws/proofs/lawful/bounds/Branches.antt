-- A fact about points after a step or a start of a call with branches: it holds if it holds for each branch.
use Rattle.std.proofs.Common.{ℕ, Bool, true, false, if◌then◌else◌, inl, inr}
use Rattle.std.proofs.lemmas.Bool.{cases_Bool}
use Rattle.lfm_model.specs.declared.answers.Unlocked.{Unlocked}
use Rattle.lfm_protocol.specs.declared.answers.Call.{Call}
use Rattle.lfm_protocol.specs.declared.points.Carrier.{Carrier}
use Rattle.lfm_protocol.specs.declared.points.Point.{Point}
use Rattle.lfm_protocol.specs.declared.points.Point.TheVariants.{Rest, Asleep, WaitWakeStore, ReceiveWakeStore}
use Rattle.lfm_protocol.specs.declared.points.Releaser.{Releaser}
use Rattle.lfm_protocol.specs.declared.points.Releaser.TheVariants.{Unlocker, Waiter}
use Rattle.lfm_protocol.specs.declared.points.Sleeper.{Sleeper}
use Rattle.lfm_protocol.specs.declared.seats.SeatState.{SeatState}
use Rattle.lfm_words.specs.declared.pop_lists.Record.{Record}
use Rattle.lfm_words.specs.declared.wakes.Wake.{Wake}
use Rattle.lfm_words.specs.declared.wakes.Wake.TheVariants.{Grant}
use Rattle.lfm_protocol.specs.After.{receives, releases, granted}
use Rattle.lfm_protocol.specs.Begin as Begin
use Rattle.lfm_protocol.specs.Begin.{Stepped}
use Rattle.lfm_protocol.specs.Core.{Core, limits}
use Rattle.lfm_protocol.specs.Seats.{seat, is_seat}
use Rattle.lfm_protocol.specs.Step.{begin}
use Rattle.lfm_laws.proofs.steady.frames.Entries.{seat-with_same}
use Rattle.lfm_laws.proofs.steady.frames.Seated.{seat_of_test}

module _ (P : Point → Type 0) where
  pub of_points : (b : Bool) (p q : Point) → P p → P q → P (if b then p else q)
  of_points true p q first second = first
  of_points false p q first second = second

  pub of_turns : (b : Bool) (x y : Stepped) → P x.seat.point → P y.seat.point → P (if b then x else y).seat.point
  of_turns true x y first second = first
  of_turns false x y first second = second

  pub of_release : (x : SeatState) (releaser : Releaser) (answer : Unlocked) → P Rest → P (WaitWakeStore answer) → P (releases x releaser answer).seat.point
  of_release x Unlocker answer rests waits = rests
  of_release x Waiter answer rests waits = waits

  pub of_granted : (x : SeatState) (carrier : Carrier) (r : Record) → P Rest → ((sleeper : Sleeper) → P (Asleep sleeper)) → ((answer : Unlocked) → P (WaitWakeStore answer))
      → P (granted x carrier r).seat.point
  of_granted x Carrier.Locker r rests sleeps waits = sleeps Sleeper.Locker
  of_granted x (Carrier.Releaser releaser) r rests sleeps waits = of_release x releaser (Unlocked.Granted r.seat) rests (waits (Unlocked.Granted r.seat))
  of_granted x (Carrier.Reclaimer releaser) r rests sleeps waits = of_release x releaser (Unlocked.Granted r.seat) rests (waits (Unlocked.Granted r.seat))
  of_granted x Carrier.Sender r rests sleeps waits = rests

  pub of_received : (x : SeatState) (sleeper : Sleeper) (w : Wake) → ((stamp : ℕ) → P (ReceiveWakeStore stamp)) → P (Asleep sleeper) → P (receives x sleeper w).seat.point
  of_received x sleeper (Grant stamp) goes sleeps = goes stamp
  of_received x sleeper _ goes sleeps = sleeps

  -- after the start of a call a seat has the new point; a number that no seat has keeps the old one
  pub of_begin : (c : Core) (s : ℕ) (call : Call) → P (seat c.seats s).point → P (Begin.begin (seat c.seats s) (limits c) call).seat.point
      → P (seat (begin c s call).core.seats s).point
  of_begin c s call before after =
      elim (cases_Bool (is_seat c.seats s)) [
        | inl is ↦ rw (is, seat-with_same c.seats s (Begin.begin (seat c.seats s) (limits c) call).seat (seat_of_test c.seats s is)) after
        | inr none ↦ rw none before
      ]
