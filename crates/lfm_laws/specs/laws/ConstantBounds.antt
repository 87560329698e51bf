-- Wait-free tries and receives: constant bounds on the steps of these calls, whatever the number of seats. Each law here is a
-- clause of a public function of `lfm_laws`.
use Rattle.std.specs.Prelude.{◌≡◌, ℕ, false, ◌≤◌, List}
use Rattle.lfm_protocol.specs.declared.answers.Call.TheVariants.{TryLock, Receive}
use Rattle.lfm_protocol.specs.Core.{Core}
use Rattle.lfm_protocol.specs.Seats.{seat}
use Rattle.lfm_protocol.specs.Step.{begin}
use Rattle.lfm_laws.specs.laws.Schedules.{Event, is_call, steps_of_call}
use Rattle.lfm_laws.specs.steady.Steady.{Steady}

-- a try_lock makes at most 6 steps, whatever the others do in between
abbrev pub TriesAreBounded : Type 0
TriesAreBounded =
    (c : Core) (s : ℕ) (events : List Event) → Steady c → is_call (seat c.seats s).point ≡ false → steps_of_call (begin c s TryLock).core s events ≤ 6

-- a receive makes at most 3 steps, whatever the others do in between
abbrev pub ReceivesAreBounded : Type 0
ReceivesAreBounded =
    (c : Core) (s : ℕ) (events : List Event) → Steady c → is_call (seat c.seats s).point ≡ false → steps_of_call (begin c s Receive).core s events ≤ 3
