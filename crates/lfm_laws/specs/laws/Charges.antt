-- What the takes of a seat count: a call charges a take when it opens, and a step that is refused as Busy gives it back.
use Rattle.std.specs.Prelude.{◌≡◌, ℕ, ◌+◌, List, [], ◌∷◌, nat_eq, if◌then◌else◌}
use Rattle.lfm_model.specs.declared.refusals.Refusal.TheVariants.{Busy}
use Rattle.lfm_protocol.specs.declared.answers.Call.{Call}
use Rattle.lfm_protocol.specs.declared.answers.Call.TheVariants.{Lock, TryLock, StartWait}
use Rattle.lfm_protocol.specs.declared.answers.Turn.{Turn}
use Rattle.lfm_protocol.specs.declared.answers.Turn.TheVariants.{Refused}
use Rattle.lfm_protocol.specs.declared.answers.Why.TheVariants.{By}
use Rattle.lfm_protocol.specs.Core.{Core}
use Rattle.lfm_protocol.specs.Seats.{seat}
use Rattle.lfm_protocol.specs.Turns.{is_open}
use Rattle.lfm_laws.specs.laws.Schedules.{Event, begins, makes, happens, run_of}
use Rattle.lfm_laws.specs.steady.Steady.{Steady}

-- what a call charges a seat of this depth when it opens: one take for a new hold, or for the hold after a wait
abbrev pub charge_of : Call → ℕ → ℕ
charge_of Lock depth = if nat_eq depth 0 then 1 else 0
charge_of TryLock depth = if nat_eq depth 0 then 1 else 0
charge_of StartWait depth = 1
charge_of _ depth = 0

-- what a step with this turn gives back
abbrev pub refund_of : Turn → ℕ
refund_of (Refused (By Busy)) = 1
refund_of _ = 0

-- how many takes an event charges seat s
abbrev pub charged : Core → Event → ℕ → ℕ
charged c (begins t call) s = if nat_eq t s then (if is_open (happens c (begins t call)).turn then charge_of call (seat c.seats s).depth else 0) else 0
charged c (makes t) s = 0

-- how many takes an event gives back to seat s
abbrev pub given_back : Core → Event → ℕ → ℕ
given_back c (begins t call) s = 0
given_back c (makes t) s = if nat_eq t s then refund_of (happens c (makes t)).turn else 0

-- the sums of these over a run
abbrev pub charges_of_run : Core → ℕ → List Event → ℕ
charges_of_run c s [] = 0
charges_of_run c s (e ∷ later) = charged c e s + charges_of_run (happens c e).core s later

abbrev pub refunds_of_run : Core → ℕ → List Event → ℕ
refunds_of_run c s [] = 0
refunds_of_run c s (e ∷ later) = given_back c e s + refunds_of_run (happens c e).core s later

-- an event changes the takes of a seat only by what it charges and gives back
abbrev pub TakesChangeByCharges : Type 0
TakesChangeByCharges =
    (c : Core) (e : Event) (s : ℕ) → Steady c
    → (seat (happens c e).core.seats s).takes + given_back c e s ≡ (seat c.seats s).takes + charged c e s

-- over a run, the takes grow by the charges that were not given back
abbrev pub TakesCountCharges : Type 0
TakesCountCharges =
    (c : Core) (events : List Event) (s : ℕ) → Steady c
    → (seat (run_of c events).seats s).takes + refunds_of_run c s events ≡ (seat c.seats s).takes + charges_of_run c s events
