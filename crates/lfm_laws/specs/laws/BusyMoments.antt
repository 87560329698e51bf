-- Busy is linearizable: at some moment of the call the answer was true. A try_lock that acquires in one atomic step would have
-- been refused as Busy there.
use Rattle.std.specs.Prelude.{◌≡◌, ◌⊎◌, ℕ, ◌<◌, List, [], ◌∷◌}
use Rattle.lfm_model.specs.declared.refusals.Refusal.TheVariants.{Busy}
use Rattle.lfm_protocol.specs.declared.answers.Call.TheVariants.{TryLock}
use Rattle.lfm_protocol.specs.declared.answers.Turn.TheVariants.{Open, Refused}
use Rattle.lfm_protocol.specs.declared.answers.Why.TheVariants.{By}
use Rattle.lfm_protocol.specs.Core.{Core}
use Rattle.lfm_protocol.specs.Step.{begin, step}
use Rattle.lfm_laws.specs.laws.Releases.{StaysInCall}
use Rattle.lfm_laws.specs.laws.Schedules.{Event, happens, run_of}
use Rattle.lfm_laws.specs.steady.Steady.{Steady}

-- the mutex is neither free nor posted: there is nothing for a try_lock to take
abbrev pub IsBusy : Core → Type 0
IsBusy c = (0 < c.count) × (c.handoff.seat ≡ 0)

-- the mutex is busy before one of these events, or after the last
abbrev pub WasBusy : Core → List Event → Type 0
WasBusy c [] = IsBusy c
WasBusy c (e ∷ later) = IsBusy c ⊎ WasBusy (happens c e).core later

-- the mutex was busy at some moment between the start of a try_lock and the step that answers Busy, whatever the others do in
-- between
abbrev pub BusyWasBusy : Type 0
BusyWasBusy =
    (c : Core) (s : ℕ) (events : List Event) → Steady c → (begin c s TryLock).turn ≡ Open → StaysInCall (begin c s TryLock).core s events
    → (step (run_of (begin c s TryLock).core events) s).turn ≡ Refused (By Busy) → WasBusy (begin c s TryLock).core events
