-- Which grant an unlock has stored, by its answer.
use Rattle.std.specs.Prelude.{◌≡◌, ℕ, ◌++◌, Option, Some, None, Result, Ok}
use Rattle.lfm_model.specs.declared.answers.Unlocked.{Unlocked}
use Rattle.lfm_model.specs.declared.refusals.Refusal.{Refusal}
use Rattle.lfm_protocol.specs.declared.answers.Answer.{Answer}
use Rattle.lfm_protocol.specs.declared.answers.Call.{Call}
use Rattle.lfm_protocol.specs.declared.limits.Limits.{Limits}
use Rattle.lfm_mutex.specs.calls.Sight.{Sight, Unlocks}
use Rattle.lfm_mutex.specs.calls.Trails.{MakesCall}
use Rattle.lfm_mutex.specs.calls.WakeUps.{as_list, grants_of, Wakes}

-- the seat that was granted the mutex, by this answer of an unlock
abbrev pub granted_of : Result Unlocked Refusal → Option ℕ
granted_of (Ok (Unlocked.Granted t)) = Some t
granted_of _ = None

-- the steps from one sight to the other are those of an unlock with this result
abbrev UnlocksBy : {T : Type 0} → Limits → Sight T → Sight T → Result Unlocked Refusal → Type 0
UnlocksBy l s t r = Unlocks s t r × MakesCall l (λ x. Answer.Unlocked x) Call.Unlock s t r

-- an unlock that answers Granted(k) has stored one grant, for seat k, and no other unlock has stored a grant
abbrev pub GrantsAreTold : Type 0 → Type 0
GrantsAreTold T =
    (l : Limits) (s t : Sight T) (r : Result Unlocked Refusal) → UnlocksBy l s t r → grants_of t.trail ≡ grants_of s.trail ++ as_list (granted_of r)

-- so an unlock that answers Granted(k) has the wake-up of seat k, and no other answer or refusal has a wake-up
abbrev pub WakeUpsAreTold : Type 0 → Type 0
WakeUpsAreTold T =
    (l : Limits) (s t : Sight T) (r : Result Unlocked Refusal) (wake_up : Option ℕ)
    → UnlocksBy l s t r → Wakes l.seats wake_up s.trail t.trail → wake_up ≡ granted_of r
