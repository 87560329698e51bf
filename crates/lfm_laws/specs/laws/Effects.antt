-- The effect of a call: the one event of its seat by which it acts on the abstract mutex. It is the call's linearization point.
-- What the abstract mutex then does with a seat that asks, or with a released mutex, comes later, in whichever call carries the
-- responsibility.
use Rattle.std.specs.Prelude.{◌≡◌, ◌⊎◌, ℕ, true, ◌+◌, ◌<◌, ◌≤◌, ◌++◌, Option, Some, None, List, [], ◌∷◌, nat_eq, if◌then◌else◌}
use Rattle.lfm_model.specs.Abstract.{AbstractMutex, AbstractStep}
use Rattle.lfm_model.specs.Abstract as Abstract
use Rattle.lfm_model.specs.AbstractRuns.{Case, ask, accept, take_up, release, case_of}
use Rattle.lfm_protocol.specs.declared.answers.Answer.{Answer}
use Rattle.lfm_protocol.specs.declared.answers.Answer.TheVariants.{Got}
use Rattle.lfm_protocol.specs.declared.answers.Call.{Call}
use Rattle.lfm_protocol.specs.declared.answers.Call.TheVariants.{Lock, TryLock, Unlock, StartWait, SendLock, Receive}
use Rattle.lfm_protocol.specs.declared.answers.Turn.{Turn}
use Rattle.lfm_protocol.specs.declared.answers.Turn.TheVariants.{Open, Ended, Refused}
use Rattle.lfm_protocol.specs.declared.limits.Limits.{Limits}
use Rattle.lfm_protocol.specs.Core.{Core}
use Rattle.lfm_protocol.specs.Seats.{seat}
use Rattle.lfm_protocol.specs.Step.{begin, step}
use Rattle.lfm_laws.specs.laws.Cases.{case_of_event}
use Rattle.lfm_laws.specs.laws.Depths.{seat_of}
use Rattle.lfm_laws.specs.laws.Events.{case_of_step}
use Rattle.lfm_laws.specs.laws.Reading.{Reads}
use Rattle.lfm_laws.specs.laws.Releases.{StaysInCall}
use Rattle.lfm_laws.specs.laws.Schedules.{Event, begins, makes, happens, run_of, reached, is_call}
use Rattle.lfm_laws.specs.steady.Steady.{Steady}

-- How many effects an event is

-- a seat asks, accepts a post, takes up its grant, or releases
abbrev pub effects_of_case : Option Case → ℕ
effects_of_case (Some ask) = 1
effects_of_case (Some accept) = 1
effects_of_case (Some take_up) = 1
effects_of_case (Some release) = 1
effects_of_case _ = 0

-- a seat holds before and after, and its depth has changed
abbrev pub effects_of_depth : ℕ → ℕ → ℕ
effects_of_depth before after =
    if nat_eq before 0 then 0 else (if nat_eq after 0 then 0 else (if nat_eq after before then 0 else 1))

-- how many effects of seat s an event is
abbrev pub effects_of : Core → ℕ → Event → ℕ
effects_of c s e =
    if nat_eq (seat_of e) s
    then effects_of_case (case_of_event c e) + effects_of_depth (seat c.seats s).depth (seat (happens c e).core.seats s).depth
    else 0

-- the sum of these over a run
abbrev pub effects_in : Core → ℕ → List Event → ℕ
effects_in c s [] = 0
effects_in c s (e ∷ later) = effects_of c s e + effects_in (happens c e).core s later

-- How many effects a call has had

-- with this answer: one, except for a receive that has found no grant
abbrev pub AnswersEffects : Answer → ℕ → Type 0
AnswersEffects (Got None) n = n ≡ 0
AnswersEffects _ n = n ≡ 1

-- with this turn: at most one for an open call, none for a refused call
abbrev pub TurnsEffects : Turn → ℕ → Type 0
TurnsEffects Open n = n ≤ 1
TurnsEffects (Ended answer) n = AnswersEffects answer n
TurnsEffects (Refused why) n = n ≡ 0

-- a call has had as many effects since its start as its turn says: at the start, and before and after each later step of its
-- seat, whatever the others do in between. So a call has its one effect between its start and its end
abbrev pub CallsTakeEffectOnce : Type 0
CallsTakeEffectOnce =
    (c : Core) (s : ℕ) (call : Call) (events : List Event) → Steady c
    → TurnsEffects (begin c s call).turn (effects_in c s (begins s call ∷ []))
    × ((begin c s call).turn ≡ Open → StaysInCall (begin c s call).core s events
    → (effects_in c s (begins s call ∷ events) ≤ 1)
    × TurnsEffects (step (run_of (begin c s call).core events) s).turn (effects_in c s (begins s call ∷ (events ++ makes s ∷ []))))

-- The call whose effect a step of the abstract mutex is

-- a call of seat s asks for seat x
abbrev pub IsAskOf : {a b : AbstractMutex} → ℕ → ℕ → AbstractStep a b → Type 0
IsAskOf s x (Abstract.ask_free agent y moves) = (agent ≡ s) × (y ≡ x)
IsAskOf s x (Abstract.ask_joins y taken nothing joins) = y ≡ x
IsAskOf s x _ = ⊥

-- seat s accepts a post
abbrev pub IsAcceptOf : {a b : AbstractMutex} → ℕ → AbstractStep a b → Type 0
IsAcceptOf s (Abstract.accept x moves) = x ≡ s
IsAcceptOf s _ = ⊥

-- seat s takes up its grant
abbrev pub IsTakeUpOf : {a b : AbstractMutex} → ℕ → AbstractStep a b → Type 0
IsTakeUpOf s (Abstract.take_up x moves) = x ≡ s
IsTakeUpOf s _ = ⊥

-- seat s releases
abbrev pub IsReleaseOf : {a b : AbstractMutex} → ℕ → AbstractStep a b → Type 0
IsReleaseOf s (Abstract.release x moves) = x ≡ s
IsReleaseOf s _ = ⊥

-- the step is the effect of this call of seat s: it names that seat, or the target of the send
abbrev pub IsEffectOf : {a b : AbstractMutex} → Call → ℕ → AbstractStep a b → Type 0
IsEffectOf Lock s effect = IsAskOf s s effect
IsEffectOf TryLock s effect = IsAskOf s s effect ⊎ IsAcceptOf s effect
IsEffectOf Unlock s effect = IsReleaseOf s effect
IsEffectOf StartWait s effect = IsReleaseOf s effect
IsEffectOf (SendLock t) s effect = IsAskOf s t effect
IsEffectOf Receive s effect = IsTakeUpOf s effect

-- an event is a step of a seat whose call is open
abbrev pub IsOfOpenCall : Core → Event → ℕ → Type 0
IsOfOpenCall c e s = (e ≡ makes s) × (is_call (seat c.seats s).point ≡ true)

-- an event is a call of this seat that ends at once
abbrev pub IsOfEndedCall : Core → Event → ℕ → Type 0
IsOfEndedCall c e s = (call : Call) × (answer : Answer) × (e ≡ begins s call) × ((begin c s call).turn ≡ Ended answer)

-- an event that has a case is a step of a seat whose call is open
abbrev pub ChangesAreOfOpenCalls : Type 0
ChangesAreOfOpenCalls = (c : Core) (e : Event) (case : Case) → case_of_event c e ≡ Some case → (s : ℕ) × IsOfOpenCall c e s

-- each effect is part of the open call of its seat, or of a call that ends at once
abbrev pub EffectsAreOfCalls : Type 0
EffectsAreOfCalls =
    (c : Core) (s : ℕ) (e : Event) → Steady c → 0 < effects_of c s e → IsOfOpenCall c e s ⊎ IsOfEndedCall c e s

-- if an effect changes the abstract mutex, the step between the readings is the effect of that call and names its seat or
-- target
abbrev pub EffectsAreTheCallers : Type 0
EffectsAreTheCallers =
    (c : Core) (s : ℕ) (call : Call) (events : List Event) (a b : AbstractMutex) → Steady c
    → (begin c s call).turn ≡ Open → StaysInCall (begin c s call).core s events
    → Reads (run_of (begin c s call).core events) a → Reads (step (run_of (begin c s call).core events) s).core b
    → 0 < effects_of_case (case_of_step (run_of (begin c s call).core events) s)
    → (effect : AbstractStep a b)
    × (case_of_step (run_of (begin c s call).core events) s ≡ Some (case_of effect))
    × IsEffectOf call s effect

-- The start of an open call

-- one of these events is the start of a call of seat s that has been open since; `earlier` and `since` are the events before
-- and after it
pub record HasBegun (c : Core) (s : ℕ) (events : List Event) : Type 0 where
  pub call : Call
  pub earlier : List Event
  pub since : List Event
  pub all : events ≡ earlier ++ begins s call ∷ since
  pub opens : (begin (run_of c earlier) s call).turn ≡ Open
  pub stays : StaysInCall (begin (run_of c earlier) s call).core s since

-- if a seat is in a call after a schedule, the call began in that schedule, so its effects are counted from its start
abbrev pub OpenCallsHaveBegun : Type 0
OpenCallsHaveBegun =
    (limits : Limits) (events : List Event) (s : ℕ) → is_call (seat (reached limits events).seats s).point ≡ true
    → HasBegun (reached limits []) s events
