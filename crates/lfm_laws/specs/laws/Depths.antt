-- The depth of a seat counts its holds. Each answer relates the depth before its event to the depth after it. While a call
-- is open the depth stays the same, except at the store that empties the owner word.
use Rattle.std.specs.Prelude.{◌≡◌, ◌≢◌, ◌⊎◌, ℕ, ◌+◌, ◌<◌, Some, None}
use Rattle.lfm_model.specs.declared.answers.Asked.TheVariants as Asked
use Rattle.lfm_model.specs.declared.answers.Locked.TheVariants as Locked
use Rattle.lfm_model.specs.declared.answers.Unlocked.TheVariants.{Still}
use Rattle.lfm_protocol.specs.declared.answers.Answer.{Answer}
use Rattle.lfm_protocol.specs.declared.answers.Answer.TheVariants.{Unlocked, Waiting, Got, Sent}
use Rattle.lfm_protocol.specs.declared.answers.Turn.{Turn}
use Rattle.lfm_protocol.specs.declared.answers.Turn.TheVariants.{Open, Ended, Refused}
use Rattle.lfm_protocol.specs.Core.{Core}
use Rattle.lfm_protocol.specs.Seats.{seat}
use Rattle.lfm_laws.specs.laws.Schedules.{Event, begins, makes, happens}
use Rattle.lfm_laws.specs.steady.Steady.{Steady}

-- The depths before and after an answer

-- a new hold
abbrev pub Holds : ℕ → ℕ → Type 0
Holds before after = (before ≡ 0) × (after ≡ 1)

-- one hold more, and the answered number is that of the holds now
abbrev pub HoldsAgain : ℕ → ℕ → ℕ → Type 0
HoldsAgain before after told = (0 < before) × (after ≡ before + 1) × (told ≡ after)

-- one hold less of several, and the answered number is that of the holds left
abbrev pub HoldsStill : ℕ → ℕ → ℕ → Type 0
HoldsStill before after told = (before ≡ after + 1) × (0 < after) × (told ≡ after)

-- no hold, neither before nor after
abbrev pub HoldsNothing : ℕ → ℕ → Type 0
HoldsNothing before after = (before ≡ 0) × (after ≡ 0)

abbrev pub AnswersDepth : ℕ → ℕ → Answer → Type 0
AnswersDepth before after (Answer.Asked (Asked.Held how)) = Holds before after
AnswersDepth before after (Answer.Asked (Asked.Again n)) = HoldsAgain before after n
AnswersDepth before after (Answer.Asked Asked.Asleep) = HoldsNothing before after
AnswersDepth before after (Answer.Locked (Locked.Held how)) = Holds before after
AnswersDepth before after (Answer.Locked (Locked.Again n)) = HoldsAgain before after n
AnswersDepth before after (Unlocked (Still n)) = HoldsStill before after n
AnswersDepth before after (Unlocked _) = HoldsNothing before after
AnswersDepth before after (Waiting released) = HoldsNothing before after
AnswersDepth before after (Got None) = HoldsNothing before after
AnswersDepth before after (Got (Some how)) = Holds before after
AnswersDepth before after Sent = after ≡ before

-- The depth of the acting seat after an event

-- seat s owned with depth 1, and now the owner word is empty and the depth is 0
pub record GivesUp (c d : Core) (s : ℕ) : Type 0 where
  pub owned : c.owner ≡ s
  pub empty : d.owner ≡ 0
  pub before : (seat c.seats s).depth ≡ 1
  pub after : (seat d.seats s).depth ≡ 0

-- the owner word and the depth of seat s are unchanged
pub record KeepsHold (c d : Core) (s : ℕ) : Type 0 where
  pub owner : d.owner ≡ c.owner
  pub depth : (seat d.seats s).depth ≡ (seat c.seats s).depth

abbrev pub TurnsDepth : Core → Core → ℕ → Turn → Type 0
TurnsDepth c d s Open = GivesUp c d s ⊎ KeepsHold c d s
TurnsDepth c d s (Ended answer) = AnswersDepth (seat c.seats s).depth (seat d.seats s).depth answer
TurnsDepth c d s (Refused why) = KeepsHold c d s

-- the seat that acts
abbrev pub seat_of : Event → ℕ
seat_of (begins s call) = s
seat_of (makes s) = s

-- an event leaves the depth of every other seat unchanged, and changes that of the acting seat as its turn says
abbrev pub DepthCountsHolds : Type 0
DepthCountsHolds =
    (c : Core) (e : Event) → Steady c
    → ((s : ℕ) → s ≢ seat_of e → (seat (happens c e).core.seats s).depth ≡ (seat c.seats s).depth)
    × TurnsDepth c (happens c e).core (seat_of e) (happens c e).turn
