-- What a seat at rest, and a seat that sleeps, know of the mutexes of their pool, and what the calls make of a seat at rest,
-- however often it holds the mutex.
use Rattle.std.specs.Prelude.{◌≡◌, ◌≢◌, ◌⊎◌, ℕ, ◌+◌, ◌-◌, ◌<◌, ◌≤◌, Option, None, Result, Ok, Err}
use Rattle.lfm_model.specs.declared.answers.Asked.{Asked}
use Rattle.lfm_model.specs.declared.answers.Locked.{Locked}
use Rattle.lfm_model.specs.declared.refusals.Refusal.{Refusal}
use Rattle.lfm_words.specs.declared.pop_lists.Record.{Record}
use Rattle.lfm_protocol.specs.Limits.{max_depth}
use Rattle.lfm_pool.specs.declared.any_depth.Release.{Release}
use Rattle.lfm_pool.specs.declared.pool.Pool.{Pool}
use Rattle.lfm_pool.specs.declared.pool.TableSeat.{TableSeat}
use Rattle.lfm_pool.specs.Admissions.{after_load, most_stamps, stamp_in}
use Rattle.lfm_pool.specs.AskAll.{AsksAllIn, IsReadyAsked}
use Rattle.lfm_pool.specs.Belongs.{IsMutex, OfPool}
use Rattle.lfm_pool.specs.Depths.{AskAgainSteps, DeepensBy, GivesUpIn, HasDepthIn, TryAgainSteps}
use Rattle.lfm_pool.specs.Moves.{MayStepIn}
use Rattle.lfm_pool.specs.Seats.{state_of}
use Rattle.lfm_pool.specs.SeatWords.{Sleeps}
use Rattle.lfm_pool.specs.TryLock.{TriesIn}
use Rattle.lfm_pool.specs.Unlock.{ReleasesIn}
use Rattle.lfm_pool.specs.WakeUps.{granted_by_release}

-- The seat rests in every mutex of the pool, and holds each a number of times.
pub record IsAtRest (s : TableSeat) (p : Pool) : Type 0 where
  pub belongs : OfPool s p
  pub depths : (m : ℕ) → IsMutex m p → (depth : ℕ) × HasDepthIn s p m depth

-- The seat sleeps in mutex m, or has a call open there. It rests in every other, and holds each a number of times.
pub record IsAwayIn (s : TableSeat) (p : Pool) (m : ℕ) : Type 0 where
  pub may : MayStepIn s p m
  pub depths : (n : ℕ) → IsMutex n p → n ≢ m → (depth : ℕ) × HasDepthIn s p n depth

-- the call was refused: the seat knows what it knew
abbrev pub IsRefused : TableSeat → TableSeat → Type 0
IsRefused s t = t.place.me ≡ s.place.me

-- from s to t the seat, which was at rest, has made a try_lock of mutex m, with this answer
abbrev pub TriesAtAnyDepth : Result Locked Refusal → TableSeat → TableSeat → Pool → ℕ → Type 0
TriesAtAnyDepth (Err Refusal.DepthFull) s t p m = HasDepthIn s p m max_depth × IsRefused s t
TriesAtAnyDepth (Err Refusal.Spent) s t p m = HasDepthIn s p m 0 × IsRefused s t
TriesAtAnyDepth (Err Refusal.Busy) s t p m = HasDepthIn s p m 0 × TriesIn s t m (Err Refusal.Busy)
TriesAtAnyDepth (Ok (Locked.Held how)) s t p m = HasDepthIn s p m 0 × TriesIn s t m (Ok (Locked.Held how)) × HasDepthIn t p m 1
TriesAtAnyDepth (Ok (Locked.Again depth)) s t p m = (1 < depth) × HasDepthIn s p m (depth - 1) × DeepensBy TryAgainSteps s t p m depth
TriesAtAnyDepth _ s t p m = ⊥

-- from s to t the seat has loaded the push word of mutex m, and has found no stamp left there for its record
abbrev pub FindsNoStamp : TableSeat → TableSeat → ℕ → Type 0
FindsNoStamp s t m = (found : ℕ) × (t.place.me ≡ (after_load s m found).place.me) × (most_stamps ≤ stamp_in found)

-- From s to t the seat, which was at rest, has made an ask of mutex m, with this answer and this record of the seat whose
-- thread has to be woken. Unless it was refused or has deepened its hold, it has loaded the push word before its first step,
-- and has found a stamp there.
abbrev pub AsksAtAnyDepth : Result Asked Refusal → Option Record → TableSeat → TableSeat → Pool → ℕ → Type 0
AsksAtAnyDepth (Err Refusal.DepthFull) None s t p m = HasDepthIn s p m max_depth × IsRefused s t
AsksAtAnyDepth (Err Refusal.Spent) None s t p m = HasDepthIn s p m 0 × (IsRefused s t ⊎ FindsNoStamp s t m)
AsksAtAnyDepth (Ok (Asked.Again depth)) None s t p m = (1 < depth) × HasDepthIn s p m (depth - 1) × DeepensBy AskAgainSteps s t p m depth
AsksAtAnyDepth (Ok asked) granted s t p m =
    HasDepthIn s p m 0 × ((found : ℕ) × (stamp_in found < most_stamps) × AsksAllIn asked granted (after_load s m found) t p m) × IsReadyAsked asked t p m
AsksAtAnyDepth _ _ s t p m = ⊥

-- after an ask with this answer the seat sleeps in mutex m, or rests in every mutex
abbrev pub IsPlacedBy : Result Asked Refusal → TableSeat → Pool → ℕ → Type 0
IsPlacedBy (Ok Asked.Asleep) s p m = IsAwayIn s p m × Sleeps (state_of s m)
IsPlacedBy _ s p m = IsAtRest s p

-- the record that an unlock has granted, by its answer
abbrev pub granted_in : Release → Option Record
granted_in (Release.Last released) = granted_by_release released
granted_in (Release.Still depth) = None

-- from s to t the seat, which was at rest, has made an unlock of mutex m, with this answer
abbrev pub UnlocksAtAnyDepth : Result Release Refusal → TableSeat → TableSeat → Pool → ℕ → Type 0
UnlocksAtAnyDepth (Err Refusal.NotOwner) s t p m = HasDepthIn s p m 0 × IsRefused s t
UnlocksAtAnyDepth (Ok (Release.Still depth)) s t p m = (0 < depth) × HasDepthIn s p m (depth + 1) × GivesUpIn s t p m depth
UnlocksAtAnyDepth (Ok (Release.Last released)) s t p m = HasDepthIn s p m 1 × ReleasesIn released s t p m
UnlocksAtAnyDepth _ s t p m = ⊥
