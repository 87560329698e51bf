-- The steps of a lock up to the point at which its seat holds the mutex, sleeps, or has taken a post over.
use Rattle.std.specs.Prelude.{◌≡◌, ◌≢◌, ◌⊎◌, ℕ, ◌+◌, ◌*◌, ◌<◌, ◌≤◌, List, [], ◌∷◌, ◌++◌, length, Bool, true, false, if◌then◌else◌}
use Rattle.lfm_model.specs.declared.answers.How.{How}
use Rattle.lfm_words.specs.declared.pop_lists.Record.{Record}
use Rattle.lfm_words.specs.Popped.{oldest}
use Rattle.lfm_words.specs.Words.{handoff_of, is_posted_word, link_of, link_word}
use Rattle.lfm_protocol.specs.After.{same_link, take}
use Rattle.lfm_protocol.specs.declared.points.Carrier.{Carrier}
use Rattle.lfm_protocol.specs.declared.points.Entrant.{Entrant}
use Rattle.lfm_protocol.specs.declared.points.Point.{Point}
use Rattle.lfm_protocol.specs.declared.points.Point.TheVariants.{Rest, Asleep, LockCountAdd, LockOwnerLoad, PushLoad, LinkStore, PushExchange, PushedHandoffLoad, PushedHandoffExchange, EnterOwnerStore}
use Rattle.lfm_protocol.specs.declared.points.Pusher.{Pusher}
use Rattle.lfm_protocol.specs.declared.points.Sleeper.TheVariants as Sleeper
use Rattle.lfm_protocol.specs.declared.seats.SeatState.{SeatState}
use Rattle.lfm_table.specs.declared.seat_view.Seen.{Seen}
use Rattle.lfm_table.specs.Actions.{seen}
use Rattle.lfm_pool.specs.declared.ask.Asking.{Asking}
use Rattle.lfm_pool.specs.declared.pool.Pool.{Pool}
use Rattle.lfm_pool.specs.declared.pool.TableSeat.{TableSeat}
use Rattle.lfm_pool.specs.Chain.{rested}
use Rattle.lfm_pool.specs.Moves.{MakesIn}
use Rattle.lfm_pool.specs.Seats.{HoldsOnceIn, note_of, popped_of, state_of}
use Rattle.lfm_pool.specs.SeatWords.{Sleeps}
use Rattle.lfm_pool.specs.Tables.{part}

-- The push

-- Another seat has changed the push word from the first of these words to the second: it has pushed its record, which makes
-- the stamp greater, or has cleared the push list to collect it.
abbrev pub IsChanged : ℕ → ℕ → Type 0
IsChanged before after =
    ((link_of before).stamp < (link_of after).stamp) ⊎ (((link_of after).stamp ≡ (link_of before).stamp) × ((link_of after).next ≡ 0) × (0 < (link_of before).next))

-- The exchanges of the push word found these words, one after another, each changed by another seat since the one before.
-- The first exchange expected the word `first`, and the last of these words is `last`.
abbrev pub FindsChanges : ℕ → List ℕ → ℕ → Type 0
FindsChanges first [] last = last ≡ first
FindsChanges first (found ∷ finds) last = IsChanged first found × FindsChanges found finds last

-- one attempt of a push, after this push word was loaded: the store of the link, and the exchange, which found the second
-- word
abbrev pub attempt : ℕ → ℕ → List Seen
attempt word found =
    seen (LinkStore Pusher.Locker (link_of word)) (link_word (record { stamp = (link_of word).stamp + 1; next = (link_of word).next }))
    ∷ seen (PushExchange Pusher.Locker (link_of word)) found ∷ []

-- attempts one after another, each after the word that the one before has found
abbrev pub attempts : ℕ → List ℕ → List Seen
attempts word [] = []
attempts word (found ∷ finds) = attempt word found ++ attempts found finds

-- The steps of a push: the load of the push word, attempts that failed because another seat had changed the word, and one
-- that found the word that it expected.
abbrev pub PushSteps : List Seen → Type 0
PushSteps new =
    (word : ℕ) × (finds : List ℕ) × (last : ℕ) × FindsChanges word finds last
    × (new ≡ seen (PushLoad Pusher.Locker) word ∷ (attempts word finds ++ attempt last last))

-- from s to t the seat has pushed its record in mutex m
abbrev pub QueuesIn : TableSeat → TableSeat → ℕ → Type 0
QueuesIn s t m = (new : List Seen) × PushSteps new × MakesIn s t m new (record (state_of s m) { point = PushedHandoffLoad Pusher.Locker })

-- After the push

-- The exchange of the handoff word from this post. If it found the post, the call has taken it over; else the seat sleeps.
abbrev pub TakeOverSteps : Asking → ℕ → List Seen → Type 0
TakeOverSteps Asking.Carries post new = new ≡ seen (PushedHandoffExchange Pusher.Locker (handoff_of post)) post ∷ []
TakeOverSteps Asking.Asleep post new = (found : ℕ) × (found ≢ post) × (new ≡ seen (PushedHandoffExchange Pusher.Locker (handoff_of post)) found ∷ [])
TakeOverSteps Asking.Held post new = ⊥

-- the steps after the load of the handoff word, by whether a post was found in this word: none if nothing is posted
abbrev pub StepsIfPosted : Bool → Asking → ℕ → List Seen → Type 0
StepsIfPosted true asking word new = TakeOverSteps asking word new
StepsIfPosted false asking word new = (asking ≡ Asking.Asleep) × (new ≡ [])

-- the steps of a lock that has found the mutex taken, from the push on
abbrev pub QueueSteps : Asking → List Seen → Type 0
QueueSteps asking new =
    (pushing : List Seen) × (word : ℕ) × (later : List Seen) × PushSteps pushing × StepsIfPosted (is_posted_word word) asking word later
    × (new ≡ pushing ++ (seen (PushedHandoffLoad Pusher.Locker) word ∷ later))

-- where the seat with this number is then, if this is the pop list that it knows
abbrev pub asked_point : Asking → ℕ → List Record → Point
asked_point Asking.Held number popped = Rest
asked_point Asking.Asleep number popped = Asleep Sleeper.Locker
asked_point Asking.Carries number popped = take Carrier.Locker number (oldest popped)

-- from s to t the seat has queued in mutex m, and has come this far
abbrev pub WaitsIn : TableSeat → TableSeat → ℕ → Asking → Type 0
WaitsIn s t m asking =
    (new : List Seen) × QueueSteps asking new × MakesIn s t m new (record (state_of s m) { point = asked_point asking s.number (part t.place.me.0 m).popped })

-- The call

-- the steps of a lock of the seat with this number: it found the mutex free, or it was counted beside another seat and
-- queued
abbrev pub AskSteps : Asking → ℕ → List Seen → Type 0
AskSteps Asking.Held number new = new ≡ seen LockCountAdd 0 ∷ seen (EnterOwnerStore Entrant.Locker How.Free) number ∷ []
AskSteps asking number new =
    (count owner : ℕ) × (later : List Seen) × (count ≢ 0) × (owner ≢ number) × QueueSteps asking later
    × (new ≡ seen LockCountAdd count ∷ seen LockOwnerLoad owner ∷ later)

-- what a lock makes of the data of a seat that rests: one take is charged, and the seat holds the mutex once if it was free
abbrev pub asked : Asking → ℕ → List Record → SeatState → SeatState
asked Asking.Held number popped x = record x { depth = 1; takes = x.takes + 1 }
asked asking number popped x = record x { takes = x.takes + 1; point = asked_point asking number popped }

-- from s to t the seat, which did not hold mutex m, has begun a lock of it and has come this far
abbrev pub AsksIn : TableSeat → TableSeat → ℕ → Asking → Type 0
AsksIn s t m asking = (new : List Seen) × AskSteps asking s.number new × MakesIn s t m new (asked asking s.number (part t.place.me.0 m).popped (state_of s m))

-- What the seat is ready for after this answer: to release the mutex, to receive a grant, or to serve the oldest record, and
-- to collect the push list first if no record is popped.
abbrev pub IsReadyAfter : Asking → TableSeat → Pool → ℕ → Type 0
IsReadyAfter Asking.Held t p m = HoldsOnceIn t p m
IsReadyAfter Asking.Asleep t p m = Sleeps (state_of t m)
IsReadyAfter Asking.Carries t p m =
    ((state_of t m).point ≡ take Carrier.Locker t.number (oldest (popped_of t m))) × (note_of t m ≡ rested (popped_of t m))

-- Bounds

-- 1 if a step at this point is an exchange of the push word that found another word than it expected
abbrev pub failed_push : ℕ → Point → ℕ
failed_push found (PushExchange pusher expected) = if same_link (link_of found) expected then 0 else 1
failed_push found _ = 0

-- how many of these steps are such exchanges
abbrev pub failed_pushes : List Seen → ℕ
failed_pushes [] = 0
failed_pushes (step ∷ steps) = failed_push step.found step.point + failed_pushes steps

-- from s to t the seat has made at most this number of steps in mutex m, and two more for each of them that failed to push
abbrev pub MakesBesideFailuresIn : ℕ → TableSeat → TableSeat → ℕ → Type 0
MakesBesideFailuresIn k s t m =
    (new : List Seen) × ((part t.place.me.0 m).trail ≡ (part s.place.me.0 m).trail ++ new) × (length new ≤ k + 2 * failed_pushes new)
