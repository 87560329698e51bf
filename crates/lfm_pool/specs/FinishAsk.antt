-- The steps by which a lock that has taken a post over serves the oldest queued seat, which may be its own, and what they
-- leave.
use Rattle.std.specs.Prelude.{◌≡◌, ◌≢◌, ⊤, ℕ, List, [], ◌∷◌, ◌++◌}
use Rattle.lfm_model.specs.declared.answers.How.{How}
use Rattle.lfm_words.specs.declared.pop_lists.Record.{Record}
use Rattle.lfm_words.specs.declared.wakes.Wake.TheVariants.{Grant}
use Rattle.lfm_words.specs.Popped.{oldest}
use Rattle.lfm_words.specs.Words.{wake_word}
use Rattle.lfm_protocol.specs.After.{take}
use Rattle.lfm_protocol.specs.declared.points.Carrier.{Carrier}
use Rattle.lfm_protocol.specs.declared.points.Entrant.{Entrant}
use Rattle.lfm_protocol.specs.declared.points.Point.TheVariants.{Rest, Asleep, TakeClearHead, GrantWakeStore, EnterOwnerStore}
use Rattle.lfm_protocol.specs.declared.points.Sleeper.TheVariants as Sleeper
use Rattle.lfm_protocol.specs.declared.seats.SeatState.{SeatState}
use Rattle.lfm_table.specs.declared.seat_view.Seen.{Seen}
use Rattle.lfm_table.specs.Actions.{seen}
use Rattle.lfm_pool.specs.declared.finish_ask.Finished.{Finished}
use Rattle.lfm_pool.specs.declared.pool.Pool.{Pool}
use Rattle.lfm_pool.specs.declared.pool.TableSeat.{TableSeat}
use Rattle.lfm_pool.specs.declared.view.Note.{Note}
use Rattle.lfm_pool.specs.Chain.{rested}
use Rattle.lfm_pool.specs.FastPaths.{KnowsMoreOf}
use Rattle.lfm_pool.specs.Moves.{Made}
use Rattle.lfm_pool.specs.Releasing.{AreQueued, collecting}
use Rattle.lfm_pool.specs.Seats.{HoldsOnceIn, popped_of, state_of}
use Rattle.lfm_pool.specs.SeatWords.{Sleeps}
use Rattle.lfm_pool.specs.Serving.{IsOldest}
use Rattle.lfm_pool.specs.Steps.{Sits}
use Rattle.lfm_pool.specs.Tables.{part}

-- a lock of the seat in mutex m takes the oldest record next, or collects the push list first if no record is popped
abbrev pub TakesOldest : TableSeat → ℕ → Type 0
TakesOldest s m = (state_of s m).point ≡ take Carrier.Locker s.number (oldest (popped_of s m))

-- the oldest popped record is its own, and it acquires the mutex next
abbrev pub EntersByOwn : TableSeat → ℕ → Type 0
EntersByOwn s m =
    (r : Record) × (r.seat ≡ s.number) × ((state_of s m).point ≡ EnterOwnerStore Entrant.Locker (How.Queued r.stamp))
    × IsOldest r (popped_of s m)

-- it clears the head of the push word next
abbrev pub ClearsForLock : SeatState → Type 0
ClearsForLock p = p.point ≡ TakeClearHead Carrier.Locker

-- The steps by which the lock of the seat with this number has served the record r, the oldest: the first list of records
-- was popped before it, and the second is popped after it. If none was, it has collected the push list from this push word
-- on. Held: the record is its own, with this stamp, and it has stored its number as the owner. Granted: it has granted this
-- record.
abbrev pub FinishSteps : Finished → ℕ → List Record → List Record → List Seen → Type 0
FinishSteps (Finished.Held stamp) number before after new =
    (found : ℕ) × (r : Record) × (r.seat ≡ number) × (r.stamp ≡ stamp) × AreQueued before found (r ∷ after)
    × (new ≡ collecting Carrier.Locker before found (r ∷ after) ++ seen (EnterOwnerStore Entrant.Locker (How.Queued r.stamp)) number ∷ [])
FinishSteps (Finished.Granted r) number before after new =
    (found : ℕ) × (r.seat ≢ number) × AreQueued before found (r ∷ after)
    × (new ≡ collecting Carrier.Locker before found (r ∷ after) ++ seen (GrantWakeStore Carrier.Locker r) (wake_word (Grant r.stamp)) ∷ [])

-- what this makes of the seat's data: the seat holds the mutex once, or sleeps
abbrev pub finished : Finished → SeatState → SeatState
finished (Finished.Held stamp) x = record x { depth = 1; point = Rest }
finished (Finished.Granted r) x = record x { point = Asleep Sleeper.Locker }

-- a seat that holds the mutex notes that all records that are left are in the chain, and that the carried word names the
-- oldest of them
abbrev pub NotesFinished : Finished → Note → List Record → Type 0
NotesFinished (Finished.Held stamp) k popped = k ≡ rested popped
NotesFinished (Finished.Granted r) k popped = ⊤

-- from s to t the seat has done so in mutex m
abbrev pub FinishesIn : Finished → TableSeat → TableSeat → Pool → ℕ → Type 0
FinishesIn result s t p m =
    KnowsMoreOf m
    (λ w k.
    ((new : List Seen) × FinishSteps result s.number (popped_of s m) w.popped new
    × Made new (finished result (state_of s m)) (part s.place.me.0 m) w)
    × Sits s.number s.place.id p.limits w.state w × NotesFinished result k w.popped)
    s.place.me t.place.me

-- the seat may release the mutex then, or receive a grant
abbrev pub IsReadyFinished : Finished → TableSeat → Pool → ℕ → Type 0
IsReadyFinished (Finished.Held stamp) t p m = HoldsOnceIn t p m
IsReadyFinished (Finished.Granted r) t p m = Sleeps (state_of t m)
