-- The steps of a try_lock of a seat that does not hold the mutex, by its answer, and what they leave.
use Rattle.std.specs.Prelude.{◌≡◌, ◌≢◌, ◌⊎◌, ℕ, ◌+◌, ◌-◌, Bool, true, false, List, [], ◌∷◌, Result, Ok, Err}
use Rattle.lfm_model.specs.declared.answers.How.{How}
use Rattle.lfm_model.specs.declared.answers.Locked.{Locked}
use Rattle.lfm_model.specs.declared.refusals.Refusal.{Refusal}
use Rattle.lfm_words.specs.Words.{handoff_of, handoff_word, is_posted_word}
use Rattle.lfm_protocol.specs.declared.points.Entrant.{Entrant}
use Rattle.lfm_protocol.specs.declared.points.Point.TheVariants.{Rest, TryCountExchange, TryOwnerLoad, TryHandoffLoad, TryHandoffExchange, TryCountAdd, EnterOwnerStore}
use Rattle.lfm_protocol.specs.declared.seats.SeatState.{SeatState}
use Rattle.lfm_table.specs.declared.seat_view.Seen.{Seen}
use Rattle.lfm_table.specs.Actions.{seen}
use Rattle.lfm_pool.specs.declared.pool.TableSeat.{TableSeat}
use Rattle.lfm_pool.specs.Handoff.{forgotten}
use Rattle.lfm_pool.specs.Moves.{MakesIn}
use Rattle.lfm_pool.specs.Seats.{state_of}

-- what the end of a try_lock makes of the seat's data: the seat holds the mutex once, or gives its charge back
abbrev pub ended : Result Locked Refusal → SeatState → SeatState
ended (Ok locked) x = record x { depth = 1; point = Rest }
ended (Err refusal) x = record x { takes = x.takes - 1; point = Rest }

-- The exchange of the handoff word from this post. If it found the post, the call has accepted it: it adds itself to the
-- count and stores the number of the seat as the owner. Else the post had gone.
abbrev pub AcceptSteps : ℕ → ℕ → Result Locked Refusal → List Seen → Type 0
AcceptSteps number post (Ok (Locked.Held How.Free)) new =
    (count : ℕ) × (new ≡ seen (TryHandoffExchange (handoff_of post)) post ∷ seen TryCountAdd count ∷ seen (EnterOwnerStore Entrant.Trier How.Free) number ∷ [])
AcceptSteps number post (Err Refusal.Busy) new = (found : ℕ) × (found ≢ post) × (new ≡ seen (TryHandoffExchange (handoff_of post)) found ∷ [])
AcceptSteps number post _ new = ⊥

-- the steps after the load of the handoff word, by whether a post was found in this word: none if nothing is posted
abbrev pub StepsIfPosted : Bool → ℕ → ℕ → Result Locked Refusal → List Seen → Type 0
StepsIfPosted true number word result new = AcceptSteps number word result new
StepsIfPosted false number word result new = (result ≡ Err Refusal.Busy) × (new ≡ [])

-- The steps of a try_lock that has found the mutex taken: it loads the owner, which is another seat or none, and the handoff
-- word.
abbrev pub TakenSteps : ℕ → Result Locked Refusal → List Seen → Type 0
TakenSteps number result new =
    (owner word : ℕ) × (later : List Seen) × (owner ≢ number) × StepsIfPosted (is_posted_word word) number word result later
    × (new ≡ seen TryOwnerLoad owner ∷ seen TryHandoffLoad word ∷ later)

-- the steps of a try_lock that found the mutex free
abbrev pub FreeSteps : ℕ → Result Locked Refusal → List Seen → Type 0
FreeSteps number result new =
    (result ≡ Ok (Locked.Held How.Free)) × (new ≡ seen TryCountExchange 0 ∷ seen (EnterOwnerStore Entrant.Trier How.Free) number ∷ [])

-- the steps of a try_lock
abbrev pub TrySteps : ℕ → Result Locked Refusal → List Seen → Type 0
TrySteps number result new =
    FreeSteps number result new ⊎ ((count : ℕ) × (later : List Seen) × (count ≢ 0) × TakenSteps number result later × (new ≡ seen TryCountExchange count ∷ later))

-- from s to t the seat has tried to accept this post in mutex m
abbrev pub AcceptsIn : TableSeat → TableSeat → ℕ → ℕ → Result Locked Refusal → Type 0
AcceptsIn s t m post result = (new : List Seen) × AcceptSteps s.number post result new × MakesIn s t m new (ended result (state_of s m))

-- a try_lock has found the post l at the table of the mutex, and tries to accept it next: the handoff word of the mutex has
-- this number for it
abbrev pub IsPostWord : ℕ → TableSeat → ℕ → ℕ → Type 0
IsPostWord word s m l =
    ((state_of s m).point ≡ TryHandoffExchange (handoff_of l))
    × (word ≡ handoff_word (record { seat = (handoff_of l).seat; post = s.place.me.0.found }))

-- from s to t the seat has tried to accept this post in mutex m
abbrev pub AcceptsWordIn : TableSeat → TableSeat → ℕ → ℕ → Result Locked Refusal → Type 0
AcceptsWordIn s t m word result = (l : ℕ) × IsPostWord word s m l × AcceptsIn (forgotten s) t m l result

-- from s to t the seat has made the rest of a try_lock that has found mutex m taken
abbrev pub EndsTryIn : TableSeat → TableSeat → ℕ → Result Locked Refusal → Type 0
EndsTryIn s t m result = (new : List Seen) × TakenSteps s.number result new × MakesIn s t m new (ended result (state_of s m))

-- what a try_lock makes of the data of a seat that rests: it holds the mutex once, for one take, or nothing changes
abbrev pub tried : Result Locked Refusal → SeatState → SeatState
tried (Ok locked) x = record x { depth = 1; takes = x.takes + 1 }
tried (Err refusal) x = x

-- from s to t the seat, which did not hold mutex m, has made a try_lock of it
abbrev pub TriesIn : TableSeat → TableSeat → ℕ → Result Locked Refusal → Type 0
TriesIn s t m result = (new : List Seen) × TrySteps s.number result new × MakesIn s t m new (tried result (state_of s m))
