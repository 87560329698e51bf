-- The steps of a try_receive of a seat that sleeps, by its answer, and what they leave.
use Rattle.std.specs.Prelude.{◌≡◌, ℕ, List, [], ◌∷◌, Option, Some, None, true, false}
use Rattle.lfm_model.specs.declared.answers.How.{How}
use Rattle.lfm_words.specs.declared.wakes.Wake.TheVariants.{Quiet}
use Rattle.lfm_words.specs.Words.{grant_stamp, is_grant_word, wake_word}
use Rattle.lfm_protocol.specs.After.{how_granted}
use Rattle.lfm_protocol.specs.declared.points.Entrant.{Entrant}
use Rattle.lfm_protocol.specs.declared.points.Point.TheVariants.{Rest, Asleep, ReceiveWakeLoad, ReceiveWakeStore, EnterOwnerStore}
use Rattle.lfm_protocol.specs.declared.points.Sleeper.{Sleeper}
use Rattle.lfm_protocol.specs.declared.seats.SeatState.{SeatState}
use Rattle.lfm_table.specs.declared.seat_view.Seen.{Seen}
use Rattle.lfm_table.specs.Actions.{seen}
use Rattle.lfm_pool.specs.declared.pool.TableSeat.{TableSeat}
use Rattle.lfm_pool.specs.Moves.{MakesIn}
use Rattle.lfm_pool.specs.Seats.{state_of}

-- The steps of a receive of the seat with this number, which this call put to sleep: it loads its wake word. If it finds a
-- grant, it stores QUIET there, and its number as the owner.
abbrev pub ReceiveSteps : ℕ → Sleeper → Option How → List Seen → Type 0
ReceiveSteps number sleeper None new = (word : ℕ) × (is_grant_word word ≡ false) × (new ≡ seen (ReceiveWakeLoad sleeper) word ∷ [])
ReceiveSteps number sleeper (Some how) new =
    (word : ℕ) × (is_grant_word word ≡ true) × (how ≡ how_granted (grant_stamp word))
    × (new ≡ seen (ReceiveWakeLoad sleeper) word ∷ seen (ReceiveWakeStore (grant_stamp word)) (wake_word Quiet) ∷ seen (EnterOwnerStore Entrant.Receiver how) number ∷ [])

-- what a receive makes of the data of a seat that sleeps: it sleeps on, or holds the mutex once
abbrev pub received : Option How → SeatState → SeatState
received None x = x
received (Some how) x = record x { depth = 1; point = Rest }

-- from s to t the seat, which sleeps in mutex m, has made a receive there
abbrev pub ReceivedIn : TableSeat → TableSeat → ℕ → Option How → Type 0
ReceivedIn s t m result =
    (sleeper : Sleeper) × (new : List Seen) × ((state_of s m).point ≡ Asleep sleeper) × ReceiveSteps s.number sleeper result new × MakesIn s t m new (received result (state_of s m))
