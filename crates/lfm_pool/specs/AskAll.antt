-- The steps of the whole of an ask, by its answer, and what they leave.
use Rattle.std.specs.Prelude.{ℕ, ◌+◌, List, ◌++◌, Option, Some, None}
use Rattle.lfm_model.specs.declared.answers.Asked.{Asked}
use Rattle.lfm_model.specs.declared.answers.How.{How}
use Rattle.lfm_words.specs.declared.pop_lists.Record.{Record}
use Rattle.lfm_table.specs.declared.seat_view.Seen.{Seen}
use Rattle.lfm_pool.specs.declared.ask.Asking.{Asking}
use Rattle.lfm_pool.specs.declared.finish_ask.Finished.{Finished}
use Rattle.lfm_pool.specs.declared.pool.Pool.{Pool}
use Rattle.lfm_pool.specs.declared.pool.TableSeat.{TableSeat}
use Rattle.lfm_pool.specs.Ask.{AsksIn, AskSteps}
use Rattle.lfm_pool.specs.FastPaths.{KnowsMoreOf}
use Rattle.lfm_pool.specs.FinishAsk.{FinishSteps, NotesFinished, finished}
use Rattle.lfm_pool.specs.Moves.{Made}
use Rattle.lfm_pool.specs.Seats.{HoldsOnceIn, state_of}
use Rattle.lfm_pool.specs.SeatWords.{Sleeps}
use Rattle.lfm_pool.specs.Steps.{Sits}
use Rattle.lfm_pool.specs.Tables.{part}

-- from s to t the seat, which did not hold mutex m, has made a lock of it that has taken a post over, and that has ended so
abbrev pub TakesOverAllIn : Finished → TableSeat → TableSeat → Pool → ℕ → Type 0
TakesOverAllIn result s t p m =
    KnowsMoreOf m
    (λ w k.
    ((first later : List Seen) × (before : List Record) × AskSteps Asking.Carries s.number first × FinishSteps result s.number before w.popped later
    × Made (first ++ later) (finished result (record (state_of s m) { takes = (state_of s m).takes + 1 })) (part s.place.me.0 m) w)
    × Sits s.number s.place.id p.limits w.state w × NotesFinished result k w.popped)
    s.place.me t.place.me

-- From s to t the seat, which did not hold mutex m, has made an ask there. It returned this answer, and this record of the
-- seat whose thread has to be woken, if any.
-- - Held by a free mutex, or Asleep with no record: the call has taken no post over
-- - else it has, and has served its own record, or has granted this one
abbrev pub AsksAllIn : Asked → Option Record → TableSeat → TableSeat → Pool → ℕ → Type 0
AsksAllIn (Asked.Held How.Free) None s t p m = AsksIn s t m Asking.Held
AsksAllIn (Asked.Held (How.Queued stamp)) None s t p m = TakesOverAllIn (Finished.Held stamp) s t p m
AsksAllIn Asked.Asleep None s t p m = AsksIn s t m Asking.Asleep
AsksAllIn Asked.Asleep (Some r) s t p m = TakesOverAllIn (Finished.Granted r) s t p m
AsksAllIn _ _ s t p m = ⊥

-- what the seat is ready for after this answer: to release the mutex, or to receive a grant
abbrev pub IsReadyAsked : Asked → TableSeat → Pool → ℕ → Type 0
IsReadyAsked (Asked.Held how) t p m = HoldsOnceIn t p m
IsReadyAsked Asked.Asleep t p m = Sleeps (state_of t m)
IsReadyAsked _ t p m = ⊥
