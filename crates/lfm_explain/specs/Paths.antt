-- What was printed of the states that a schedule passes.
use Rattle.std.specs.Prelude.{ℕ, ◌+◌, ◌-◌, ◌^◌, List, Option, min}
use Rattle.lfm_protocol.specs.Core.{Core}
use Rattle.lfm_shown.specs.Printed.{PrintsEventOf, PrintsState}
use Rattle.lfm_shown.specs.Successors.{happens}
use Rattle.lfm_shown.specs.declared.successors.Event.{Event}

-- the number of the state after the one with this number
abbrev pub number_after : ℕ → ℕ
number_after n = min (n + 1) (2 ^ 64 - 1)

-- an event of this state, which leads to the state with the number n, and then that state
pub record PrintsMove (old new : Option (List ℕ)) (before after : List (List ℕ)) (n : ℕ) (c : Core) (e : Event) : Type 0 where
  pub between : Option (List ℕ)
  pub texts : List (List ℕ)
  pub event : PrintsEventOf old between before texts c e n
  pub state : PrintsState between new texts after (happens c e).core
