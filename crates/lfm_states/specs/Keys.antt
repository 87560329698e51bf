-- The numbers of the states of a graph.
use Rattle.std.specs.Prelude.{ℕ, ◌≡◌, ◌++◌, List, Option, Some, slice_get}
use Rattle.lfm_protocol.specs.Core.{Core}
use Rattle.lfm_shown.specs.Graphs.{key_text}
use Rattle.lfm_shown.specs.Printed.{PrintsEventOf}
use Rattle.lfm_shown.specs.Successors.{happens}
use Rattle.lfm_shown.specs.declared.successors.Event.{Event}

-- the key with this number begins with all texts of this state
pub record IsNumberOf (keys : List (List ℕ)) (n : ℕ) (c : Core) : Type 0 where
  pub points : List ℕ
  pub key : slice_get keys n ≡ Some (key_text c ++ points)

-- the line of this event was printed, with a number of the state that follows, after its text if that was new
pub record PrintsAttempt (old new : Option (List ℕ)) (before after : List (List ℕ)) (keys : List (List ℕ)) (c : Core) (e : Event) : Type 0 where
  pub target : ℕ
  pub number : IsNumberOf keys target (happens c e).core
  pub printed : PrintsEventOf old new before after c e target
