-- The pushes of a run: each record that the send of a wake pushed onto the push list of the user mutex, for its target.
use Rattle.std.specs.Prelude.{ℕ, ◌++◌, List, [], ◌∷◌, map}
use Rattle.lfm_words.specs.declared.pop_lists.Record.{Record}
use Rattle.lfm_laws.specs.laws.Events.{pushed_by}
use Rattle.lfm_condvar_laws.specs.Claims.{Claim}
use Rattle.lfm_condvar_laws.specs.Condvars.{Stage, sending, CondvarCore}
use Rattle.lfm_condvar_laws.specs.Events.{CondvarEvent, makes, happens}

-- a record that was pushed for this ticket of a condvar
abbrev pub pushed_for : ℕ → ℕ → Record → Claim
pushed_for v ticket x = record { condvar = v; seat = x.seat; ticket = ticket }

abbrev pub pushed_at : CondvarCore → ℕ → Stage → List Claim
pushed_at k s (sending v all oldest) = map (pushed_for v oldest.ticket) (pushed_by k.mutex s)
pushed_at k s _ = []

abbrev pub pushed_in : CondvarCore → CondvarEvent → List Claim
pushed_in k (makes s) = pushed_at k s (k.stage s)
pushed_in k _ = []

-- the records that the sends of a run have pushed, in order
abbrev pub push_record : CondvarCore → List CondvarEvent → List Claim
push_record k [] = []
push_record k (e ∷ later) = pushed_in k e ++ push_record (happens k e) later
