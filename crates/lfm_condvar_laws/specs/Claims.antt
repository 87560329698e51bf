-- The claims of a run: each exchange of a wake word that was made by the send of a wake and that succeeded.
use Rattle.std.specs.Prelude.{ℕ, ◌++◌, List, [], ◌∷◌, nat_eq, if◌then◌else◌}
use Rattle.lfm_protocol.specs.declared.points.Point.{Point}
use Rattle.lfm_protocol.specs.declared.points.Point.TheVariants.{SendWakeExchange}
use Rattle.lfm_protocol.specs.Step.{step}
use Rattle.lfm_protocol.specs.Turns.{is_open}
use Rattle.lfm_condvar_laws.specs.Condvars.{Waiter, Stage, claiming, CondvarCore, point_of}
use Rattle.lfm_condvar_laws.specs.Events.{CondvarEvent, makes, happens}

-- the send with this ticket of a condvar has claimed a seat
pub record Claim : Type 0 where
  pub condvar : ℕ
  pub seat : ℕ
  pub ticket : ℕ

-- the seat whose wake word a send exchanges, with the ticket of the waiter that is sent
abbrev pub claim_of : ℕ → ℕ → Point → List Claim
claim_of v ticket (SendWakeExchange t) = record { condvar = v; seat = t; ticket = ticket } ∷ []
claim_of v ticket _ = []

abbrev pub claimed_at : CondvarCore → ℕ → Stage → List Claim
claimed_at k s (claiming v all oldest) =
    if is_open (step k.mutex s).turn then claim_of v oldest.ticket (point_of k s) else []
claimed_at k s _ = []

abbrev pub claimed_in : CondvarCore → CondvarEvent → List Claim
claimed_in k (makes s) = claimed_at k s (k.stage s)
claimed_in k _ = []

-- the claims that the wakes of a run have made, in order
abbrev pub claim_record : CondvarCore → List CondvarEvent → List Claim
claim_record k [] = []
claim_record k (e ∷ later) = claimed_in k e ++ claim_record (happens k e) later

-- the waiters that the claims on this condvar claimed, in order
abbrev pub claims_on : ℕ → List Claim → List Waiter
claims_on v [] = []
claims_on v (x ∷ rest) =
    if nat_eq x.condvar v then record { seat = x.seat; ticket = x.ticket } ∷ claims_on v rest else claims_on v rest

-- the seats of the waiters with this ticket
abbrev pub seats_with : ℕ → List Waiter → List ℕ
seats_with ticket [] = []
seats_with ticket (x ∷ rest) = if nat_eq x.ticket ticket then x.seat ∷ seats_with ticket rest else seats_with ticket rest
