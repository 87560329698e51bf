-- Why a command of a worker was refused: what is true of its pass when the refusal is answered.
use Rattle.std.specs.Prelude.{◌≡◌, ◌⊎◌, ⊤, ℕ, ◌+◌, ◌<◌, ◌≤◌, List, ◌∷◌, ◌++◌, take, Some, Err}
use mathlib.Core.Option.{some}
use lib.ListN.{get_elem?}
use Rattle.lfm_model.specs.declared.objects.Total.{Total}
use Rattle.lfm_model.specs.declared.objects.TotalOp.{TotalOp}
use Rattle.lfm_model.specs.declared.refusals.Refusal.{Refusal}
use Rattle.lfm_protocol.specs.Limits.{max_budget}
use Rattle.lfm_mutex.specs.calls.Sight.{Sight, Sends}
use Rattle.lfm_condvar.specs.declared.cond_seat.CondSeat.{CondSeat}
use Rattle.lfm_condvar.specs.declared.waiters.Waiter.{Waiter}
use Rattle.lfm_condvar.specs.declared.waiters.Waiters.{Waiters}
use Rattle.lfm_condvar.specs.Belongs.{cond_sight}
use Rattle.lfm_condvar.specs.Lists.{times}
use Rattle.lfm_monitor.specs.declared.journaled.Journaled.{Journaled}
use Rattle.lfm_monitor.specs.declared.monitor.Monitor.{Monitor}
use Rattle.lfm_monitor.specs.declared.pass.Pass.{Pass}
use Rattle.lfm_monitor.specs.Belongs.{cond_seats_of, conditions_of, mine_of, pass_sight, passes_of, plain_conditions_of, share_of}
use Rattle.lfm_monitor.specs.Conditions.{IsMissing}
use Rattle.lfm_program.specs.declared.performed.Performed.{Performed}
use Rattle.lfm_program.specs.declared.performed.Performed.TheVariants.{Done, Refused, Stuck}
use Rattle.lfm_script.specs.declared.script.Command.{Command}
use Rattle.lfm_script.specs.declared.script.Command.TheVariants.{Add, Until, One, All}
use Rattle.lfm_script.specs.Adds.{all_adds}
use Rattle.lfm_program.specs.Performs.{own_adds}

-- there is such a condition, and its cond seat in this list has the property
abbrev pub AtCondition : ℕ → List CondSeat → (Sight Waiters → Type 0) → Type 0
AtCondition condition cs so = (n : ℕ) × (c : CondSeat) × (condition ≡ n + 1) × (get_elem? cs n ≡ some c) × so (cond_sight c)

-- the cond seat has no take left
abbrev pub HasNoTake : Sight Waiters → Type 0
HasNoTake c = max_budget ≤ c.takes

-- the seat of this number was in the list that the cond seat found last
abbrev pub FoundListed : ℕ → Sight Waiters → Type 0
FoundListed number c = (v : Waiters) × (c.found ≡ Some v) × (0 < times number v.list.items)

module _ {R : Type 0} {K : _} where
  -- the last action of the seat was to send one of the list that the cond seat found last, and this was refused as NotWaiting;
  -- n is the number of seats
  abbrev pub FoundNotWaiting : ℕ → Sight (Journaled Total TotalOp R K) → Sight Waiters → Type 0
  FoundNotWaiting n t c =
      (v : Waiters) × (gone : List Waiter) × (x : Waiter) × (rest : List Waiter) × (s : Sight (Journaled Total TotalOp R K)) × (c.found ≡ Some v) × (v.list.items ≡ gone ++ x ∷ rest)
      × Sends n s x.seat t (Err Refusal.NotWaiting)

  -- the pass has no entry left, or no take of the monitor
  abbrev pub IsUsedUp : Monitor Total TotalOp R K → Pass Total TotalOp R K → Type 0
  IsUsedUp m p = (share_of m ≤ mine_of p) ⊎ (share_of m ≤ (pass_sight p).takes)

  -- why a wake on this condition is refused
  abbrev pub WakeHasCause : ℕ → Monitor Total TotalOp R K → Pass Total TotalOp R K → Refusal → Type 0
  WakeHasCause condition m p Refusal.NoSuchSeat = IsMissing (conditions_of m) condition
  WakeHasCause condition m p Refusal.Spent = AtCondition condition (cond_seats_of p) HasNoTake
  WakeHasCause condition m p Refusal.NotWaiting = AtCondition condition (cond_seats_of p) (FoundNotWaiting (passes_of m) (pass_sight p))
  WakeHasCause condition m p _ = ⊥

  -- What is true of the pass of a command that is refused in this way. NoSuchSeat is answered exactly if the condition is
  -- missing, with one exception: an until of a pass that is used up is refused as Spent, whether or not the condition exists
  abbrev pub HasCause : Command → Monitor Total TotalOp R K → Pass Total TotalOp R K → Refusal → Type 0
  HasCause (Add k) m p Refusal.Spent = IsUsedUp m p
  HasCause (Add k) m p _ = ⊥
  HasCause (Until condition k) m p Refusal.Spent = IsUsedUp m p ⊎ AtCondition condition (cond_seats_of p) HasNoTake
  HasCause (Until condition k) m p Refusal.NoSuchSeat = IsMissing (conditions_of m) condition
  HasCause (Until condition k) m p Refusal.Busy = AtCondition condition (cond_seats_of p) (FoundListed (pass_sight p).number)
  HasCause (Until condition k) m p _ = ⊥
  HasCause (One condition) m p r = WakeHasCause condition m p r
  HasCause (All condition) m p r = WakeHasCause condition m p r

  -- the same if the conditions of the monitor are not plain, as those of the monitors of scripts
  abbrev pub HasCauseIfSent : Command → Monitor Total TotalOp R K → Pass Total TotalOp R K → Refusal → Type 0
  HasCauseIfSent c m p r = plain_conditions_of m ≡ 0 → HasCause c m p r

  -- If a worker was refused, one of its commands has a cause for this refusal, and its pass has added to the old numbers those
  -- of the commands before that one
  abbrev pub RefusedForCause : Monitor Total TotalOp R K → List Command → List ℕ → Pass Total TotalOp R K → Performed → Type 0
  RefusedForCause m ms old p (Refused r) =
      (i : ℕ) × (c : Command) × (get_elem? ms i ≡ some c) × (own_adds (pass_sight p) ≡ old ++ all_adds (take i ms)) × HasCauseIfSent c m p r
  RefusedForCause m ms old p Done = ⊤
  RefusedForCause m ms old p Stuck = ⊤
