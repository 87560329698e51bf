-- No event changes the number of seats or the budget.
use Rattle.std.proofs.Common.{◌≡◌, ℕ, Bool, true, false, List, [], ◌∷◌, Option, Some, None, length, refl, if◌then◌else◌, ◌∙◌}
use Rattle.std.proofs.lemmas.List.{length-replicate}
use Rattle.lfm_protocol.specs.declared.kinds.Kind.{Kind}
use Rattle.lfm_protocol.specs.declared.limits.Limits.{Limits}
use Rattle.lfm_words.specs.declared.wakes.Wake.{Wake}
use Rattle.lfm_words.specs.declared.wakes.Wake.TheVariants.{Waiting}
use Rattle.lfm_protocol.specs.Core.{Core, Moved, limits}
use Rattle.lfm_laws.specs.laws.Ranges.{LimitsStay}
use Rattle.lfm_laws.specs.laws.Schedules.{Event, begins, makes, happens, run_of}
use Rattle.lfm_protocol.specs.Seats.{absent, is_seat, wake}
use Rattle.lfm_protocol.specs.Step.{claims_word, step_of, start}
use Rattle.lfm_laws.proofs.steady.frames.SameSeats.{seats-step, seats-begin}

budget-claims_word : (c : Core) (t : ℕ) (w : Wake) → (claims_word c t w).budget ≡ c.budget
budget-claims_word c t Waiting = refl
budget-claims_word c t _ = refl

budget-step_of : (c : Core) (s t : ℕ) (k : Option Kind) → (step_of c s t k).core.budget ≡ c.budget
budget-step_of c s t None = refl
budget-step_of c s t (Some Kind.WakeExchange) = budget-claims_word c t (wake c.wakes t)
budget-step_of c s t (Some _) = refl

-- the two outcomes of a test: the turn is made, or it is refused
budget_of_two : (c : Core) (b : Bool) (x y : Moved) → x.core.budget ≡ c.budget → y.core.budget ≡ c.budget
    → (if b then x else y).core.budget ≡ c.budget
budget_of_two c true x y p q = p
budget_of_two c false x y p q = q

pub budget-happens : (c : Core) (e : Event) → (happens c e).core.budget ≡ c.budget
budget-happens c (begins s call) = budget_of_two c (is_seat c.seats s) _ _ refl refl
budget-happens c (makes s) = budget_of_two c (is_seat c.seats s) _ _ (budget-step_of c s _ _) refl

seats-happens : (c : Core) (e : Event) → length (happens c e).core.seats ≡ length c.seats
seats-happens c (begins s call) = seats-begin c s call
seats-happens c (makes s) = seats-step c s

same_limits : (c d : Core) → length d.seats ≡ length c.seats → d.budget ≡ c.budget → limits d ≡ limits c
same_limits c d seats budget i = record { seats = seats i; budget = budget i }

pub run_limits : (c : Core) (events : List Event) → limits (run_of c events) ≡ limits c
run_limits c [] = refl
run_limits c (e ∷ later) =
    run_limits (happens c e).core later ∙ same_limits c (happens c e).core (seats-happens c e) (budget-happens c e)

start_limits : (l : Limits) → limits (start l) ≡ l
start_limits l i = record { seats = length-replicate l.seats absent i; budget = l.budget }

pub limits_stay : LimitsStay
limits_stay l events = run_limits (start l) events ∙ start_limits l
