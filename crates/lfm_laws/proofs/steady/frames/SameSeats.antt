-- No start of a call and no step changes the number of seats.
use Rattle.std.proofs.Common.{◌≡◌, ℕ, Bool, true, false, Option, Some, None, length, refl, ap, if◌then◌else◌, ◌∙◌}
use Rattle.lfm_protocol.specs.declared.answers.Call.{Call}
use Rattle.lfm_protocol.specs.declared.kinds.Kind.{Kind}
use Rattle.lfm_protocol.specs.Core.{Core, Moved}
use Rattle.lfm_protocol.specs.Seats.{is_seat, wake}
use Rattle.lfm_protocol.specs.Step.{claims_word, step_of, step, begin}
use Rattle.lfm_words.specs.declared.wakes.Wake.{Wake}
use Rattle.lfm_words.specs.declared.wakes.Wake.TheVariants.{Waiting}
use Rattle.lfm_laws.proofs.steady.frames.Entries.{length-with_entry}

pub seats-claims_word : (c : Core) (t : ℕ) (w : Wake) → (claims_word c t w).seats ≡ c.seats
seats-claims_word c t Waiting = refl
seats-claims_word c t _ = refl

pub seats-step_of : (c : Core) (s t : ℕ) (k : Option Kind) → length (step_of c s t k).core.seats ≡ length c.seats
seats-step_of c s t None = refl
seats-step_of c s t (Some Kind.CountExchange) = length-with_entry c.seats s _
seats-step_of c s t (Some Kind.CountAdd) = length-with_entry c.seats s _
seats-step_of c s t (Some Kind.CountSubtract) = length-with_entry c.seats s _
seats-step_of c s t (Some Kind.OwnerLoad) = length-with_entry c.seats s _
seats-step_of c s t (Some Kind.OwnerStore) = length-with_entry c.seats s _
seats-step_of c s t (Some Kind.PushLoad) = length-with_entry c.seats s _
seats-step_of c s t (Some Kind.PushExchange) = length-with_entry c.seats s _
seats-step_of c s t (Some Kind.ClearHead) = length-with_entry c.seats s _
seats-step_of c s t (Some Kind.LinkLoad) = length-with_entry c.seats s _
seats-step_of c s t (Some Kind.LinkStore) = length-with_entry c.seats s _
seats-step_of c s t (Some Kind.HandoffLoad) = length-with_entry c.seats s _
seats-step_of c s t (Some Kind.HandoffStore) = length-with_entry c.seats s _
seats-step_of c s t (Some Kind.HandoffExchange) = length-with_entry c.seats s _
seats-step_of c s t (Some Kind.WakeLoad) = length-with_entry c.seats s _
seats-step_of c s t (Some Kind.WakeStore) = length-with_entry c.seats s _
seats-step_of c s t (Some Kind.WakeExchange) =
    length-with_entry (claims_word c t (wake c.wakes t)).seats s _ ∙ ap length (seats-claims_word c t (wake c.wakes t))

-- the two outcomes of a test: the turn is made, or it is refused
pub seats_of_two : (c : Core) (b : Bool) (x y : Moved) → length x.core.seats ≡ length c.seats → length y.core.seats ≡ length c.seats
    → length (if b then x else y).core.seats ≡ length c.seats
seats_of_two c true x y p q = p
seats_of_two c false x y p q = q

pub seats-step : (c : Core) (s : ℕ) → length (step c s).core.seats ≡ length c.seats
seats-step c s = seats_of_two c (is_seat c.seats s) _ _ (seats-step_of c s _ _) refl

pub seats-begin : (c : Core) (s : ℕ) (call : Call) → length (begin c s call).core.seats ≡ length c.seats
seats-begin c s call = seats_of_two c (is_seat c.seats s) _ _ (length-with_entry c.seats s _) refl
