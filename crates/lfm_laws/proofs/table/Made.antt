-- What the next step of a seat does to the words, the seats, the pop list and the turn, by the number that it finds.
use Rattle.std.proofs.Common.{◌≡◌, ℕ, Option, Some, None, length, set, refl, sym, ap, ◌∙◌}
use Rattle.std.specs.Prelude.{slice_index}
use Rattle.lfm_protocol.specs.declared.kinds.Kind.{Kind}
use Rattle.lfm_words.specs.Popped.{oldest}
use Rattle.lfm_protocol.specs.Core.{Core}
use Rattle.lfm_laws.specs.steady.Ghost.{Ghost}
use Rattle.lfm_protocol.specs.Points.{kind, target}
use Rattle.lfm_protocol.specs.Seats.{seat, with_entry, IsSeat}
use Rattle.lfm_laws.specs.steady.Steady.{Fits, NumbersFit}
use Rattle.lfm_protocol.specs.Step.{made, claims_word, step_of}
use Rattle.lfm_words.specs.declared.wakes.Wake.{Wake}
use Rattle.lfm_words.specs.declared.wakes.Wake.TheVariants.{Waiting}
use Rattle.lfm_protocol.specs.Seats.{wake}
use Rattle.lfm_laws.specs.table.Words.{words, index, written, written_by, stepped_by, stepped_of, popped_by_step, popped_of, AreNarrow}
use Rattle.lfm_laws.proofs.table.Exact.{exact_of_fits}
use Rattle.lfm_laws.proofs.table.Narrow.{narrow_step, narrow_with}
use Rattle.lfm_laws.proofs.table.Steps.{found_by, found_here, words_step_of, seats_step_of, turn_step_of, popped_step_of}

-- the number that seat s finds
abbrev pub found : Core → ℕ → ℕ
found c s = slice_index (words c) (index (seat c.seats s) (length c.seats) s)

found_is : (c : Core) (g : Ghost) (s : ℕ) → IsSeat c.seats s → Fits c g → NumbersFit c → AreNarrow c.seats
    → found c s ≡ found_by c (target (seat c.seats s).point s) (kind (seat c.seats s).point)
found_is c g s is fits fit narrow =
    let p = (seat c.seats s).point in
    found_here c (seat c.seats s) s (target p s) (kind p) fits.sizes (exact_of_fits c g s is fits fit narrow)

pub words_of_step : (c : Core) (g : Ghost) (s : ℕ) → IsSeat c.seats s → Fits c g → NumbersFit c → AreNarrow c.seats
    → words (made c s).core ≡ set (words c) (index (seat c.seats s) (length c.seats) s) (written (seat c.seats s) s (found c s))
words_of_step c g s is fits fit narrow =
    let x = seat c.seats s in
    words_step_of c s (target x.point s) (kind x.point) fits.sizes (exact_of_fits c g s is fits fit narrow)
    ∙ ap (λ n. set (words c) (index x (length c.seats) s) (written_by x s n (kind x.point))) (sym (found_is c g s is fits fit narrow))

pub seat_of_step : (c : Core) (g : Ghost) (s : ℕ) → IsSeat c.seats s → Fits c g → NumbersFit c → AreNarrow c.seats
    → (made c s).core.seats ≡ with_entry c.seats s (stepped_by (seat c.seats s) s (found c s) (oldest c.popped)).seat
seat_of_step c g s is fits fit narrow =
    let x = seat c.seats s in
    seats_step_of c s (target x.point s) (kind x.point) (exact_of_fits c g s is fits fit narrow)
    ∙ ap (λ n. with_entry c.seats s (stepped_of x s n (oldest c.popped) (kind x.point)).seat) (sym (found_is c g s is fits fit narrow))

pub turn_of_step : (c : Core) (g : Ghost) (s : ℕ) → IsSeat c.seats s → Fits c g → NumbersFit c → AreNarrow c.seats
    → (made c s).turn ≡ (stepped_by (seat c.seats s) s (found c s) (oldest c.popped)).turn
turn_of_step c g s is fits fit narrow =
    let x = seat c.seats s in
    turn_step_of c s (target x.point s) (kind x.point) (exact_of_fits c g s is fits fit narrow)
    ∙ ap (λ n. (stepped_of x s n (oldest c.popped) (kind x.point)).turn) (sym (found_is c g s is fits fit narrow))

pub popped_of_step : (c : Core) (g : Ghost) (s : ℕ) → IsSeat c.seats s → Fits c g → NumbersFit c → AreNarrow c.seats
    → (made c s).core.popped ≡ popped_by_step (seat c.seats s) s (found c s) c.popped
popped_of_step c g s is fits fit narrow =
    let x = seat c.seats s in
    popped_step_of c s (target x.point s) (kind x.point) (exact_of_fits c g s is fits fit narrow)
    ∙ ap (λ n. popped_of x (target x.point s) n c.popped (kind x.point)) (sym (found_is c g s is fits fit narrow))

-- No step changes the budget

budget-claims_word : (c : Core) (t : ℕ) (w : Wake) → (claims_word c t w).budget ≡ c.budget
budget-claims_word c t Waiting = refl
budget-claims_word c t _ = refl

budget_step_of : (c : Core) (s t : ℕ) (k : Option Kind) → (step_of c s t k).core.budget ≡ c.budget
budget_step_of c s t None = refl
budget_step_of c s t (Some Kind.CountExchange) = refl
budget_step_of c s t (Some Kind.CountAdd) = refl
budget_step_of c s t (Some Kind.CountSubtract) = refl
budget_step_of c s t (Some Kind.OwnerLoad) = refl
budget_step_of c s t (Some Kind.OwnerStore) = refl
budget_step_of c s t (Some Kind.PushLoad) = refl
budget_step_of c s t (Some Kind.PushExchange) = refl
budget_step_of c s t (Some Kind.ClearHead) = refl
budget_step_of c s t (Some Kind.LinkLoad) = refl
budget_step_of c s t (Some Kind.LinkStore) = refl
budget_step_of c s t (Some Kind.HandoffLoad) = refl
budget_step_of c s t (Some Kind.HandoffStore) = refl
budget_step_of c s t (Some Kind.HandoffExchange) = refl
budget_step_of c s t (Some Kind.WakeLoad) = refl
budget_step_of c s t (Some Kind.WakeStore) = refl
budget_step_of c s t (Some Kind.WakeExchange) = budget-claims_word c t (wake c.wakes t)

pub budget_of_step : (c : Core) (s : ℕ) → (made c s).core.budget ≡ c.budget
budget_of_step c s = budget_step_of c s (target (seat c.seats s).point s) (kind (seat c.seats s).point)

-- After the step the seat numbers that seats have read still fit the lower half of a word
pub narrow_of_step : (c : Core) (g : Ghost) (s : ℕ) → IsSeat c.seats s → Fits c g → NumbersFit c → AreNarrow c.seats → AreNarrow (made c s).core.seats
narrow_of_step c g s is fits fit narrow =
    let x = seat c.seats s in
    let after = stepped_by x s (found c s) (oldest c.popped) in
    rw (seat_of_step c g s is fits fit narrow)
    (narrow_with c.seats s after.seat is (narrow_step x s (found c s) (oldest c.popped) (narrow s)) narrow)
