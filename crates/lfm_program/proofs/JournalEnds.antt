-- The end of a run: the monitor can be closed. Each entry of the journal is by one of the passes, since they wrote as many
-- entries as the journal has.
use Rattle.std.proofs.Common.{◌≡◌, ◌≤◌, ◌<◌, ◌+◌, ◌-◌, ◌==◌, ℕ, zero, suc, Bool, true, false, true≢false, if◌then◌else◌, List, [], ◌∷◌, length, refl, sym, ◌∙◌, ap, subst, arith}
use mathlib.Core.Logic.{dite}
use mathlib.Core.Option.{some, some-ne-none, some-injective}
use native.Mathlib.Decide.{ℕ_discrete}
use lib.ListN.{get_elem?}
use Rattle.lfm_model.specs.declared.refusals.Missing.{Missing}
use Rattle.lfm_model.specs.declared.refusals.Missing.TheVariants.{NotBack, Holding, Asleep}
use Rattle.lfm_model.specs.declared.journals.Entry.{Entry}
use Rattle.lfm_model.specs.Journals.{own, Within, total}
use Rattle.lfm_model.specs.Sums.{sum_to}
use Rattle.lfm_model.proofs.Sums.{one_at, one_same, one_other, sum_add, sum_ext, sum_none}
use Rattle.lfm_mutex.specs.Close.{FirstMissing, Hinders, Idle}
use Rattle.lfm_mutex.specs.calls.Sight.{Sight}

one_past : (k n : ℕ) → n < k → sum_to (one_at k) n ≡ 0
one_past k zero h = refl
one_past k (suc n) h = let a = one_past k n (omega arith) in let b = one_other k (suc n) (λ e. omega arith) in omega arith

one_or_none : (k n : ℕ) → sum_to (one_at k) n ≤ 1
one_or_none k zero = omega arith
one_or_none k (suc n) = dite (ℕ_discrete k (suc n))
    (λ e. let a = one_past k n (omega arith) in let b = one_same k (suc n) e in omega arith)
    (λ ne. let a = one_or_none k n in let b = one_other k (suc n) ne in omega arith)

one_inside : (k n : ℕ) → sum_to (one_at k) n ≡ 1 → (0 < k) × (k ≤ n)
one_inside k zero e = absurd (omega arith)
one_inside k (suc n) e = dite (ℕ_discrete k (suc n))
    (λ q. (omega arith, omega arith))
    (λ ne. let b = one_other k (suc n) ne in let a = one_inside k n (omega arith) in (a.0, let c = a.1 in omega arith))

module _ {A : Type 0} where
  own_more : (b : Bool) (e : Entry A) (xs : List (Entry A)) → length (if b then e ∷ xs else xs) ≡ (if b then 1 else 0) + length xs
  own_more true e xs = omega arith
  own_more false e xs = omega arith

  one_more : (n : ℕ) (e : Entry A) (es : List (Entry A)) → sum_to (λ s. length (own s (e ∷ es))) n ≡ sum_to (one_at e.seat) n + sum_to (λ s. length (own s es)) n
  one_more n e es = sum_ext (λ s. length (own s (e ∷ es))) (λ s. one_at e.seat s + length (own s es)) n (λ s. own_more (e.seat == s) e (own s es))
      ∙ sum_add (one_at e.seat) (λ s. length (own s es)) n

  -- the seats have together no more entries than the journal
  own_least : (n : ℕ) (es : List (Entry A)) → sum_to (λ s. length (own s es)) n ≤ length es
  own_least n [] = let a = sum_none n in omega arith
  own_least n (e ∷ es) = let a = one_more n e es in let b = own_least n es in let c = one_or_none e.seat n in omega arith

  -- if they have as many entries as the journal, each entry is by one of the seats
  pub within_counted : (n : ℕ) (es : List (Entry A)) → length es ≤ sum_to (λ s. length (own s es)) n → Within n es
  within_counted n [] h = tt
  within_counted n (e ∷ es) h = let a = one_more n e es in let b = own_least n es in let c = one_or_none e.seat n in
      let here = one_inside e.seat n (omega arith) in (here.0, (here.1, within_counted n es (omega arith)))

-- the sum over the items is the sum over their numbers, if the two agree for each item
pub total_is_sum : {A : Type 0} (f : A → ℕ) (g : ℕ → ℕ) (xs : List A) (k : ℕ) → ((j : ℕ) (x : A) → get_elem? xs j ≡ some x → f x ≡ g (k + j + 1)) → sum_to g (k + length xs) ≡ sum_to g k + total f xs
total_is_sum f g [] k each = let e : k + 0 ≡ k = omega arith in let a = ap (sum_to g) e in omega arith
total_is_sum f g (x ∷ xs) k each =
    let rest = total_is_sum f g xs (suc k) (λ j y at. each (suc j) y at ∙ ap g (omega arith)) in
    let here : f x ≡ g (suc k) = each 0 x refl ∙ ap g (omega arith) in
    let e : k + suc (length xs) ≡ suc k + length xs = omega arith in
    let a = ap (sum_to g) e in omega arith

pub at_place : {A : Type 0} (xs : List A) (i : ℕ) → i < length xs → (x : A) × (get_elem? xs i ≡ some x)
at_place [] i h = absurd (omega arith)
at_place (x ∷ xs) zero h = (x, refl)
at_place (x ∷ xs) (suc i) h = at_place xs i (omega arith)

-- there is a seat for each number, and none holds or sleeps: nothing is missing
pub none_missing : {A T : Type 0} (look : A → Sight T) (xs : List A) (n : ℕ) (m : Missing) → length xs ≡ n
    → ((j : ℕ) (x : A) → get_elem? xs j ≡ some x → Idle (look x) × ((look x).number ≡ j + 1)) → FirstMissing look xs n m → ⊥
none_missing look xs n (NotBack k) long each e =
    let there = at_place xs (k - 1) (let a = e.0 in let b = e.1 in omega arith) in
    e.2 (k - 1) there.0 there.1 (let a = (each (k - 1) there.0 there.1).1 in let b = e.0 in omega arith)
none_missing look xs n (Holding k) long each e = let h = e.2 in let t : Hinders (Holding k) (look h.1) = h.3 in
    let i : Idle (look h.1) = (each h.0 h.1 h.2).0 in let a = i.0 in let b = t.1 in omega arith
none_missing look xs n (Asleep k) long each e = let h = e.2 in let t : Hinders (Asleep k) (look h.1) = h.3 in
    let i : Idle (look h.1) = (each h.0 h.1 h.2).0 in true≢false (sym t.2 ∙ i.1)

abbrev cons_at : ℕ → (ℕ → ℕ) → ℕ → ℕ
cons_at x f zero = x
cons_at x f (suc j) = f j

-- one function that gives the number of each item
pub record Chosen {A : Type 0} (P : ℕ → A → ℕ → Type 0) (xs : List A) : Type 0 where
  pub at : ℕ → ℕ
  pub each : (j : ℕ) (x : A) → get_elem? xs j ≡ some x → P j x (at j)

pub choose : {A : Type 0} (P : ℕ → A → ℕ → Type 0) (xs : List A) → ((j : ℕ) (x : A) → get_elem? xs j ≡ some x → (k : ℕ) × P j x k) → Chosen P xs
choose P [] h = record { at = λ j. 0; each = λ j x e. absurd (some-ne-none x (sym e)) }
choose {A = A} P (x ∷ xs) h = let first = h 0 x refl in let rest = choose (λ j y k. P (suc j) y k) xs (λ j y e. h (suc j) y e) in record {
  at = cons_at first.0 rest.at;
  each = each first.0 first.1 rest.at rest.each;
} where
  each : (k : ℕ) → P 0 x k → (f : ℕ → ℕ) → ((j : ℕ) (y : A) → get_elem? xs j ≡ some y → P (suc j) y (f j)) → (j : ℕ) (y : A) → get_elem? (x ∷ xs) j ≡ some y → P j y (cons_at k f j)
  each k p f q zero y e = subst (λ (z : A). P 0 z k) (some-injective x y e) p
  each k p f q (suc j) y e = q j y e
