-- Lists and results that come from threads: items by their place, and values of a result.
use Rattle.std.proofs.Common.{◌+◌, arith, subst, ◌≡◌, ℕ, zero, suc, List, [], ◌∷◌, get_or, sym, Result, Ok, Err, IfErr, IfOk, IsErrAnd}
use mathlib.Core.Option.{some, some-injective, some-ne-none}
use lib.ListN.{get_elem?}

-- the item at a place is what is read there
pub read_here : {A : Type 0} (xs : List A) (i : ℕ) (x d : A) → get_elem? xs i ≡ some x → get_or xs i d ≡ x
read_here [] i x d e = absurd (some-ne-none x (sym e))
read_here (y ∷ xs) zero x d e = some-injective y x e
read_here (y ∷ xs) (suc i) x d e = read_here xs i x d e

-- if P implies Q for each value, then it does for the value of a result
pub if_ok : {X E : Type 0} (P Q : X → Type 0) (r : Result X E) → ((x : X) → P x → Q x) → IfOk r P → IfOk r Q
if_ok P Q (Ok x) f p = f x p
if_ok P Q (Err e) f p = tt

pub both_ok : {X E : Type 0} (P Q S : X → Type 0) (r : Result X E) → ((x : X) → P x → Q x → S x) → IfOk r P → IfOk r Q → IfOk r S
both_ok P Q S (Ok x) f p q = f x p q
both_ok P Q S (Err e) f p q = tt

-- what holds of the fault that was met holds of the fault that is answered
pub fault_is : {X E : Type 0} (P : E → Type 0) (r : Result X E) (e : E) → IsErrAnd r (λ f. f ≡ e) → P e → IfErr r P
fault_is P (Ok x) e is p = tt
fault_is P (Err f) e is p = subst P (sym is) p

-- a place plus 0 is the place
pub in_place : {A : Type 0} (xs : List A) (n : ℕ) (x : A) → get_elem? xs (n + 0) ≡ some x → get_elem? xs n ≡ some x
in_place xs n x at = let e : n + 0 ≡ n = omega arith in subst (λ (k : ℕ). get_elem? xs k ≡ some x) e at
