-- Which waiters are in lists that were put together.
use Rattle.std.proofs.Common.{◌≡◌, ◌⊎◌, ⊎_elim, inl, inr, List, [], ◌∷◌, ◌++◌, refl}
use Rattle.lfm_plain_condvar_laws.specs.Waits.{IsIn, Waiter}

pub in_first : (x : Waiter) (xs ys : List Waiter) → IsIn x xs → IsIn x (xs ++ ys)
in_first x [] ys i = absurd i
in_first x (z ∷ xs) ys (inl e) = inl e
in_first x (z ∷ xs) ys (inr i) = inr (in_first x xs ys i)

pub in_second : (x : Waiter) (xs ys : List Waiter) → IsIn x ys → IsIn x (xs ++ ys)
in_second x [] ys i = i
in_second x (z ∷ xs) ys i = inr (in_second x xs ys i)

-- without y, unless it is y
pub without : (x y : Waiter) (xs ys : List Waiter) → IsIn x (xs ++ y ∷ ys) → (x ≡ y) ⊎ IsIn x (xs ++ ys)
without x y [] ys i = i
without x y (z ∷ xs) ys (inl e) = inr (inl e)
without x y (z ∷ xs) ys (inr i) = ⊎_elim (λ e. inl e) (λ a. inr (inr a)) (without x y xs ys i)

-- it is in the list, or it is the last, which was added
pub in_parts : (x : Waiter) (xs : List Waiter) (y : Waiter) → IsIn x (xs ++ y ∷ []) → IsIn x xs ⊎ (x ≡ y)
in_parts x [] y (inl e) = inr e
in_parts x [] y (inr i) = absurd i
in_parts x (z ∷ xs) y (inl e) = inl (inl e)
in_parts x (z ∷ xs) y (inr i) = ⊎_elim (λ a. inl (inr a)) (λ e. inr e) (in_parts x xs y i)

-- whoever is in the list is in it too with one more
pub among : (x : Waiter) (xs : List Waiter) (y : Waiter) (ys : List Waiter) → IsIn x (xs ++ ys) → IsIn x (xs ++ y ∷ ys)
among x [] y ys i = inr i
among x (z ∷ xs) y ys (inl e) = inl e
among x (z ∷ xs) y ys (inr i) = inr (among x xs y ys i)

pub in_middle : (x : Waiter) (xs ys : List Waiter) → IsIn x (xs ++ x ∷ ys)
in_middle x [] ys = inl refl
in_middle x (z ∷ xs) ys = inr (in_middle x xs ys)
