-- If a fact holds of each item of a list and of one further item, it holds of each item of the list with that item at its end.
use Rattle.std.specs.Prelude.{All}
use Rattle.std.proofs.Common.{◌≡◌, ℕ, List, [], ◌∷◌, ◌++◌}
use Rattle.lfm_mutex.proofs.Lists.{all_by_place, each_of_all}
use Rattle.lfm_condvar.proofs.Begins.{and_last}

pub all_and_last : {A : Type 0} (P : A → Type 0) (xs ys : List A) (x : A) → ys ≡ xs ++ x ∷ [] → P x → All P xs → All P ys
all_and_last {A} P xs ys x is p old = all_by_place P ys (and_last (λ (j : ℕ) (y : A). P y) xs ys x is p (each_of_all P xs old))
