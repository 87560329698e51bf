use Rattle.std.proofs.Common.{arith, ◌≡◌, ℕ, ◌≤◌, ◌+◌, List, sym, subst}
use Rattle.std.specs.Prelude.{All, sum}
use Rattle.std.proofs.lemmas.List.Elements.{All-replicate}
use Rattle.std.proofs.lemmas.List.Folds.{sum_by-replicate}
use Rattle.lfm_condvar.proofs.waiters.Waiters.empty.Goals as goal

pub invariant_of-result-clause-counted : goal.invariant_of-result-clause-counted
invariant_of-result-clause-counted c = let e = c.in_ok-counts.ensures in let zeros = e.items_if_clones_equal (λ y q. q) in
    (e.len, subst (λ (xs : List ℕ). sum xs ≡ 0) (sym zeros) (let s = sum_by-replicate (λ (x : ℕ). x) (c.args.seats + 1) 0 in omega arith))

pub invariant_of-result-clause-within : goal.invariant_of-result-clause-within
invariant_of-result-clause-within c = let e = c.in_ok-counts.ensures in let zeros = e.items_if_clones_equal (λ y q. q) in
    subst (All (λ (x : ℕ). x ≤ c.args.budget)) (sym zeros) (All-replicate (λ (x : ℕ). x ≤ c.args.budget) (c.args.seats + 1) 0 (omega arith))
