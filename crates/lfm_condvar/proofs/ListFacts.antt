-- Room for one more waiter, and how many waiters there may be.
use Rattle.std.proofs.Common.{◌≡◌, ℕ, zero, suc, ◌+◌, ◌*◌, ◌<◌, ◌≤◌, List, [], ◌∷◌, ◌++◌, length, refl, sym, ◌∙◌, ap, subst, arith, get_or}
use Rattle.std.specs.Prelude.{All, sum}
use Rattle.std.proofs.lemmas.List.Sums.{sum_by-le}
use mathlib.Core.Logic.{dite}
use native.Mathlib.Decide.{ℕ_discrete}
use Rattle.lfm_model.specs.Sums.{sum_to}
use Rattle.lfm_model.proofs.Sums.{one_at, one_most, one_other, one_within, sum_add, sum_none, sum_below}
use Rattle.lfm_condvar.specs.declared.waiters.Waiter.{Waiter}
use Rattle.lfm_condvar.specs.Lists.{GoOnFrom, times, Among}

pub go_on_more : (k : ℕ) (ws : List Waiter) (w : Waiter) → GoOnFrom k ws → w.ticket ≡ k + length ws + 1 → GoOnFrom k (ws ++ w ∷ [])
go_on_more k [] w g e = (omega arith, tt)
go_on_more k (x ∷ ws) w g e = (g.0, go_on_more (k + 1) ws w g.1 (omega arith))

-- tickets that go on from those of a list
pub go_on_join : (k n : ℕ) (ws xs : List Waiter) → GoOnFrom k ws → n ≡ k + length ws → GoOnFrom n xs → GoOnFrom k (ws ++ xs)
go_on_join k n [] xs g e h = subst (λ (j : ℕ). GoOnFrom j xs) (omega arith) h
go_on_join k n (w ∷ ws) xs g e h = (g.0, go_on_join (k + 1) n ws xs g.1 (omega arith) h)

pub times_more : (s : ℕ) (ws : List Waiter) (w : Waiter) → times s (ws ++ w ∷ []) ≡ times s ws + one_at w.seat s
times_more s [] w = omega arith
times_more s (x ∷ ws) w = let h = times_more s ws w in omega arith

pub among_more : (n : ℕ) (ws : List Waiter) (w : Waiter) → Among n ws → 0 < w.seat → w.seat ≤ n → Among n (ws ++ w ∷ [])
among_more n [] w a p q = (p, (q, tt))
among_more n (x ∷ ws) w a p q = (a.0, (a.1.0, among_more n ws w a.1.1 p q))

times_total : (n : ℕ) (ws : List Waiter) → Among n ws → length ws ≡ sum_to (λ s. times s ws) n
times_total n [] a = sym (sum_none n)
times_total n (w ∷ ws) a = let rest = times_total n ws a.1.1 in let one = one_within w.seat n a.0 a.1.0 in let parts = sum_add (one_at w.seat) (λ s. times s ws) n in omega arith

-- There is room for one more: each seat is listed at most once, and this one not at all
pub has_room : (n s : ℕ) (ws : List Waiter) → Among n ws → ((k : ℕ) → times k ws ≤ 1) → times s ws ≡ 0 → 0 < s → s ≤ n → length ws < n
has_room n s ws a once none p q = let t = times_total n ws a in let b = sum_below (λ k. times k ws) 1 n s once p q (omega arith) in omega arith

pub once_more : (ws : List Waiter) (w : Waiter) → ((k : ℕ) → times k ws ≤ 1) → times w.seat ws ≡ 0 → (k : ℕ) → times k (ws ++ w ∷ []) ≤ 1
once_more ws w once none k = let m = times_more k ws w in dite (ℕ_discrete w.seat k)
    (λ e. let x = one_most w.seat k in let z : times k ws ≡ 0 = ap (λ j. times j ws) (sym e) ∙ none in omega arith)
    (λ ne. let x = one_other w.seat k ne in let o = once k in omega arith)

-- The sum of numbers of at most b each is at most b times their number
pub sum_within : (b : ℕ) (xs : List ℕ) → All (λ x. x ≤ b) xs → sum xs ≤ length xs * b
sum_within b xs h = sum_by-le (λ x. x) b xs h

pub get_or_any : {A : Type 0} (xs : List A) (i : ℕ) (d e : A) → i < length xs → get_or xs i d ≡ get_or xs i e
get_or_any [] i d e h = absurd (omega arith)
get_or_any (x ∷ xs) zero d e h = refl
get_or_any (x ∷ xs) (suc i) d e h = get_or_any xs i d e (omega arith)
