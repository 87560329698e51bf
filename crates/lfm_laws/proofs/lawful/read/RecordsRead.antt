-- The records whose stamps follow a number: how many there are, and the one at each index.
use Rattle.std.proofs.Common.{◌≡◌, ℕ, zero, suc, ◌+◌, ◌<◌, length, get_or, refl, ap, arith}
use Rattle.lfm_words.specs.declared.pop_lists.Record.{Record}
use Rattle.lfm_laws.specs.steady.Numbered.{records}

pub length-records : (pushed_at : ℕ → ℕ) (last n : ℕ) → length (records pushed_at last n) ≡ n
length-records pushed_at last zero = refl
length-records pushed_at last (suc n) = ap suc (length-records pushed_at (last + 1) n)

pub get_or-records : (pushed_at : ℕ → ℕ) (last n k : ℕ) (d : Record) → k < n
    → get_or (records pushed_at last n) k d ≡ record { seat = pushed_at (last + k + 1); stamp = last + k + 1 }
get_or-records pushed_at last zero k d within = absurd (omega arith)
get_or-records pushed_at last (suc n) zero d within = let here : last + 0 + 1 ≡ last + 1 = omega arith in rw here refl
get_or-records pushed_at last (suc n) (suc k) d within =
    let there : last + suc k + 1 ≡ last + 1 + k + 1 = omega arith in
    rw there (get_or-records pushed_at (last + 1) n k d (omega arith))
