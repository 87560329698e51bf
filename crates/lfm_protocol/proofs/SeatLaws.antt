-- Reads and writes of a seat and its words, by the seat's number.
use Rattle.std.proofs.Common.{◌≡◌, ℕ, zero, suc, ◌+◌, ◌-◌, ◌<◌, ◌≤◌, ◌&&◌, false, nat_lt, List, length, get_or, set, refl, sym, ap, ◌∙◌, arith, tests}
use Rattle.std.proofs.lemmas.List.{get_or_read, get_or_past}
use Rattle.lfm_protocol.specs.Seats.{entry, with_entry}

-- reading by index gives the entry
pub entry_read : {A : Type 0} (d : A) (xs : List A) (s : ℕ) (x : A) → 0 < s → s ≤ length xs → x ≡ get_or xs (s - 1) x → x ≡ entry d xs s
unfolding entry
entry_read d xs zero x above within read = absurd (omega arith)
entry_read d xs (suc n) x above within read =
    let same : suc n - 1 ≡ n = omega arith in
    get_or_read xs n x (omega arith) (read ∙ ap (λ k. get_or xs k x) same) d

-- a write by index is a write of the entry
pub with_entry_at : {A : Type 0} (xs : List A) (s : ℕ) (x : A) → 0 < s → set xs (s - 1) x ≡ with_entry xs s x
unfolding with_entry
with_entry_at xs zero x above = absurd (omega arith)
with_entry_at xs (suc n) x above = let same : suc n - 1 ≡ n = omega arith in ap (λ k. set xs k x) same

-- no seat has the number 0 or a number past the last
pub entry_absent : {A : Type 0} (d : A) (xs : List A) (s : ℕ) → (nat_lt 0 s && nat_lt s (length xs + 1)) ≡ false → d ≡ entry d xs s
unfolding entry
entry_absent d xs zero none = refl
entry_absent d xs (suc n) none =
    let past : length xs ≤ n = search (tests, arith, none) in
    sym (get_or_past xs n d past)
