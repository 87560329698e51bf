-- The records before one that stays queued: whether seat t has one of them, and how an event makes them fewer.
use Rattle.std.proofs.Common.{◌≡◌, ◌≢◌, ℕ, zero, suc, ◌+◌, ◌-◌, ◌≤◌, ◌<◌, List, [], ◌∷◌, ◌++◌, length, get_or, nat_eq, refl, sym, ap, ◌∙◌, inl, inr, arith, if◌then◌else◌}
use Rattle.std.proofs.lemmas.Bool.{cases_Bool, eq-eqb, ne_eqb}
use Rattle.std.proofs.lemmas.List.{get_or_append_left}
use Rattle.std.proofs.Math.Seq.{get_or-append_seam}
use Rattle.lfm_words.specs.declared.pop_lists.Record.{Record}
use Rattle.lfm_laws.specs.steady.Ghost.{Ghost}
use Rattle.lfm_laws.specs.steady.Numbered.{records}
use Rattle.lfm_laws.specs.steady.EventOutcome.{GoesOn}
use Rattle.lfm_laws.specs.steady.Steady.{HasQueue}
use Rattle.lfm_laws.proofs.lawful.bounds.HistoryCounts.{popped_by_history, pushed_by_history}
use Rattle.lfm_laws.proofs.lawful.read.RecordsRead.{length-records, get_or-records}

-- The records before the one that stays

-- whether seat t was pushed with one of the n stamps after k
abbrev pub ahead : (ℕ → ℕ) → ℕ → ℕ → ℕ → ℕ
ahead f k zero t = 0
ahead f k (suc n) t = if nat_eq (f (k + 1)) t then 1 else ahead f (k + 1) n t

pub ahead-le : (f : ℕ → ℕ) (k n t : ℕ) → ahead f k n t ≤ 1
ahead-le f k zero t = omega arith
ahead-le f k (suc n) t =
    elim (cases_Bool (nat_eq (f (k + 1)) t)) [
      | inl here ↦ rw here (omega arith)
      | inr other ↦ rw other (ahead-le f (k + 1) n t)
    ]

-- it is the same for functions that agree on these stamps
ahead_agrees : (f f' : ℕ → ℕ) (k n t : ℕ) → ((x : ℕ) → k < x → x ≤ k + n → f' x ≡ f x) → ahead f' k n t ≡ ahead f k n t
ahead_agrees f f' k zero t same = refl
ahead_agrees f f' k (suc n) t same =
    let first = same (k + 1) (omega arith) (omega arith) in
    let rest = ahead_agrees f f' (k + 1) n t (λ x above within. same x (omega (arith, above)) (omega (arith, within))) in
    rw (first, rest) refl

-- it is 0 if no such stamp was pushed for t
pub ahead_none : (f : ℕ → ℕ) (k n t : ℕ) → ((x : ℕ) → k < x → x ≤ k + n → f x ≢ t) → ahead f k n t ≡ 0
ahead_none f k zero t none = refl
ahead_none f k (suc n) t none =
    let rest = ahead_none f (k + 1) n t (λ x above within. none x (omega (arith, above)) (omega (arith, within))) in
    rw (ne_eqb (f (k + 1)) t (none (k + 1) (omega arith) (omega arith))) rest

-- it is 1 if the first of these stamps was pushed for t
pub ahead_first : (f : ℕ → ℕ) (k n t : ℕ) → f (k + 1) ≡ t → 0 < n → ahead f k n t ≡ 1
ahead_first f k zero t here some = absurd (omega (arith, some))
ahead_first f k (suc n) t here some = rw (eq-eqb (f (k + 1)) t here) refl

-- the stamps without the first give no more
ahead_later : (f : ℕ → ℕ) (k n t : ℕ) → ahead f (k + 1) n t ≤ ahead f k (suc n) t
ahead_later f k n t =
    elim (cases_Bool (nat_eq (f (k + 1)) t)) [
      | inl here ↦ let most = ahead-le f (k + 1) n t in rw here (omega (arith, most))
      | inr other ↦ rw other (omega arith)
    ]

-- What a run leaves unchanged of the records

abbrev nothing : Record
nothing = record { seat = 0; stamp = 0 }

-- what was pushed stays recorded
pushed_stays : (g h : Ghost) (pushes pops answers : List Record) → GoesOn g h pushes pops answers → (x : ℕ) → 0 < x → x ≤ g.pushed → h.pushed_at x ≡ g.pushed_at x
pushed_stays g h pushes pops answers on x above within =
    let most = pushed_by_history g h pushes pops answers on in
    let old = length-records g.pushed_at 0 g.pushed in
    let after = get_or-records h.pushed_at 0 h.pushed (x - 1) nothing (omega (arith, above, within, most)) in
    let before = get_or-records g.pushed_at 0 g.pushed (x - 1) nothing (omega (arith, above, within)) in
    let same : get_or (records h.pushed_at 0 h.pushed) (x - 1) nothing ≡ get_or (records g.pushed_at 0 g.pushed) (x - 1) nothing =
    ap (λ l. get_or l (x - 1) nothing) on.pushed ∙ get_or_append_left (records g.pushed_at 0 g.pushed) pushes nothing (x - 1) (omega (arith, above, within, old)) in
    let here : 0 + (x - 1) + 1 ≡ x = omega (arith, above) in
    ap (λ (y : ℕ). h.pushed_at y) (sym here) ∙ ap (λ (r : Record). r.seat) (sym after ∙ same ∙ before) ∙ ap (λ (y : ℕ). g.pushed_at y) here

-- the record that has left was the first
pub first_popped : (g h : Ghost) (pushes answers : List Record) (r : Record) → GoesOn g h pushes (r ∷ []) answers → HasQueue g → g.pushed_at (g.popped + 1) ≡ r.seat
first_popped g h pushes answers r on some =
    let pops = popped_by_history g h pushes (r ∷ []) answers on in
    let old = length-records g.pushed_at 0 g.popped in
    let after = get_or-records h.pushed_at 0 h.popped g.popped nothing (omega (arith, pops)) in
    let last : get_or (records g.pushed_at 0 g.popped ++ r ∷ []) g.popped nothing ≡ r =
    ap (λ i. get_or (records g.pushed_at 0 g.popped ++ r ∷ []) i nothing) (sym old) ∙ get_or-append_seam (records g.pushed_at 0 g.popped) r [] nothing in
    let same = sym after ∙ ap (λ l. get_or l g.popped nothing) on.popped ∙ last in
    let stays = pushed_stays g h pushes (r ∷ []) answers on (g.popped + 1) (omega arith) (omega (arith, some)) in
    let here : 0 + g.popped + 1 ≡ g.popped + 1 = omega arith in
    let seat_is : h.pushed_at (g.popped + 1) ≡ r.seat = ap (λ (y : ℕ). h.pushed_at y) (sym here) ∙ ap (λ (r : Record). r.seat) same in
    sym stays ∙ seat_is

-- after m records have left, seat t has at most as many of the records before the one that stays
ahead_drops : (f : ℕ → ℕ) (k m n t : ℕ) → ahead f (k + m) n t ≤ ahead f k (m + n) t
ahead_drops f k zero n t = let here : k + 0 ≡ k = omega arith in let all : 0 + n ≡ n = omega arith in rw (here, all) (omega arith)
ahead_drops f k (suc m) n t =
    let here : k + suc m ≡ k + 1 + m = omega arith in
    let all : suc m + n ≡ suc (m + n) = omega arith in
    let rest = ahead_drops f (k + 1) m n t in
    let later = ahead_later f k (m + n) t in
    rw (here, all) (omega (arith, rest, later))

pub ahead_goes : (g h : Ghost) (pushes pops answers : List Record) (n t : ℕ) → GoesOn g h pushes pops answers → g.popped + (length pops + n) < g.pushed
    → ahead h.pushed_at h.popped n t ≤ ahead g.pushed_at g.popped (length pops + n) t
ahead_goes g h pushes pops answers n t on within =
    let popped = popped_by_history g h pushes pops answers on in
    let drops = ahead_drops g.pushed_at g.popped (length pops) n t in
    let same = ahead_agrees g.pushed_at h.pushed_at h.popped n t
    (λ x above below. pushed_stays g h pushes pops answers on x (omega (arith, above)) (omega (arith, below, popped, within))) in
    let here : ahead g.pushed_at h.popped n t ≡ ahead g.pushed_at (g.popped + length pops) n t = ap (λ k. ahead g.pushed_at k n t) popped in
    omega (arith, drops, same, here)
