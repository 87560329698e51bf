-- How a step extends the lists of pushes, pops and answers.
use Rattle.std.proofs.Common.{◌≡◌, ℕ, zero, suc, ◌+◌, ◌<◌, ◌≤◌, [], ◌∷◌, ◌++◌, refl, sym, ◌∙◌, arith}
use Rattle.std.proofs.lemmas.List.{append-nil}
use Rattle.lfm_words.specs.declared.pop_lists.Record.{Record}
use Rattle.lfm_laws.specs.steady.Ghost.{Ghost}
use Rattle.lfm_laws.specs.steady.Numbered.{records, changed}
use Rattle.lfm_laws.specs.steady.EventOutcome.{GoesOn}
use Rattle.lfm_laws.proofs.steady.frames.Sums.{changed_same, changed_other}

-- functions that agree on these stamps make the same records
pub records_agree : (f f' : ℕ → ℕ) (k n : ℕ) → ((x : ℕ) → k < x → x ≤ k + n → f' x ≡ f x) → records f' k n ≡ records f k n
records_agree f f' k zero same = refl
records_agree f f' k (suc n) same =
    let first = same (k + 1) (omega arith) (omega arith) in
    let rest = records_agree f f' (k + 1) n (λ x above within. same x (omega arith) (omega arith)) in
    rw (first, rest)

pub records_snoc : (f : ℕ → ℕ) (k n : ℕ) → records f k (n + 1) ≡ records f k n ++ record { seat = f (k + n + 1); stamp = k + n + 1 } ∷ []
records_snoc f k zero = let one : k + 0 + 1 ≡ k + 1 = omega arith in rw one
records_snoc f k (suc n) =
    let more : suc n + 1 ≡ suc (n + 1) = omega arith in
    let last : k + suc n + 1 ≡ k + 1 + n + 1 = omega arith in
    rw (more, last, records_snoc f (k + 1) n)

pub records_append : (f : ℕ → ℕ) (k m n : ℕ) → records f k (m + n) ≡ records f k m ++ records f (k + m) n
records_append f k zero n = let none : 0 + n ≡ n = omega arith in let here : k + 0 ≡ k = omega arith in rw (none, here)
records_append f k (suc m) n =
    let more : suc m + n ≡ suc (m + n) = omega arith in
    let last : k + suc m ≡ k + 1 + m = omega arith in
    rw (more, last, records_append f (k + 1) m n)

-- the records up to one more stamp, for functions that agree up to the last stamp
records_grow : (f f' : ℕ → ℕ) (n : ℕ) → ((x : ℕ) → x ≤ n → f' x ≡ f x) → records f' 0 (n + 1) ≡ records f 0 n ++ record { seat = f' (n + 1); stamp = n + 1 } ∷ []
records_grow f f' n same =
    let none : 0 + n + 1 ≡ n + 1 = omega arith in
    let before = records_agree f f' 0 n (λ x above within. same x (omega arith)) in
    records_snoc f' 0 n ∙ rw (none, before)

-- nothing is pushed, popped or answered
pub history_stays : (g h : Ghost) → h.pushed_at ≡ g.pushed_at → h.pushed ≡ g.pushed → h.popped ≡ g.popped → h.answered ≡ g.answered → GoesOn g h [] [] []
history_stays g h at pushed popped answered =
    record {
      pushed = rw (at, pushed) (sym (append-nil (records g.pushed_at 0 g.pushed)));
      popped = rw (at, popped) (sym (append-nil (records g.pushed_at 0 g.popped)));
      answered = rw (at, answered) (sym (append-nil (records g.pushed_at 0 g.answered)));
    }

-- seat u is pushed with the next stamp
pub history_pushes : (g h : Ghost) (u : ℕ) → h.pushed_at ≡ changed g.pushed_at (g.pushed + 1) u → h.pushed ≡ g.pushed + 1 → h.popped ≡ g.popped → h.answered ≡ g.answered
    → g.popped ≤ g.pushed → g.answered ≤ g.pushed → GoesOn g h (record { seat = u; stamp = g.pushed + 1 } ∷ []) [] []
history_pushes g h u at pushed popped answered most fewer =
    let f : ℕ → ℕ = changed g.pushed_at (g.pushed + 1) u in
    let same : (x : ℕ) → x ≤ g.pushed → f x ≡ g.pushed_at x = λ x within. changed_other g.pushed_at (g.pushed + 1) x u (omega arith) in
    let newest : f (g.pushed + 1) ≡ u = changed_same g.pushed_at (g.pushed + 1) u in
    record {
      pushed = rw (at, pushed) (records_grow g.pushed_at f g.pushed same ∙ rw newest);
      popped = rw (at, popped) (records_agree g.pushed_at f 0 g.popped (λ x above within. same x (omega arith)) ∙ sym (append-nil (records g.pushed_at 0 g.popped)));
      answered = rw (at, answered) (records_agree g.pushed_at f 0 g.answered (λ x above within. same x (omega arith)) ∙ sym (append-nil (records g.pushed_at 0 g.answered)));
    }

-- the first record of the queue leaves it
pub history_pops : (g h : Ghost) (r : Record) → h.pushed_at ≡ g.pushed_at → h.pushed ≡ g.pushed → h.popped ≡ g.popped + 1 → h.answered ≡ g.answered
    → r ≡ record { seat = g.pushed_at (g.popped + 1); stamp = g.popped + 1 } → GoesOn g h [] (r ∷ []) []
history_pops g h r at pushed popped answered first =
    record {
      pushed = rw (at, pushed) (sym (append-nil (records g.pushed_at 0 g.pushed)));
      popped = rw (at, popped, first) (records_grow g.pushed_at g.pushed_at g.popped (λ x within. refl));
      answered = rw (at, answered) (sym (append-nil (records g.pushed_at 0 g.answered)));
    }

-- the seat of the record popped last answers
pub history_answers : (g h : Ghost) (r : Record) → h.pushed_at ≡ g.pushed_at → h.pushed ≡ g.pushed → h.popped ≡ g.popped → h.answered ≡ g.answered + 1
    → r ≡ record { seat = g.pushed_at (g.answered + 1); stamp = g.answered + 1 } → GoesOn g h [] [] (r ∷ [])
history_answers g h r at pushed popped answered next =
    record {
      pushed = rw (at, pushed) (sym (append-nil (records g.pushed_at 0 g.pushed)));
      popped = rw (at, popped) (sym (append-nil (records g.pushed_at 0 g.popped)));
      answered = rw (at, answered, next) (records_grow g.pushed_at g.pushed_at g.answered (λ x within. refl));
    }

-- a locker takes its own record and answers
pub history_serves : (g h : Ghost) (r : Record) → h.pushed_at ≡ g.pushed_at → h.pushed ≡ g.pushed → h.popped ≡ g.popped + 1 → h.answered ≡ g.answered + 1
    → g.answered ≡ g.popped → r ≡ record { seat = g.pushed_at (g.popped + 1); stamp = g.popped + 1 } → GoesOn g h [] (r ∷ []) (r ∷ [])
history_serves g h r at pushed popped answered level first =
    record {
      pushed = rw (at, pushed) (sym (append-nil (records g.pushed_at 0 g.pushed)));
      popped = rw (at, popped, first) (records_grow g.pushed_at g.pushed_at g.popped (λ x within. refl));
      answered = rw (at, answered, level, first) (records_grow g.pushed_at g.pushed_at g.popped (λ x within. refl));
    }
