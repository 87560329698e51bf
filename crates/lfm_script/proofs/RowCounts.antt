-- What each entry of a journal adds to the rows.
use Rattle.std.proofs.Common.{◌≡◌, ◌≢◌, ◌≤◌, ◌<◌, ◌+◌, ◌^◌, ◌==◌, zero, suc, ℕ, Bool, true, false, if◌then◌else◌, List, [], ◌∷◌, ◌++◌, length, sum, get_or, set, drop, refl, sym, ◌∙◌, ap, subst, Option, None, arith, eq-eqb, ne_eqb, length-append}
use mathlib.Core.Logic.{dite}
use native.Mathlib.Decide.{ℕ_discrete}
use Rattle.std.proofs.lemmas.Grind.{get_or-set_at}
use Rattle.std.proofs.lemmas.List.{drop_more, ext_get_or, get_or_default, get_or-set_other}
use Rattle.std.proofs.lemmas.List.Sums.{sum_by-append}
use Rattle.lfm_model.specs.declared.refusals.Refusal.{Refusal}
use Rattle.lfm_model.specs.declared.objects.TotalOp.{TotalOp}
use Rattle.lfm_model.specs.declared.objects.TotalOp.TheVariants.{Add, Read}
use Rattle.lfm_model.specs.declared.journals.What.{What}
use Rattle.lfm_model.specs.declared.journals.What.TheVariants.{Took, Did}
use Rattle.lfm_model.specs.declared.journals.Entry.{Entry}
use Rattle.lfm_model.specs.Journals.{own, Within}
use Rattle.lfm_script.specs.declared.rows.Row.{Row}
use Rattle.lfm_script.specs.Adds.{added, adds}
use Rattle.lfm_script.specs.Rows.{row_of, row_plus, rows_from, run_row, FitsRow}

-- adding one list of numbers and then another is adding both at once
row_plus-append : (r : Row) (xs ys : List ℕ) → row_plus r (xs ++ ys) ≡ row_plus (row_plus r xs) ys
row_plus-append r xs ys =
    let counts = length-append xs ys in
    let sums = sum_by-append (λ x. x) xs ys in
    let count : r.count + length (xs ++ ys) ≡ (r.count + length xs) + length ys = omega arith in
    let total : r.sum + sum (xs ++ ys) ≡ (r.sum + sum xs) + sum ys = omega arith in
    λ i. record { worker = r.worker; count = count i; sum = total i; refused = r.refused }

-- a row that fits after more numbers fits before them
fits_before : (r : Row) (xs : List ℕ) → FitsRow (row_plus r xs) → FitsRow r
fits_before r xs fits = record { count = let c = fits.count in omega arith; sum = let s = fits.sum in omega arith }

-- the first entry is the seat's own
own_first : (s : ℕ) (e : Entry TotalOp) (es : List (Entry TotalOp)) → e.seat ≡ s → adds (own s (e ∷ es)) ≡ added e.what ++ adds (own s es)
own_first s e es is = ap (λ (b : Bool). adds (if b then e ∷ own s es else own s es)) (eq-eqb e.seat s is)

-- the first entry is another seat's
own_later : (s : ℕ) (e : Entry TotalOp) (es : List (Entry TotalOp)) → e.seat ≢ s → adds (own s (e ∷ es)) ≡ adds (own s es)
own_later s e es other = ap (λ (b : Bool). adds (if b then e ∷ own s es else own s es)) (ne_eqb e.seat s other)

within_get : (n : ℕ) (es : List (Entry TotalOp)) (k : ℕ) (d : Entry TotalOp) → Within n es → k < length es → (0 < (get_or es k d).seat) × ((get_or es k d).seat ≤ n)
within_get n [] k d within below = absurd (omega (arith, below))
within_get n (e ∷ es) zero d within below = (within.0, within.1.0)
within_get n (e ∷ es) (suc k) d within below = within_get n es k d within.1.1 (omega (arith, below))

-- the seat of the entry at k is one of the seats
pub within_at : (n : ℕ) (es : List (Entry TotalOp)) (k : ℕ) (e : Entry TotalOp) → Within n es → k < length es → e ≡ get_or es k e → (0 < e.seat) × (e.seat ≤ n)
within_at n es k e within below is =
    let there = within_get n es k e within below in
    let same : e.seat ≡ (get_or es k e).seat = ap (λ x. x.seat) is in
    (omega (arith, there.0, same), omega (arith, there.1, same))

-- adding the rest of the journal to each row gives the same as adding the whole journal to the row as it was before
abbrev pub Left : List Row → List Row → List (Entry TotalOp) → List (Entry TotalOp) → Type 0
Left rows before rest es = (i : ℕ) (d : Row) → i < length before → row_plus (get_or rows i d) (adds (own (i + 1) rest)) ≡ row_plus (get_or before i d) (adds (own (i + 1) es))

module _ (rows before : List Row) (es : List (Entry TotalOp)) (k : ℕ) (e : Entry TotalOp) (below : k < length es) (is : e ≡ get_or es k e) where
  rest_is : drop k es ≡ e ∷ drop (k + 1) es
  rest_is = drop_more es k e below ∙ ap (λ x. x ∷ drop (k + 1) es) (sym is)

  -- the row of the entry's seat, with what the entry adds
  pub row_fits : (j : ℕ) (d : Row) → j + 1 ≡ e.seat → j < length before → Left rows before (drop k es) es
      → FitsRow (row_plus (get_or before j d) (adds (own (j + 1) es))) → FitsRow (row_plus (get_or rows j d) (added e.what))
  row_fits j d seat there left fits =
      let own_adds : adds (own (j + 1) (drop k es)) ≡ added e.what ++ adds (own (j + 1) (drop (k + 1) es)) = ap (λ xs. adds (own (j + 1) xs)) rest_is ∙ own_first (j + 1) e (drop (k + 1) es) (sym seat) in
      let same : row_plus (row_plus (get_or rows j d) (added e.what)) (adds (own (j + 1) (drop (k + 1) es))) ≡ row_plus (get_or before j d) (adds (own (j + 1) es)) =
      sym (row_plus-append (get_or rows j d) (added e.what) (adds (own (j + 1) (drop (k + 1) es)))) ∙ ap (row_plus (get_or rows j d)) (sym own_adds) ∙ left j d there in
      fits_before (row_plus (get_or rows j d) (added e.what)) (adds (own (j + 1) (drop (k + 1) es))) (subst FitsRow (sym same) fits)

  -- one entry is counted
  pub entry_counted : (j : ℕ) (d : Row) (r : Row) → j + 1 ≡ e.seat → length rows ≡ length before → r ≡ row_plus (get_or rows j d) (added e.what) → Left rows before (drop k es) es
      → Left (set rows j r) before (drop (k + 1) es) es
  entry_counted j d r seat all new left i c there = dite (ℕ_discrete i j)
      (λ same.
      let own_adds : adds (own (i + 1) (drop k es)) ≡ added e.what ++ adds (own (i + 1) (drop (k + 1) es)) =
      ap (λ xs. adds (own (i + 1) xs)) rest_is ∙ own_first (i + 1) e (drop (k + 1) es) (omega (arith, same, seat)) in
      let here : get_or (set rows j r) i c ≡ row_plus (get_or rows i c) (added e.what) =
      get_or-set_at rows j i r c same (omega (arith, same, there, all)) ∙ new ∙ ap (λ row. row_plus row (added e.what)) (ap (λ (n : ℕ). get_or rows n d) (sym same) ∙ get_or_default rows i d c (omega (arith, there, all))) in
      ap (λ row. row_plus row (adds (own (i + 1) (drop (k + 1) es)))) here
      ∙ sym (row_plus-append (get_or rows i c) (added e.what) (adds (own (i + 1) (drop (k + 1) es))))
      ∙ ap (row_plus (get_or rows i c)) (sym own_adds)
      ∙ left i c there)
      (λ other.
      let own_adds : adds (own (i + 1) (drop k es)) ≡ adds (own (i + 1) (drop (k + 1) es)) =
      ap (λ xs. adds (own (i + 1) xs)) rest_is ∙ own_later (i + 1) e (drop (k + 1) es) (λ at. other (omega (arith, at, seat))) in
      ap (λ row. row_plus row (adds (own (i + 1) (drop (k + 1) es)))) (get_or-set_other rows j i r c other)
      ∙ ap (row_plus (get_or rows i c)) (sym own_adds)
      ∙ left i c there)

added_once : (w : What TotalOp) → length (added w) ≤ 1
added_once (Took how) = omega arith
added_once (Did (Add k)) = omega arith
added_once (Did Read) = omega arith

-- the seat's own entries add no more numbers, and no greater sum, than all entries
record NoMore (xs es : List (Entry TotalOp)) : Type 0 where
  count : length (adds xs) ≤ length es
  sum : sum (adds xs) ≤ sum (adds es)

no_more_first : (b : Bool) (e : Entry TotalOp) (xs es : List (Entry TotalOp)) → NoMore xs es → NoMore (if b then e ∷ xs else xs) (e ∷ es)
no_more_first true e xs es rest =
    let once = added_once e.what in
    let counts = length-append (added e.what) (adds xs) in
    let own_sums = sum_by-append (λ x. x) (added e.what) (adds xs) in
    let sums = sum_by-append (λ x. x) (added e.what) (adds es) in
    record { count = omega (arith, rest.count, once, counts); sum = omega (arith, rest.sum, own_sums, sums) }
no_more_first false e xs es rest =
    let sums = sum_by-append (λ x. x) (added e.what) (adds es) in
    record { count = omega (arith, rest.count); sum = omega (arith, rest.sum, sums) }

no_more : (s : ℕ) (es : List (Entry TotalOp)) → NoMore (own s es) es
no_more s [] = record { count = omega arith; sum = omega arith }
no_more s (e ∷ es) = no_more_first (e.seat == s) e (own s es) es (no_more s es)

-- a row in which nothing was counted has room for what the seat's own entries add
pub idle_fits : (r : Row) (s w : ℕ) (o : Option Refusal) (es : List (Entry TotalOp)) → r ≡ row_of w [] o → length es < 2 ^ 64 → sum (adds es) < 2 ^ 64 → FitsRow (row_plus r (adds (own s es)))
idle_fits r s w o es idle few fits =
    let most = no_more s es in
    let count : r.count ≡ 0 = ap (λ x. x.count) idle in
    let total : r.sum ≡ 0 = ap (λ x. x.sum) idle in
    record { count = omega (arith, most.count, count, few); sum = omega (arith, most.sum, total, fits) }

abbrev nobody : Row
nobody = record { worker = 0; count = 0; sum = 0; refused = None }

-- an idle row to which numbers are added is the row of these numbers
idle_counts : (w : ℕ) (o : Option Refusal) (ks : List ℕ) → row_plus (row_of w [] o) ks ≡ row_of w ks o
idle_counts w o ks =
    let count : 0 + length ks ≡ length ks = omega arith in
    let total : 0 + sum ks ≡ sum ks = omega arith in
    λ i. record { worker = w; count = count i; sum = total i; refused = o }

length-rows_from : (f : ℕ → Row) (w n : ℕ) → length (rows_from f w n) ≡ n
length-rows_from f w zero = refl
length-rows_from f w (suc n) = let rest = length-rows_from f (w + 1) n in omega (arith, rest)

get_or-rows_from : (f : ℕ → Row) (w n i : ℕ) (d : Row) → i < n → get_or (rows_from f w n) i d ≡ f (w + i)
get_or-rows_from f w zero i d below = absurd (omega (arith, below))
get_or-rows_from f w (suc n) zero d below = ap f (omega arith)
get_or-rows_from f w (suc n) (suc i) d below = get_or-rows_from f (w + 1) n i d (omega (arith, below)) ∙ ap f (omega arith)

-- idle rows in which the entries of a journal were counted are the rows of the journal
pub rows_counted : (rows new : List Row) (refused : ℕ → Option Refusal) (es : List (Entry TotalOp)) (n : ℕ) → length rows ≡ n → length new ≡ length rows
    → ((i : ℕ) (d : Row) → i < n → get_or rows i d ≡ row_of (i + 1) [] (refused (i + 1)))
    → ((i : ℕ) (d : Row) → i < length rows → get_or new i d ≡ row_plus (get_or rows i d) (adds (own (i + 1) es)))
    → new ≡ rows_from (run_row es refused) 1 n
rows_counted rows new refused es n many all idle counted = ext_get_or nobody new (rows_from (run_row es refused) 1 n) (all ∙ many ∙ sym (length-rows_from (run_row es refused) 1 n))
    (λ i below.
    let there : i < n = omega (arith, below, all, many) in
    counted i nobody (omega (arith, below, all))
    ∙ ap (λ r. row_plus r (adds (own (i + 1) es))) (idle i nobody there)
    ∙ idle_counts (i + 1) (refused (i + 1)) (adds (own (i + 1) es))
    ∙ ap (run_row es refused) (omega arith)
    ∙ sym (get_or-rows_from (run_row es refused) 1 n i nobody there))
