-- Equivalent forms of lawfulness, and which entries a lawful journal may get next.
use Rattle.std.proofs.Common.{◌≡◌, ◌⊎◌, inl, inr, ⊎_elim, ℕ, zero, suc, ◌+◌, ◌<◌, List, [], ◌∷◌, ◌++◌, length, Option, Some, None, refl, sym, ◌∙◌, ap, subst, append_assoc, arith, length-append}
use mathlib.Core.Logic.{dite}
use native.Mathlib.Decide.{ℕ_discrete}
use Rattle.std.specs.List.{slice_get, cons_option}
use Rattle.std.specs.Prelude.{◌↔◌}
use Rattle.lfm_model.specs.declared.answers.How.TheVariants.{Free, Queued}
use Rattle.lfm_model.specs.declared.journals.What.{What}
use Rattle.lfm_model.specs.declared.journals.What.TheVariants.{Took, Did}
use Rattle.lfm_model.specs.declared.journals.Entry.{Entry}
use Rattle.lfm_model.specs.Journals.{one_to, stamp_of, stamps, taker_at, queued_at, May, taker_from, queued_from, LawfulFrom, LawfulJournal, entry}
use Rattle.lfm_model.specs.JournalLaws.{takes, TookLast, OpsByTakers}
use Rattle.lfm_model.proofs.JournalLists.{taker-append}
use Rattle.lfm_model.proofs.JournalSteps.{lawful_more}

get_left : (xs ys : List ℕ) (i : ℕ) → i < length xs → slice_get (xs ++ ys) i ≡ slice_get xs i
get_left [] ys i h = absurd (omega arith)
get_left (x ∷ xs) ys zero h = refl
get_left (x ∷ xs) ys (suc i) h = get_left xs ys i (omega arith)

get_next : (xs ys : List ℕ) (y i : ℕ) → length xs ≡ i → slice_get (xs ++ y ∷ ys) i ≡ Some y
get_next [] ys y zero h = refl
get_next [] ys y (suc i) h = absurd (omega arith)
get_next (x ∷ xs) ys y zero h = absurd (omega arith)
get_next (x ∷ xs) ys y (suc i) h = get_next xs ys y i (omega arith)

one_to_length : (n : ℕ) → length (one_to n) ≡ n
one_to_length zero = refl
one_to_length (suc n) = let h = one_to_length n in let l = length-append (one_to n) ((n + 1) ∷ []) in omega arith

one_to_at : (n k : ℕ) → k < n → slice_get (one_to n) k ≡ Some (k + 1)
one_to_at zero k h = absurd (omega arith)
one_to_at (suc n) k h = dite (ℕ_discrete k n)
    (λ is. get_next (one_to n) [] (n + 1) k (one_to_length n ∙ sym is) ∙ ap (λ x. Some (x + 1)) (sym is))
    (λ ne. let l = one_to_length n in get_left (one_to n) ((n + 1) ∷ []) k (omega arith) ∙ one_to_at n k (omega arith))

-- the item after the numbers 1 to k is k + 1
next_number : (k x n : ℕ) (rest : List ℕ) → one_to k ++ x ∷ rest ≡ one_to n → x ≡ k + 1
next_number k x n rest e =
    let l = one_to_length k in let m = one_to_length n in let both = length-append (one_to k) (x ∷ rest) in
    let same : length (one_to k ++ x ∷ rest) ≡ length (one_to n) = ap length e in
    let at : Some x ≡ Some (k + 1) = sym (get_next (one_to k) rest x k l) ∙ ap (λ xs. slice_get xs k) e ∙ one_to_at n k (omega arith) in
    cc

module _ {A : Type 0} where
  queued_step : (k : ℕ) (w : What A) (rest : List ℕ) → queued_at k w + length rest ≡ k + length (cons_option (stamp_of w) rest)
  queued_step k (Took Free) rest = refl
  queued_step k (Took (Queued x)) rest = omega arith
  queued_step k (Did op) rest = refl

  pub queued_stamps : (k : ℕ) (es : List (Entry A)) → queued_from k es ≡ k + length (stamps es)
  queued_stamps k [] = omega arith
  queued_stamps k (e ∷ es) = queued_stamps (queued_at k e.what) es ∙ queued_step k e.what (stamps es)

  lawful_rest : (t : Option ℕ) (k : ℕ) (xs ys : List (Entry A)) → LawfulFrom t k (xs ++ ys) → LawfulFrom (taker_from t xs) (queued_from k xs) ys
  lawful_rest t k [] ys h = h
  lawful_rest t k (e ∷ xs) ys h = lawful_rest (taker_at t e.seat e.what) (queued_at k e.what) xs ys h.1

  lawful_start : (t : Option ℕ) (k : ℕ) (xs ys : List (Entry A)) → LawfulFrom t k (xs ++ ys) → LawfulFrom t k xs
  lawful_start t k [] ys h = tt
  lawful_start t k (e ∷ xs) ys h = (h.0, lawful_start (taker_at t e.seat e.what) (queued_at k e.what) xs ys h.1)

  pub lawful_grows : (es : List (Entry A)) (e : Entry A) → LawfulJournal (es ++ e ∷ []) ↔ (LawfulJournal es × May (taker_from None es) (queued_from 0 es) e.seat e.what)
  lawful_grows es e =
      (λ h. (lawful_start None 0 es (e ∷ []) h, (lawful_rest None 0 es (e ∷ []) h).0), λ both. lawful_more es e both.0 both.1)

  -- seat s took last among these entries; or none of them is a take, and s took last before them
  abbrev TakenFrom : Option ℕ → ℕ → List (Entry A) → Type 0
  TakenFrom t s es = TookLast s es ⊎ ((t ≡ Some s) × (takes es ≡ []))

  longer : (e : Entry A) (es : List (Entry A)) (s : ℕ) → TookLast s es → TookLast s (e ∷ es)
  longer e es s h = (e ∷ h.0, h.1, h.2, ap (λ l. e ∷ l) h.3, h.4)

  taken_step : (t : Option ℕ) (k s : ℕ) (w : What A) (es : List (Entry A)) → TakenFrom (taker_at t k w) s es → TakenFrom t s (entry k w ∷ es)
  taken_step t k s (Took how) es (inl h) = inl (longer (entry k (Took how)) es s h)
  taken_step t k s (Took how) es (inr h) = let is : k ≡ s = let e = h.0 in cc in inl ([], how, es, ap (λ n. entry n (Took how) ∷ es) is, h.1)
  taken_step t k s (Did op) es (inl h) = inl (longer (entry k (Did op)) es s h)
  taken_step t k s (Did op) es (inr h) = inr h

  taken : (t : Option ℕ) (s : ℕ) (es : List (Entry A)) → taker_from t es ≡ Some s → TakenFrom t s es
  taken t s [] h = inr (h, refl)
  taken t s (e ∷ es) h = taken_step t e.seat s e.what es (taken (taker_at t e.seat e.what) s es h)

  pub ops_by_takers : (es : List (Entry A)) → LawfulJournal es → OpsByTakers es
  ops_by_takers es h before later s op e =
      let rest = lawful_rest None 0 before (entry s (Did op) ∷ later) (subst (λ (l : List (Entry A)). LawfulJournal l) e h) in
      ⊎_elim (λ (l : TookLast s before). l) (λ (l : (None ≡ Some s) × (takes before ≡ [])). absurd (let n = l.0 in cc)) (taken None s before rest.0)

  since_step : (t : Option ℕ) (k : ℕ) (w : What A) (es : List (Entry A)) → takes (entry k w ∷ es) ≡ [] → (taker_at t k w ≡ t) × (takes es ≡ [])
  since_step t k (Took how) es h = absurd cc
  since_step t k (Did op) es h = (refl, h)

  no_take_since : (t : Option ℕ) (es : List (Entry A)) → takes es ≡ [] → taker_from t es ≡ t
  no_take_since t [] h = refl
  no_take_since t (e ∷ es) h = let step = since_step t e.seat e.what es h in no_take_since (taker_at t e.seat e.what) es step.1 ∙ step.0

  last_taker : (t : Option ℕ) (s : ℕ) (es : List (Entry A)) → TookLast s es → taker_from t es ≡ Some s
  last_taker t s es h =
      ap (λ l. taker_from t l) h.3 ∙ taker-append t h.0 (entry s (Took h.1) ∷ h.2) ∙ no_take_since (Some s) h.2 h.4

  may_step : (t : Option ℕ) (k s : ℕ) (w : What A) (rest : List ℕ) (n : ℕ) → one_to k ++ cons_option (stamp_of w) rest ≡ one_to n
      → ((op : A) → w ≡ Did op → t ≡ Some s) → May t k s w
  may_step t k s (Took Free) rest n e by = tt
  may_step t k s (Took (Queued x)) rest n e by = next_number k x n rest e
  may_step t k s (Did op) rest n e by = by op refl

  rest_step : (k s : ℕ) (t : Option ℕ) (w : What A) (rest : List ℕ) (n : ℕ) → one_to k ++ cons_option (stamp_of w) rest ≡ one_to n → May t k s w
      → one_to (queued_at k w) ++ rest ≡ one_to n
  rest_step k s t (Took Free) rest n e m = e
  rest_step k s t (Took (Queued x)) rest n e m =
      let next : k + 1 ≡ suc k = omega arith in let grown : one_to (k + 1) ≡ one_to k ++ (k + 1) ∷ [] = ap (λ m. one_to m) next in
      ap (λ l. l ++ rest) grown ∙ append_assoc (one_to k) ((k + 1) ∷ []) rest ∙ ap (λ y. one_to k ++ y ∷ rest) (sym m) ∙ e
  rest_step k s t (Did op) rest n e m = e

  lawful_after : (before es : List (Entry A)) (k n : ℕ) → OpsByTakers (before ++ es) → one_to k ++ stamps es ≡ one_to n
      → LawfulFrom (taker_from None before) k es
  lawful_after before [] k n by e = tt
  lawful_after before (x ∷ es) k n by e =
      let t = taker_from None before in
      let may = may_step t k x.seat x.what (stamps es) n e
      (λ op is. last_taker None x.seat before (by before es x.seat op (ap (λ w. before ++ entry x.seat w ∷ es) is))) in
      let next = append_assoc before (x ∷ []) es in
      let rest = lawful_after (before ++ x ∷ []) es (queued_at k x.what) n (subst (λ (l : List (Entry A)). OpsByTakers l) (sym next) by)
      (rest_step k x.seat t x.what (stamps es) n e may) in
      (may, subst (λ (u : Option ℕ). LawfulFrom u (queued_at k x.what) es) (taker-append None before (x ∷ [])) rest)

  pub by_takers_lawful : (es : List (Entry A)) → stamps es ≡ one_to (length (stamps es)) → OpsByTakers es → LawfulJournal es
  by_takers_lawful es e by = lawful_after [] es 0 (length (stamps es)) by e
