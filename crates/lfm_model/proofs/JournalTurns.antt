-- One iteration of a loop over the entries of a journal.
use Rattle.std.proofs.Common.{◌≡◌, ℕ, ◌+◌, ◌<◌, List, [], ◌∷◌, ◌++◌, length, get_or, drop, Option, Some, sym, ◌∙◌, ap, subst, append_assoc}
use Rattle.std.proofs.lemmas.List.{at_drop_more}
use Rattle.lfm_model.specs.declared.answers.How.{How}
use Rattle.lfm_model.specs.declared.journals.What.{What}
use Rattle.lfm_model.specs.declared.journals.What.TheVariants.{Took, Did}
use Rattle.lfm_model.specs.declared.journals.Entry.{Entry}
use Rattle.lfm_model.specs.Journals.{after_all, replies_of, taker_at, queued_at, May, LawfulFrom, LawfulJournal, entry}

module _ {A : Type 0} where
  -- the entries left before an iteration are its entry and those left after it
  left : (es : List (Entry A)) (i : ℕ) (e : Entry A) (w : What A) → i < length es → e ≡ get_or es i e → e.what ≡ w
      → drop i es ≡ entry e.seat w ∷ drop (i + 1) es
  left es i e w h is what =
      at_drop_more (λ (l : List (Entry A)). l) es i e h ∙ ap (λ (x : Entry A). x ∷ drop (i + 1) es) (sym is)
      ∙ ap (λ (v : What A). entry e.seat v ∷ drop (i + 1) es) what

module _ {O A R : Type 0} (after : O → A → O) (reply : O → A → R) where
  -- the entry is an op, which was performed and whose reply was kept
  pub object_turn : (o next end : O) (es : List (Entry A)) (i : ℕ) (e : Entry A) (op : A) → i < length es → e ≡ get_or es i e
      → e.what ≡ Did op → next ≡ after o op → after_all after o (drop i es) ≡ end → after_all after next (drop (i + 1) es) ≡ end
  object_turn o next end es i e op h is what made before =
      ap (λ (x : O). after_all after x (drop (i + 1) es)) made ∙ sym (ap (after_all after o) (left es i e (Did op) h is what)) ∙ before

  pub replies_turn : (o next : O) (r : R) (kept more all : List R) (es : List (Entry A)) (i : ℕ) (e : Entry A) (op : A) → i < length es
      → e ≡ get_or es i e → e.what ≡ Did op → next ≡ after o op → r ≡ reply o op → more ≡ kept ++ r ∷ []
      → kept ++ replies_of after reply o (drop i es) ≡ all → more ++ replies_of after reply next (drop (i + 1) es) ≡ all
  replies_turn o next r kept more all es i e op h is what made said grown before =
      let rest : O → List R = λ x. replies_of after reply x (drop (i + 1) es) in
      ap (λ (l : List R). l ++ rest next) grown ∙ append_assoc kept (r ∷ []) (rest next)
      ∙ ap (λ (x : R). kept ++ (x ∷ rest next)) said ∙ ap (λ (x : O). kept ++ (reply o op ∷ rest x)) made
      ∙ sym (ap (λ (l : List (Entry A)). kept ++ replies_of after reply o l) (left es i e (Did op) h is what)) ∙ before

  -- the entry is a take, which does not change the object
  pub object_stays : (o end : O) (es : List (Entry A)) (i : ℕ) (e : Entry A) (how : How) → i < length es → e ≡ get_or es i e
      → e.what ≡ Took how → after_all after o (drop i es) ≡ end → after_all after o (drop (i + 1) es) ≡ end
  object_stays o end es i e how h is what before = sym (ap (after_all after o) (left es i e (Took how) h is what)) ∙ before

  pub replies_stay : (o : O) (kept all : List R) (es : List (Entry A)) (i : ℕ) (e : Entry A) (how : How) → i < length es
      → e ≡ get_or es i e → e.what ≡ Took how → kept ++ replies_of after reply o (drop i es) ≡ all
      → kept ++ replies_of after reply o (drop (i + 1) es) ≡ all
  replies_stay o kept all es i e how h is what before =
      sym (ap (λ (l : List (Entry A)). kept ++ replies_of after reply o l) (left es i e (Took how) h is what)) ∙ before

module _ {A : Type 0} where
  -- the journal is lawful exactly if the rest may follow after a take by t and k queued takes
  abbrev pub SameFrom : List (Entry A) → Option ℕ → ℕ → List (Entry A) → Type 0
  SameFrom es t k rest = (LawfulJournal es → LawfulFrom t k rest) × (LawfulFrom t k rest → LawfulJournal es)

  same_next : (es : List (Entry A)) (t : Option ℕ) (k i : ℕ) (e : Entry A) (w : What A) → i < length es → e ≡ get_or es i e → e.what ≡ w
      → SameFrom es t k (drop i es) → May t k e.seat w → SameFrom es (taker_at t e.seat w) (queued_at k w) (drop (i + 1) es)
  same_next es t k i e w h is what same may =
      let next : SameFrom es t k (entry e.seat w ∷ drop (i + 1) es) = subst (SameFrom es t k) (left es i e w h is what) same in
      (λ l. (next.0 l).1, λ l. next.1 (may, l))

  pub op_turn : (es : List (Entry A)) (t : Option ℕ) (k i : ℕ) (e : Entry A) (op : A) → i < length es → e ≡ get_or es i e → e.what ≡ Did op
      → t ≡ Some e.seat → SameFrom es t k (drop i es) → SameFrom es t k (drop (i + 1) es)
  op_turn es t k i e op h is what by same = same_next es t k i e (Did op) h is what same by
