-- What one hold, and the holds of others, add to a journal.
use Rattle.std.proofs.Common.{◌≡◌, ◌≢◌, ℕ, ◌==◌, ◌&&◌, Bool, true, false, not, if◌then◌else◌, List, [], ◌∷◌, ◌++◌, length, drop, refl, sym, ◌∙◌, ap, subst, append_assoc, eq-eqb, ne_eqb}
use Rattle.std.proofs.lemmas.Bool.{eqb-true}
use Rattle.std.proofs.Math.Seq.{drop-append_seam}
use Rattle.std.proofs.lemmas.List.{append-nil}
use Rattle.lfm_model.specs.declared.answers.How.{How}
use Rattle.lfm_model.specs.declared.journals.What.TheVariants.{Took, Did}
use Rattle.lfm_model.specs.declared.journals.Entry.{Entry}
use Rattle.lfm_model.specs.Journals.{own, entry}
use Rattle.lfm_model.proofs.JournalLists.{own-append}
use Rattle.lfm_mutex.specs.Reach.{Leads, Reached}
use Rattle.lfm_monitor.specs.declared.journaled.Journaled.{Journaled}
use Rattle.lfm_model.specs.JournalLaws.{is_take}
use Rattle.lfm_monitor.specs.Journaled.{are_ops, is_hold, JournalGoesOn, SameOpening, JournalFollows}

and_first : (a b : Bool) → (a && b) ≡ true → a ≡ true
and_first true b e = refl
and_first false b e = cc

and_second : (a b : Bool) → (a && b) ≡ true → b ≡ true
and_second true b e = e
and_second false b e = cc

and_both : (a b : Bool) → a ≡ true → b ≡ true → (a && b) ≡ true
and_both a b p q = ap (λ x. x && b) p ∙ q

module _ {A : Type 0} where
  skips : (s : ℕ) (e : Entry A) (es : List (Entry A)) → e.seat ≢ s → own s (e ∷ es) ≡ own s es
  skips s e es ne = ap (λ (b : Bool). (if b then e ∷ own s es else own s es)) (ne_eqb e.seat s ne)

  ops_of_others : (p s : ℕ) (es : List (Entry A)) → are_ops p es ≡ true → p ≢ s → own s es ≡ []
  ops_of_others p s [] h ne = refl
  ops_of_others p s (e ∷ es) h ne = let by : e.seat ≡ p = eqb-true e.seat p (and_first (e.seat == p) (not (is_take e.what) && are_ops p es) h) in
      skips s e es (λ q. ne (sym by ∙ q)) ∙ ops_of_others p s es (and_second (not (is_take e.what)) (are_ops p es) (and_second (e.seat == p) (not (is_take e.what) && are_ops p es) h)) ne

  hold_of_others : (p s : ℕ) (es : List (Entry A)) → is_hold p es ≡ true → p ≢ s → own s es ≡ []
  hold_of_others p s [] h ne = cc
  hold_of_others p s (e ∷ es) h ne = let by : e.seat ≡ p = eqb-true e.seat p (and_first (e.seat == p) (is_take e.what && are_ops p es) h) in
      skips s e es (λ q. ne (sym by ∙ q)) ∙ ops_of_others p s es (and_second (is_take e.what) (are_ops p es) (and_second (e.seat == p) (is_take e.what && are_ops p es) h)) ne

  ops_more : (s : ℕ) (es : List (Entry A)) (op : A) → are_ops s es ≡ true → are_ops s (es ++ entry s (Did op) ∷ []) ≡ true
  ops_more s [] op h = and_both (s == s) true (eq-eqb s s refl) refl
  ops_more s (e ∷ es) op h = let a = and_first (e.seat == s) (not (is_take e.what) && are_ops s es) h in let b = and_second (e.seat == s) (not (is_take e.what) && are_ops s es) h in
      and_both (e.seat == s) _ a (and_both (not (is_take e.what)) _ (and_first (not (is_take e.what)) (are_ops s es) b) (ops_more s es op (and_second (not (is_take e.what)) (are_ops s es) b)))

  hold_more : (s : ℕ) (es : List (Entry A)) (op : A) → is_hold s es ≡ true → is_hold s (es ++ entry s (Did op) ∷ []) ≡ true
  hold_more s [] op h = cc
  hold_more s (e ∷ es) op h = let a = and_first (e.seat == s) (is_take e.what && are_ops s es) h in let b = and_second (e.seat == s) (is_take e.what && are_ops s es) h in
      and_both (e.seat == s) _ a (and_both (is_take e.what) _ (and_first (is_take e.what) (are_ops s es) b) (ops_more s es op (and_second (is_take e.what) (are_ops s es) b)))

  goes : (s : ℕ) (js ks new : List (Entry A)) → ks ≡ js ++ new → is_hold s new ≡ true → JournalGoesOn s js ks
  goes s js ks new e h = let d : drop (length js) ks ≡ new = ap (drop (length js)) e ∙ drop-append_seam js new in
      (ap (λ x. js ++ x) d ∙ sym e, ap (is_hold s) d ∙ h)

  pub goes_first : (s : ℕ) (js ks : List (Entry A)) (how : How) → ks ≡ js ++ entry s (Took how) ∷ [] → JournalGoesOn s js ks
  goes_first s js ks how e = goes s js ks (entry s (Took how) ∷ []) e (and_both (s == s) true (eq-eqb s s refl) refl)

  pub goes_more : (s : ℕ) (js ks ls : List (Entry A)) (op : A) → JournalGoesOn s js ks → ls ≡ ks ++ entry s (Did op) ∷ [] → JournalGoesOn s js ls
  goes_more s js ks ls op g e = let new = drop (length js) ks in
      goes s js ls (new ++ entry s (Did op) ∷ []) (e ∙ (ap (λ x. x ++ entry s (Did op) ∷ []) (sym g.0) ∙ append_assoc js new (entry s (Did op) ∷ []))) (hold_more s new op g.1)

  -- the journal ks is js followed by entries of others than s alone
  pub record Others (s : ℕ) (js ks : List (Entry A)) : Type 0 where
    pub between : List (Entry A)
    pub grown : ks ≡ js ++ between
    pub none_own : own s between ≡ []

  others_none : (s : ℕ) (js : List (Entry A)) → Others s js js
  others_none s js = record { between = []; grown = sym (append-nil js); none_own = refl }

  others_on : (s : ℕ) (js ks ls : List (Entry A)) (new : List (Entry A)) → ks ≡ js ++ new → own s new ≡ [] → Others s ks ls → Others s js ls
  others_on s js ks ls new e none o = record {
    between = new ++ o.between;
    grown = o.grown ∙ (ap (λ x. x ++ o.between) e ∙ append_assoc js new o.between);
    none_own = own-append s new o.between ∙ (ap (λ x. x ++ own s o.between) none ∙ o.none_own);
  }

  -- The entries that others add don't change the list of own entries
  pub own_kept : (s : ℕ) (js ks : List (Entry A)) → Others s js ks → own s ks ≡ own s js
  own_kept s js ks o = ap (own s) o.grown ∙ (own-append s js o.between ∙ (ap (λ x. own s js ++ x) o.none_own ∙ append-nil (own s js)))

module _ {O A R : Type 0} {K : _} where
  pub same_monitor : (u v w : Journaled O A R K) → SameOpening u v → SameOpening v w → SameOpening u w
  same_monitor u v w a b = (b.0 ∙ a.0, b.1 ∙ a.1, b.2 ∙ a.2)

  led : (n s : ℕ) (path : List (ℕ × Journaled O A R K)) (v w : Journaled O A R K) → Leads JournalFollows n s path v w → SameOpening v w × Others s v.journal.items w.journal.items
  led n s [] v w e = ((ap (λ b. b.opening.value) (sym e), ap (λ b. b.seats) (sym e), ap (λ b. b.share) (sym e)), subst (λ (b : Journaled O A R K). Others s v.journal.items b.journal.items) e (others_none s v.journal.items))
  led n s (p ∷ ps) v w h = let on = led n s ps p.1 w h.2 in let f = h.1 in let js = v.journal.items in let new = drop (length js) p.1.journal.items in
      (same_monitor v p.1 w f.0 on.0, others_on s js p.1.journal.items w.journal.items new (sym f.1.0) (hold_of_others p.0 s new f.1.1 h.0.0) on.1)

  -- what a seat finds is what it last left, followed by entries of others alone
  pub found : (n s : ℕ) (v w : Journaled O A R K) → Reached JournalFollows n s v w → SameOpening v w × Others s v.journal.items w.journal.items
  found n s v w r = led n s r.0 v w r.1
