-- What a journal of two parts determines follows from its parts in sequence.
use Rattle.std.proofs.Common.{◌≡◌, ℕ, ◌+◌, ◌==◌, Bool, true, false, if◌then◌else◌, List, [], ◌∷◌, ◌++◌, Option, refl, sym, ◌∙◌, ap, append_assoc}
use Rattle.std.proofs.Common.{add-one, append-nil}
use Rattle.std.specs.List.{cons_option}
use Rattle.std.proofs.lemmas.List.Elements.{filter_map-append}
use Rattle.lfm_model.specs.declared.answers.How.TheVariants.{Free, Queued}
use Rattle.lfm_model.specs.declared.journals.What.{What}
use Rattle.lfm_model.specs.declared.journals.What.TheVariants.{Took, Did}
use Rattle.lfm_model.specs.declared.journals.Entry.{Entry}
use Rattle.lfm_model.specs.Journals.{after_what, after_all, reply_of, replies_of, one_to, stamp_of, stamps, taker_at, queued_at, May, taker_from, queued_from, LawfulFrom, own}

module _ {O A : Type 0} (after : O → A → O) where
  pub after-append : (o : O) (xs ys : List (Entry A)) → after_all after o (xs ++ ys) ≡ after_all after (after_all after o xs) ys
  after-append o [] ys = refl
  after-append o (e ∷ xs) ys = after-append (after_what after o e.what) xs ys

module _ {O A R : Type 0} (after : O → A → O) (reply : O → A → R) where
  pub replies-append : (o : O) (xs ys : List (Entry A)) → replies_of after reply o (xs ++ ys) ≡ replies_of after reply o xs ++ replies_of after reply (after_all after o xs) ys
  replies-append o [] ys = refl
  replies-append o (e ∷ xs) ys = ap (λ r. reply_of after reply o e.what ++ r) (replies-append (after_what after o e.what) xs ys)
      ∙ sym (append_assoc (reply_of after reply o e.what) (replies_of after reply (after_what after o e.what) xs) _)

module _ {A : Type 0} where
  pub stamps-append : (xs ys : List (Entry A)) → stamps (xs ++ ys) ≡ stamps xs ++ stamps ys
  stamps-append xs ys = filter_map-append (λ e. stamp_of e.what) xs ys

  pub taker-append : (t : Option ℕ) (xs ys : List (Entry A)) → taker_from t (xs ++ ys) ≡ taker_from (taker_from t xs) ys
  taker-append t [] ys = refl
  taker-append t (e ∷ xs) ys = taker-append (taker_at t e.seat e.what) xs ys

  pub queued-append : (k : ℕ) (xs ys : List (Entry A)) → queued_from k (xs ++ ys) ≡ queued_from (queued_from k xs) ys
  queued-append k [] ys = refl
  queued-append k (e ∷ xs) ys = queued-append (queued_at k e.what) xs ys

  pub lawful-append : (t : Option ℕ) (k : ℕ) (xs ys : List (Entry A)) → LawfulFrom t k xs → LawfulFrom (taker_from t xs) (queued_from k xs) ys → LawfulFrom t k (xs ++ ys)
  lawful-append t k [] ys a b = b
  lawful-append t k (e ∷ xs) ys a b = (a.0, lawful-append (taker_at t e.seat e.what) (queued_at k e.what) xs ys a.1 b)

  own_step : (b : Bool) (e : Entry A) (xs zs ys : List (Entry A)) → xs ≡ zs ++ ys → (if b then e ∷ xs else xs) ≡ (if b then e ∷ zs else zs) ++ ys
  own_step true e xs zs ys q = ap (λ r. e ∷ r) q
  own_step false e xs zs ys q = q

  pub own-append : (s : ℕ) (xs ys : List (Entry A)) → own s (xs ++ ys) ≡ own s xs ++ own s ys
  own-append s [] ys = refl
  own-append s (e ∷ xs) ys = own_step (e.seat == s) e (own s (xs ++ ys)) (own s xs) (own s ys) (own-append s xs ys)

  stamps_step : (t : Option ℕ) (k s : ℕ) (w : What A) (rest : List ℕ) (n : ℕ) → May t k s w → one_to (queued_at k w) ++ rest ≡ one_to n → one_to k ++ cons_option (stamp_of w) rest ≡ one_to n
  stamps_step t k s (Took Free) rest n m q = q
  stamps_step t k s (Took (Queued x)) rest n m q = ap (λ y. one_to k ++ (y ∷ rest)) m ∙ sym (append_assoc (one_to k) ((k + 1) ∷ []) rest) ∙ (let f : one_to (k + 1) ++ rest ≡ one_to n = q in rw add-one at f)
  stamps_step t k s (Did op) rest n m q = q

  -- the numbers 1 to k, followed by the stamps of a journal that is lawful after k queued takes, are 1, 2, 3 and so on
  pub lawful_stamps : (t : Option ℕ) (k : ℕ) (xs : List (Entry A)) → LawfulFrom t k xs → one_to k ++ stamps xs ≡ one_to (queued_from k xs)
  lawful_stamps t k [] h = append-nil (one_to k)
  lawful_stamps t k (e ∷ xs) h = stamps_step t k e.seat e.what (stamps xs) (queued_from k (e ∷ xs)) h.0 (lawful_stamps (taker_at t e.seat e.what) (queued_at k e.what) xs h.1)
