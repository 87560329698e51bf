-- Lists whose items are related index by index, after one item was put at an index, or one was appended to each list.
use Rattle.std.proofs.Common.{◌≡◌, ◌≢◌, ⊎_elim, ℕ, zero, suc, ◌+◌, ◌<◌, List, [], ◌∷◌, ◌++◌, length, set, slice_set, refl, sym, ◌∙◌, ap, subst, arith}
use Rattle.std.proofs.lemmas.List.{length-set, length_push}
use mathlib.Core.Option.{some, some-injective}
use lib.ListN.{get_elem?}
use Rattle.lfm_monitor.specs.Pairs.{Each, Pairwise}
use Rattle.lfm_monitor.proofs.Places.{each_more, in_range, stands_last, stands_or_was, stood_before}

some_stands : {A : Type 0} (xs : List A) (i : ℕ) → i < length xs → (x : A) × (get_elem? xs i ≡ some x)
some_stands [] i h = absurd (omega arith)
some_stands (x ∷ xs) zero h = (x, refl)
some_stands (x ∷ xs) (suc i) h = some_stands xs i (omega arith)

module _ {A B : Type 0} (related : A → B → Type 0) where
  -- another item is put at an index, and is related too
  pub paired_set : (xs : List A) (ys : List B) (n : ℕ) (x : A) (y : B) → Pairwise related xs ys → get_elem? ys n ≡ some y → related x y → Pairwise related (slice_set xs n x) ys
  paired_set xs ys n x y of at belongs = record {
    long = length-set xs n x ∙ of.long;
    each = λ i c u ac au. ⊎_elim
        (λ q. let w : y ≡ u = some-injective y u (sym at ∙ (ap (get_elem? ys) (sym q.0) ∙ au)) in subst (λ (z : A). related z u) (sym q.1) (subst (λ (z : B). related x z) w belongs))
        (λ q. of.each i c u q.1 au)
        (stands_or_was xs n x i c ac);
  }

  -- a related item is appended to each list
  pub paired_more : (xs xs' : List A) (ys ys' : List B) (x : A) (y : B) → xs' ≡ xs ++ x ∷ [] → ys' ≡ ys ++ y ∷ [] → Pairwise related xs ys → related x y → Pairwise related xs' ys'
  paired_more xs xs' ys ys' x y grown more old of = let long = old.long in record {
    long = ap length grown ∙ (length_push xs x ∙ (ap (λ n. n + 1) long ∙ sym (ap length more ∙ length_push ys y)));
    each = λ i c v at is. each_more (λ i c. (v : B) → get_elem? ys' i ≡ some v → related c v) xs xs' x grown
        (λ i c at v is. old.each i c v at (stood_before ys (y ∷ []) i v (let h = in_range xs i c at in omega arith) (ap (λ l. get_elem? l i) (sym more) ∙ is)))
        (λ v is. subst (λ (z : B). related x z) (some-injective y v (sym (stands_last ys y) ∙ (ap (λ l. get_elem? l (length ys)) (sym more) ∙ subst (λ n. get_elem? ys' n ≡ some v) long is))) of) i c at v is;
  }

  -- the item that an item of the second list is related to
  pub partner : (xs : List A) (ys : List B) (i : ℕ) (y : B) → Pairwise related xs ys → get_elem? ys i ≡ some y → (x : A) × (get_elem? xs i ≡ some x) × related x y
  partner xs ys i y of at = let x = some_stands xs i (let low = in_range ys i y at in let e = of.long in omega arith) in (x.0, x.1, of.each i x.0 y x.1 at)

module _ {A : Type 0} (related : A → A → Type 0) (same : (x : A) → related x x) where
  pub paired_alike : (xs ys : List A) → ys ≡ xs → Pairwise related xs ys
  paired_alike xs ys is = record { long = sym (ap length is); each = λ i c d ac ad. subst (λ (z : A). related c z) (some-injective c d (sym ac ∙ (ap (λ l. get_elem? l i) (sym is) ∙ ad))) (same c) }

  -- one of the items was changed
  pub paired_one : (xs : List A) (n : ℕ) (c d : A) → get_elem? xs n ≡ some c → related c d → Pairwise related xs (slice_set xs n d)
  paired_one xs n c d at changed = record {
    long = sym (length-set xs n d);
    each = λ i x y ax ay. ⊎_elim
        (λ q. let w : c ≡ x = some-injective c x (sym at ∙ (ap (get_elem? xs) (sym q.0) ∙ ax)) in subst (λ (z : A). related z y) w (subst (λ (z : A). related c z) (sym q.1) changed))
        (λ q. subst (λ (z : A). related x z) (some-injective x y (sym ax ∙ q.1)) (same x))
        (stands_or_was xs n d i y ay);
  }

module _ {A : Type 0} (related : A → A → Type 0) (join : (x y z : A) → related x y → related y z → related x z) where
  pub paired_join : (xs ms ds : List A) → Pairwise related xs ms → Pairwise related ms ds → Pairwise related xs ds
  paired_join xs ms ds h k = record {
    long = h.long ∙ k.long;
    each = λ i c d ac ad. let m = some_stands ms i (let low = in_range xs i c ac in let e = h.long in omega arith) in
        join c m.0 d (h.each i c m.0 ac m.1) (k.each i m.0 d m.1 ad);
  }

  -- one more of the items was changed
  pub paired_next : (us vs : List A) (n : ℕ) (v w : A) → Pairwise related us vs → get_elem? vs n ≡ some v → related v w → Pairwise related us (set vs n w)
  paired_next us vs n v w old stood changed = record {
    long = old.long ∙ sym (length-set vs n w);
    each = λ i u x au ax. ⊎_elim
        (λ q. subst (λ (y : A). related u y) (sym q.1) (join u v w (old.each i u v au (ap (get_elem? vs) q.0 ∙ stood)) changed))
        (λ q. old.each i u x au q.1)
        (stands_or_was vs n w i x ax);
  }

-- a property holds of the items before this index, and of the one that was put at it
pub each_set : {A : Type 0} (has : A → Type 0) (vs : List A) (n : ℕ) (w : A) → ((i : ℕ) (v : A) → i < n → get_elem? vs i ≡ some v → has v) → has w → (i : ℕ) (v : A) → i < n + 1 → get_elem? (set vs n w) i ≡ some v → has v
each_set {A} has vs n w before is i v low at = ⊎_elim
    (λ q. subst (λ (y : A). has y) (sym q.1) is)
    (λ q. before i v (let other : i ≢ n = q.0 in omega arith) q.1)
    (stands_or_was vs n w i v at)
