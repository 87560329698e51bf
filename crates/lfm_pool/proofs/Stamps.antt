-- A stamp is left for each seat that may push: what the steps, and the loads before them, make of that.
use Rattle.std.proofs.Common.{◌≡◌, ◌≢◌, ℕ, zero, suc, ◌+◌, ◌^◌, ◌<◌, ◌≤◌, List, [], ◌∷◌, ◌++◌, length, set, true, false, refl, sym, ap, ◌∙◌, inl, inr, arith}
use Rattle.std.specs.Prelude.{⊤, Bool, ◌&&◌, ◌⊎◌, nat_eq, nat_lt, slice_index, if◌then◌else◌}
use Rattle.std.proofs.lemmas.Bool.{cases_eq, false≢true, ne_eqb}
use mathlib.Core.Option.{some, some-injective, some-ne-none}
use lib.ListN.{get_elem?}
use Rattle.lfm_words.specs.Words.{link_of}
use Rattle.lfm_protocol.specs.After.{same_link}
use Rattle.lfm_protocol.specs.declared.points.Point.{Point}
use Rattle.lfm_protocol.specs.declared.points.Point.TheVariants.{PushExchange}
use Rattle.lfm_table.specs.Rule.{sum_over}
use Rattle.lfm_table.specs.declared.seat_view.Seen.{Seen}
use Rattle.lfm_table.specs.declared.seat_view.View.{View}
use Rattle.lfm_table.proofs.tables.RuleKept.{total_set}
use Rattle.lfm_pool.specs.declared.view.Known.{Known}
use Rattle.lfm_pool.specs.declared.view.Note.{Note}
use Rattle.lfm_pool.specs.declared.view.PoolView.{PoolView}
use Rattle.lfm_pool.specs.Admissions.{HasStamps, MayPush, admitted_in, is_admitted, most_stamps, pushed_at, pushes, stamp_in}
use Rattle.lfm_pool.specs.Layout.{own_at}
use Rattle.lfm_pool.specs.Tables.{known, with_part}
use Rattle.lfm_pool.proofs.LoneTables.{known_other, known_same}

-- Sums over the views

pub sum_join : {A : Type 0} (f : A → ℕ) (l : List A) (x : A) → sum_over f (l ++ x ∷ []) ≡ sum_over f l + f x
sum_join f [] x = omega arith
sum_join f (y ∷ l) x = let rest = sum_join f l x in omega (arith, rest)

-- one of them is at most the sum
pub sum_at : {A : Type 0} (f : A → ℕ) (l : List A) (i : ℕ) (a : A) → get_elem? l i ≡ some a → f a ≤ sum_over f l
sum_at f [] i a e = absurd (some-ne-none a (sym e))
sum_at f (x ∷ xs) zero a e = let q : f x ≡ f a = ap f (some-injective x a e) in omega (arith, q)
sum_at f (x ∷ xs) (suc i) a e = let h = sum_at f xs i a e in omega (arith, h)

-- if each is at most 1, the sum is at most their number
sum_few : {A : Type 0} (f : A → ℕ) → ((a : A) → f a ≤ 1) → (l : List A) → sum_over f l ≤ length l
sum_few f one [] = omega arith
sum_few f one (x ∷ xs) = let h = sum_few f one xs in let o = one x in omega (arith, h, o)

-- One seat

unit_most : (b : Bool) → (if b then 1 else 0) ≤ 1
unit_most true = omega arith
unit_most false = omega arith

pub admitted_most : (m : ℕ) (v : PoolView) → admitted_in m v ≤ 1
admitted_most m v = unit_most (is_admitted (known v m))

-- the pushes in a trail that grows by one step
pub pushes_more : (trail : List Seen) (x : Seen) → pushes (trail ++ x ∷ []) ≡ pushes trail + pushed_at x.point x.found
pushes_more [] x = omega arith
pushes_more (y ∷ trail) x = let rest = pushes_more trail x in omega (arith, rest)

abbrev unit : Bool → ℕ
unit b = if b then 1 else 0

first_true : (a b : Bool) → (a && b) ≡ true → a ≡ true
first_true true b e = refl
first_true false b e = absurd (false≢true e)

-- an admission is used up by one push
used : (next now : ℕ) (small : Bool) → (nat_eq next (now + 1) && small) ≡ true → unit (nat_eq next (now + 1 + 1) && small) ≡ 0
used next now small e =
    let is : next ≡ now + 1 = eq_of next (now + 1) (first_true (nat_eq next (now + 1)) small e) in
    ap (λ (b : Bool). unit (b && small)) (ne_eqb next (now + 1 + 1) (λ same. omega (arith, is, same))) where
      eq_of : (a b : ℕ) → nat_eq a b ≡ true → a ≡ b
      eq_of a b same = elim (cases_eq a b) [
        | inl equal ↦ equal
        | inr other ↦ absurd (false≢true (sym (ne_eqb a b other) ∙ same))
      ]

-- after a step at this point, which found n, the seat may push no more often than before, less the record that it has pushed
after_point : (q : Point) (n before after : ℕ) (k : Known) (small : Bool) → before ≡ pushes k.view.trail → after ≡ before + pushed_at q n → small ≡ nat_lt (stamp_in k.admission.found) most_stamps → MayPush q k
    → unit (nat_eq k.admission.next_push (after + 1) && small) + pushed_at q n ≤ unit (is_admitted k)
after_point (PushExchange pusher old) n before after k small is grown small_is may = by_hit (same_link (link_of n) old) refl where
  admitted : (nat_eq k.admission.next_push (before + 1) && small) ≡ true
  admitted = (λ i. nat_eq k.admission.next_push (is i + 1) && small_is i) ∙ may

  by_hit : (b : Bool) → same_link (link_of n) old ≡ b → unit (nat_eq k.admission.next_push (after + 1) && small) + pushed_at (PushExchange pusher old) n ≤ unit (is_admitted k)
  by_hit true hit =
      let one : pushed_at (PushExchange pusher old) n ≡ 1 = ap unit hit in
      let last : after ≡ before + 1 = omega (arith, grown, one) in
      let none : unit (nat_eq k.admission.next_push (after + 1) && small) ≡ 0 = ap (λ (x : ℕ). unit (nat_eq k.admission.next_push (x + 1) && small)) last ∙ used k.admission.next_push before small admitted in
      let had : unit (is_admitted k) ≡ 1 = ap unit may in
      omega (arith, one, none, had)
  by_hit false miss =
      let zero_is : pushed_at (PushExchange pusher old) n ≡ 0 = ap unit miss in
      let had : unit (is_admitted k) ≡ 1 = ap unit may in
      let most = unit_most (nat_eq k.admission.next_push (after + 1) && small) in
      omega (arith, zero_is, had, most)
after_point _ n before after k small is grown small_is may =
    let last : after ≡ before = omega (arith, grown) in
    let same : unit (nat_eq k.admission.next_push (after + 1) && small) ≡ unit (is_admitted k) = (λ i. unit (nat_eq k.admission.next_push ((last ∙ is) i + 1) && small_is i)) in
    omega (arith, same)

-- The seat knows the view w of mutex m after a step there, with one entry more in its trail

module _ (v : PoolView) (m : ℕ) (w : View ⊤) (note : Note) (inside : m < length v.parts) where
  pub admitted_after : (q : Point) (n : ℕ) → pushes w.trail ≡ pushes (known v m).view.trail + pushed_at q n → MayPush q (known v m) → admitted_in m (with_part v m w note) + pushed_at q n ≤ admitted_in m v
  admitted_after q n grown may =
      let same : admitted_in m (with_part v m w note) ≡ unit (is_admitted (record (known v m) { view = w; note = note })) = ap (λ (k : Known). unit (is_admitted k)) (known_same v m w note inside) in
      let after = after_point q n (pushes (known v m).view.trail) (pushes w.trail) (known v m) (nat_lt (stamp_in (known v m).admission.found) most_stamps) refl grown refl may in
      omega (arith, same, after)

  pub admitted_same : pushes w.trail ≡ pushes (known v m).view.trail → admitted_in m (with_part v m w note) ≡ admitted_in m v
  admitted_same same =
      ap (λ (k : Known). unit (is_admitted k)) (known_same v m w note inside)
      ∙ ap (λ (x : ℕ). unit (nat_eq (known v m).admission.next_push (x + 1) && nat_lt (stamp_in (known v m).admission.found) most_stamps)) same

  pub admitted_elsewhere : (i : ℕ) → i ≢ m → admitted_in i (with_part v m w note) ≡ admitted_in i v
  admitted_elsewhere i other = ap (λ (k : Known). unit (is_admitted k)) (known_other v m i w note other)

-- All seats

-- the seat at place id, which knew v, knows u now, and the push word of the mutex has changed by no more
pub stamps_kept : (m : ℕ) (words after : List ℕ) (views : List PoolView) (id : ℕ) (v u : PoolView) → get_elem? views id ≡ some v → HasStamps m words views
    → stamp_in (slice_index after (own_at m 3)) + admitted_in m u ≤ stamp_in (slice_index words (own_at m 3)) + admitted_in m v → HasStamps m after (set views id u)
stamps_kept m words after views id v u at has fewer =
    let total = total_set (admitted_in m) views id v u at in
    omega (arith, has, total, fewer)

pushed_most : (q : Point) (n : ℕ) (k : Known) → MayPush q k → pushed_at q n ≤ unit (is_admitted k)
pushed_most (PushExchange pusher old) n k may = let one = unit_most (same_link (link_of n) old) in let had : unit (is_admitted k) ≡ 1 = ap unit may in omega (arith, one, had)
pushed_most _ n k may = omega arith

-- a stamp is left for the seat that steps
pub stamp_left : (m : ℕ) (words : List ℕ) (views : List PoolView) (id : ℕ) (v : PoolView) → get_elem? views id ≡ some v → HasStamps m words views
    → (q : Point) (n : ℕ) → MayPush q (known v m) → stamp_in (slice_index words (own_at m 3)) + pushed_at q n + 1 < 2 ^ 48
stamp_left m words views id v at has q n may =
    let one = pushed_most q n (known v m) may in
    let sum = sum_at (admitted_in m) views id v at in
    omega (arith, has, one, sum)

-- it has loaded the push word, and has found that stamps are left, or may push no more than before
pub stamps_loaded : (m : ℕ) (words : List ℕ) (views : List PoolView) (id : ℕ) (v u : PoolView) → get_elem? views id ≡ some v → HasStamps m words views
    → length views ≤ 4095 → (admitted_in m u ≡ 0) ⊎ (stamp_in (slice_index words (own_at m 3)) < most_stamps) → HasStamps m words (set views id u)
stamps_loaded m words views id v u at has few found =
    let total = total_set (admitted_in m) views id v u at in
    elim found [
      | inl none ↦ omega (arith, has, total, none)
      | inr left ↦
          let sum = sum_few (admitted_in m) (admitted_most m) views in
          let one = admitted_most m u in
          omega (arith, left, few, sum, one, total)
    ]

-- the numbers of a seat's posts rise, so that none is less than its place
pub names_rise : (f : ℕ → ℕ) → ((a b : ℕ) → a < b → f a < f b) → (n : ℕ) → n ≤ f n
names_rise f rising zero = omega arith
names_rise f rising (suc n) = let h = names_rise f rising n in let more = rising n (suc n) (omega arith) in omega (arith, h, more)
