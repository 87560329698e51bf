-- The load by which a seat sees whether a stamp is left keeps the rule of the pool.
use Rattle.std.proofs.Common.{◌≡◌, ◌≢◌, ℕ, ◌+◌, ◌<◌, ◌≤◌, List, length, set, refl, sym, ap, ◌∙◌, subst, inl, inr, arith, tests}
use Rattle.std.specs.Prelude.{⊤, Bool, true, false, ◌&&◌, nat_eq, nat_lt, slice_index, ◌⊎◌, if◌then◌else◌}
use Rattle.std.proofs.lemmas.Bool.{cases_eq, cases_lt}
use Rattle.std.proofs.lemmas.List.{set-get_or, get_or-set_other, get_or-set_same}
use mathlib.Core.Option.{some}
use lib.ListN.{get_elem?}
use Rattle.atomic_table.specs.Table.{State, Me, Allows, keeps}
use Rattle.lfm_table.proofs.tables.RuleKept.{length_at}
use Rattle.lfm_pool.specs.declared.pool.Pool.{Pool}
use Rattle.lfm_pool.specs.declared.pool.TableSeat.{TableSeat}
use Rattle.lfm_pool.specs.declared.view.PoolView.{PoolView}
use Rattle.lfm_pool.specs.Admissions.{HasSeen, HasStamps, with_admission, admitted_in, is_admitted, most_stamps, pushes, stamp_in}
use Rattle.lfm_pool.specs.Belongs.{IsMutex, OfPool}
use Rattle.lfm_pool.specs.Posts.{HeldPosts, KeepsPost, KeepsPosts}
use Rattle.lfm_pool.specs.Rule.{own_at, HeldPool}
use Rattle.lfm_pool.specs.Tables.{known, part, unnoted}
use Rattle.lfm_table.specs.Rule.{no_view}
use Rattle.atomic_table.proofs.Lists.{set_again}
use Rattle.lfm_pool.proofs.Admitted.{length_admission, note_admission, part_admission}
use Rattle.lfm_pool.proofs.PostStates.{keeps_same}
use Rattle.lfm_pool.proofs.PostsKept.{LeavesStamps, allows_posts}
use Rattle.lfm_pool.proofs.SameParts.{held_same}
use Rattle.lfm_pool.proofs.Stamps.{stamps_kept, stamps_loaded}
use Rattle.lfm_pool.specs.declared.view.Known.{Known}
use Rattle.lfm_table.specs.declared.seat_view.View.{View}

-- What a seat knows after the load, except that it may push

module _ (v : PoolView) (m found : ℕ) (inside : m < length v.parts) where
  abbrev u : PoolView
  u = with_admission v m found

  abbrev loaded : Known
  loaded = record (known v m) { admission = record { found = found; next_push = pushes (known v m).view.trail + 1 } }

  known_loaded : known (with_admission v m found) m ≡ record (known v m) { admission = record { found = found; next_push = pushes (known v m).view.trail + 1 } }
  known_loaded = get_or-set_same v.parts m loaded (unnoted no_view) inside

  known_apart : (i : ℕ) → i ≢ m → known (with_admission v m found) i ≡ known v i
  known_apart i other = get_or-set_other v.parts m i loaded (unnoted no_view) other

  -- it may push only if it has found that stamps are left
  admitted_loaded : (admitted_in m (with_admission v m found) ≡ 0) ⊎ (stamp_in found < most_stamps)
  admitted_loaded = elim (cases_lt (stamp_in found) most_stamps) [
    | inl left ↦ inr left
    | inr full ↦ inl (ap (λ (k : Known). if is_admitted k then 1 else 0) known_loaded ∙ none (nat_eq (pushes (known v m).view.trail + 1) (pushes (known v m).view.trail + 1)) (let less : nat_lt (stamp_in found) most_stamps ≡ false = search (tests, arith, full) in less))
  ] where
    none : (b : Bool) → nat_lt (stamp_in found) most_stamps ≡ false → ◌≡◌ {A = ℕ} (if b && nat_lt (stamp_in found) most_stamps then 1 else 0) 0
    none true e = ap (λ (c : Bool). if c then 1 else 0) e
    none false e = refl

  admitted_apart : (i : ℕ) → i ≢ m → admitted_in i (with_admission v m found) ≡ admitted_in i v
  admitted_apart i other = ap (λ (k : Known). if is_admitted k then 1 else 0) (known_apart i other)

module _ (p : Pool) (t : TableSeat) (m : ℕ) (belongs : OfPool t p) (mutex : IsMutex m p) where
  here : m < length t.place.me.0.parts
  here = let n = belongs.parts in omega (arith, n, mutex)

  keeps_pool : (slots index : ℕ) → index ≡ own_at m 3 → Allows HeldPool slots t.place.id t.place.me index (λ n. n) (λ n me'. me' ≡ (with_admission t.place.me.0 m n, t.place.me.1))
  keeps_pool slots index e s h none at small =
      let n = slice_index s.words index in
      let u = with_admission t.place.me.0 m n in
      let same : HeldPool (record { words = s.words; homes = s.homes; views = set s.views t.place.id t.place.me.0 }) =
      subst HeldPool (λ i. record { words = s.words; homes = s.homes; views = sym (set_again s.views t.place.id t.place.me.0 at) i }) h
      in
      let held = held_same s.words s.homes s.views t.place.id (with_admission t.place.me.0 m n) t.place.me.0 (λ i. (part_admission t.place.me.0 m n i, note_admission t.place.me.0 m n i)) (length_admission t.place.me.0 m n)
      (length_at s.views t.place.id t.place.me.0 at) same
      in (
        u,
        keeps,
        tt,
        subst HeldPool (λ i. record { words = sym (set-get_or s.words index 0) i; homes = s.homes; views = set s.views t.place.id (with_admission t.place.me.0 m (slice_index s.words index)) }) held,
        refl,
      )

  keeps_posts : (n : ℕ) → KeepsPosts t.place.me.0 (with_admission t.place.me.0 m n)
  keeps_posts n = record {
    parts = length_admission t.place.me.0 m n;
    posts = refl;
    found = refl;
    each = λ i. subst (λ (y : View ⊤). KeepsPost (part t.place.me.0 i).state y.state) (sym (part_admission t.place.me.0 m n i)) (keeps_same (part t.place.me.0 i).state);
  }

  -- a stamp is left after it for each seat that may push
  module _ (index : ℕ) (e : index ≡ own_at m 3) (s : State ℕ PoolView) (h : HeldPosts s) (at : get_elem? s.views t.place.id ≡ some t.place.me.0) where
    inner : m < h.held.mutexes
    inner = let wide = h.held.wide t.place.id t.place.me.0 at in let n = belongs.parts in omega (arith, wide, n, mutex)

    few : length s.views ≤ 4095
    few =
        let k = h.held.kept m inner in
        let counted = h.held.counted m inner in
        let sizes = k.fits.sizes.seats in
        let most = k.few in
        omega (arith, counted, sizes, most)

    word_is : slice_index h.own index ≡ slice_index s.words (own_at m 3)
    word_is = ap (λ (i : ℕ). slice_index h.own i) e ∙ sym (h.same (own_at m 3) (λ i less hit. omega (arith, hit)))

    same_words : set s.words index (slice_index h.own index) ≡ s.words
    same_words = (λ i. set s.words (e i) (word_is i)) ∙ set-get_or s.words (own_at m 3) 0

    -- what the seat has found is the stamp of the push word
    seen_then : (i : ℕ) → i < h.held.mutexes → HasSeen i s.words (with_admission t.place.me.0 m (slice_index h.own index))
    seen_then i less = elim (cases_eq i m) [
      | inl same ↦
          let mine = ap (λ (k : Known). stamp_in k.admission.found) (known_loaded t.place.me.0 m (slice_index h.own index) here) in
          let word = ap stamp_in word_is in
          rw same (omega (arith, mine, word))
      | inr other ↦
          let kept = ap (λ (k : Known). stamp_in k.admission.found) (known_apart t.place.me.0 m (slice_index h.own index) here i other) in
          let before = h.seen i t.place.id t.place.me.0 less at in
          omega (arith, kept, before)
    ]

    stamps_then : (i : ℕ) → i < h.held.mutexes → HasStamps i s.words (set s.views t.place.id (with_admission t.place.me.0 m (slice_index h.own index)))
    stamps_then i less = elim (cases_eq i m) [
      | inl same ↦
          rw same (stamps_loaded m s.words s.views t.place.id t.place.me.0 (with_admission t.place.me.0 m (slice_index h.own index)) at (h.stamps m inner) few
          (subst (λ (x : ℕ). (admitted_in m (with_admission t.place.me.0 m (slice_index h.own index)) ≡ 0) ⊎ (stamp_in x < most_stamps)) word_is (admitted_loaded t.place.me.0 m (slice_index h.own index) here)))
      | inr other ↦
          stamps_kept i s.words s.words s.views t.place.id t.place.me.0 (with_admission t.place.me.0 m (slice_index h.own index)) at (h.stamps i less)
          (let unit = admitted_apart t.place.me.0 m (slice_index h.own index) here i other in omega (arith, unit))
    ]

    left_then : (i : ℕ) → i < h.held.mutexes
        → LeavesStamps i s.words (set s.words index (slice_index h.own index)) (set s.views t.place.id (with_admission t.place.me.0 m (slice_index h.own index))) (with_admission t.place.me.0 m (slice_index h.own index))
    left_then i less =
        subst (λ (ws : List ℕ). LeavesStamps i s.words ws (set s.views t.place.id (with_admission t.place.me.0 m (slice_index h.own index))) (with_admission t.place.me.0 m (slice_index h.own index))) (sym same_words)
        (stamps_then i less, seen_then i less, omega arith)

pub loads_push : (p : Pool) (t : TableSeat) (m : ℕ) → OfPool t p → IsMutex m p → (slots index picked : ℕ) → picked ≡ m → index ≡ own_at m 3
    → Allows HeldPosts slots t.place.id t.place.me index (λ n. n) (λ n me'. me' ≡ (with_admission t.place.me.0 picked n, t.place.me.1))
loads_push p t m belongs mutex slots index picked one e =
    subst (λ (z : ℕ). Allows HeldPosts slots t.place.id t.place.me index (λ n. n) (λ n me'. me' ≡ (with_admission t.place.me.0 z n, t.place.me.1))) (sym one)
    (allows_posts slots t.place.id index t.place.me (λ n. n) (λ n me'. me' ≡ (with_admission t.place.me.0 m n, t.place.me.1)) (keeps_pool p t m belongs mutex slots index e)
    (λ s h at i less hit. omega (arith, e, hit))
    (λ n me' told. subst (λ (z : Me ℕ PoolView). KeepsPosts t.place.me.0 z.0) (sym told) (keeps_posts p t m belongs mutex n))
    (λ s h at me' told i less. subst (λ (z : Me ℕ PoolView). LeavesStamps i s.words (set s.words index (slice_index h.own index)) (set s.views t.place.id z.0) z.0) (sym told) (left_then p t m belongs mutex index e s h at i less)))
