-- A seat that is split off the first one keeps the rule: it is split off at each table of a mutex.
use Rattle.std.proofs.Common.{◌≡◌, ◌≢◌, ◌⊎◌, ℕ, zero, suc, ◌+◌, ◌^◌, ◌<◌, ◌≤◌, Option, Some, None, List, [], ◌∷◌, ◌++◌, length, set, refl, sym, ap, ◌∙◌, subst, ⊎_elim, inl, inr, arith, length-set}
use Rattle.std.specs.Prelude.{⊤, true, slice_index, if◌then◌else◌}
use Rattle.std.proofs.lemmas.Bool.{cases_eq, false≢true}
use Rattle.std.proofs.lemmas.List.{get_or-map, length-map, length-append}
use mathlib.Core.Option.{some, some-injective, some-ne-none}
use lib.ListN.{get_elem?}
use Rattle.atomic_table.specs.Table.{State, Splits}
use Rattle.atomic_table.proofs.Lists.{at_set, set_here, set_else}
use Rattle.lfm_words.specs.Words.{is_grant_word}
use Rattle.lfm_table.specs.declared.seat_view.View.{View}
use Rattle.lfm_pool.specs.Chain.{HasRecord}
use Rattle.lfm_table.specs.Rule.{no_view, split_view, with_split}
use Rattle.lfm_table.proofs.tables.RuleKept.{length_at, total_set}
use Rattle.lfm_table.proofs.tables.OneView.{at_end}
use Rattle.lfm_laws.specs.laws.Schedules.{reached}
use Rattle.lfm_laws.specs.table.Carried.{carries_value}
use Rattle.lfm_protocol.specs.Core.{Core}
use Rattle.lfm_table.specs.Actions.{events_of}
use Rattle.lfm_table.proofs.tables.SplitsAndJoins.{splits, splits_keep}
use Rattle.lfm_pool.specs.declared.view.Known.{Known}
use Rattle.lfm_pool.specs.declared.view.PoolView.{PoolView}
use Rattle.lfm_pool.proofs.LoneTables.{seats_of}
use Rattle.lfm_pool.specs.Tables.{any_follows, any_fits, MutexTable, IsKept, known, note, part, rests, has_link, unnoted}
use Rattle.lfm_words.specs.declared.handoffs.Handoff.{Handoff}
use Rattle.lfm_pool.specs.Admissions.{HasSeen, HasStamps, admitted_in, is_admitted, stamp_in}
use Rattle.lfm_pool.specs.Posts.{HeldPosts, has_posted, loaded_post}
use Rattle.lfm_pool.proofs.Stamps.{sum_join}
use Rattle.lfm_pool.specs.Rule.{wake_at, HeldPool, NobodyCarries, left_view, right_view, MaySplit}

-- Lists with one more element

end_here : {A : Type 0} (xs : List A) (y : A) → get_elem? (xs ++ y ∷ []) (length xs) ≡ some y
end_here [] y = refl
end_here (x ∷ xs) y = end_here xs y

end_before : {A : Type 0} (xs : List A) (y z : A) (j : ℕ) → get_elem? xs j ≡ some z → get_elem? (xs ++ y ∷ []) j ≡ some z
end_before [] y z j e = absurd (some-ne-none z (sym e))
end_before (x ∷ xs) y z zero e = e
end_before (x ∷ xs) y z (suc j) e = end_before xs y z j e

-- Parts

left_known : (v : PoolView) (m : ℕ) → m < length v.parts → known (left_view v) m ≡ record (known v m) { view = with_split (part v m) }
left_known v m less = get_or-map (λ (k : Known). record k { view = with_split k.view }) v.parts m (unnoted no_view) (unnoted no_view) less

left_part : (v : PoolView) (m : ℕ) → m < length v.parts → part (left_view v) m ≡ with_split (part v m)
left_part v m less = ap (λ (k : Known). k.view) (left_known v m less)

left_note : (v : PoolView) (m : ℕ) → m < length v.parts → note (left_view v) m ≡ note v m
left_note v m less = ap (λ (k : Known). k.note) (left_known v m less)

right_part : (v : PoolView) (m : ℕ) → m < length v.parts → part (right_view v) m ≡ split_view (part v m)
right_part v m less = ap (λ (k : Known). k.view) (get_or-map (λ (k : Known). unnoted (split_view k.view)) v.parts m (unnoted no_view) (unnoted no_view) less)

module _ (v : PoolView) (may : MaySplit v) (s : State ℕ PoolView) (h : HeldPool s) (at : get_elem? s.views 0 ≡ some v) where
  within : (m : ℕ) → m < h.mutexes → m < length v.parts
  within m less = let w = h.wide 0 v at in omega (arith, w, less)

  abbrev views : List PoolView
  views = set s.views 0 (left_view v)

  abbrev table_views : ℕ → List (View ⊤)
  table_views m = set (h.tables m).views 0 (with_split (part v m))

  abbrev after : ℕ → MutexTable
  after m = record { words = (h.tables m).words; homes = (h.tables m).homes; views = set (h.tables m).views 0 (with_split (part v m)) ++ split_view (part v m) ∷ [] }

  kept_after : (m : ℕ) → m < h.mutexes → IsKept (after m)
  kept_after m less = splits any_follows any_fits (part v m) (may.1 m (within m less)).0 (may.1 m (within m less)).1 (h.tables m) (h.kept m less) (h.parts m 0 v less at)

  -- the core of the table is the same
  same_core : (m : ℕ) (less : m < h.mutexes) → (kept_after m less).core ≡ (h.kept m less).core
  unfolding kept_after
  same_core m less =
      let k = h.kept m less in
      let same = splits_keep any_follows any_fits (part v m) (may.1 m (within m less)).0 (may.1 m (within m less)).1 (h.tables m) (h.kept m less) (h.parts m 0 v less at) in
      (kept_after m less).run.here ∙ (λ i. reached (same.0 i) (events_of (same.1 i))) ∙ sym k.run.here

  lengths : (m : ℕ) → m < h.mutexes → length (table_views m) ≡ length views
  lengths m less = length-set (h.tables m).views 0 (with_split (part v m)) ∙ h.counted m less ∙ sym (length-set s.views 0 (left_view v))

  -- a seat after it: the first, another, or the new one
  abbrev Of : ℕ → PoolView → Type 0
  Of j z = ((j ≡ 0) × (left_view v ≡ z)) ⊎ (((j ≢ 0) × (get_elem? s.views j ≡ some z)) ⊎ ((j ≡ length views) × (right_view v ≡ z)))

  which : (j : ℕ) (z : PoolView) → get_elem? (views ++ right_view v ∷ []) j ≡ some z → Of j z
  which j z e = ⊎_elim
      (λ (t : get_elem? (set s.views 0 (left_view v)) j ≡ some z). ⊎_elim (λ (u : (j ≡ 0) × (left_view v ≡ z)). inl u) (λ (u : (j ≢ 0) × (get_elem? s.views j ≡ some z)). inr (inl u)) (at_set s.views 0 j (left_view v) z t))
      (λ (t : (j ≡ length (set s.views 0 (left_view v))) × (right_view v ≡ z)). inr (inr t))
      (at_end (set s.views 0 (left_view v)) (right_view v) z j e)

  -- its parts rest, have a link and wait as before; the new seat rests everywhere
  left_is : (m : ℕ) (z : PoolView) → m < h.mutexes → left_view v ≡ z → part z m ≡ with_split (part v m)
  left_is m z less e = ap (λ (y : PoolView). part y m) (sym e) ∙ left_part v m (within m less)

  right_is : (m : ℕ) (z : PoolView) → m < h.mutexes → right_view v ≡ z → part z m ≡ split_view (part v m)
  right_is m z less e = ap (λ (y : PoolView). part y m) (sym e) ∙ right_part v m (within m less)

  left_rests : (m : ℕ) (z : PoolView) → m < h.mutexes → left_view v ≡ z → rests (part z m) ≡ rests (part v m)
  left_rests m z less e = ap rests (left_is m z less e)

  right_rests : (m : ℕ) (z : PoolView) → m < h.mutexes → right_view v ≡ z → rests (part z m) ≡ true
  right_rests m z less e = ap rests (right_is m z less e)

  parts_after : (m j : ℕ) (z : PoolView) → m < h.mutexes → get_elem? (views ++ right_view v ∷ []) j ≡ some z → get_elem? (table_views m ++ split_view (part v m) ∷ []) j ≡ some (part z m)
  parts_after m j z less e = ⊎_elim
      (λ (t : (j ≡ 0) × (left_view v ≡ z)). rw (t.0, left_is m z less t.1)
      (end_before (table_views m) (split_view (part v m)) (with_split (part v m)) 0 (set_here (h.tables m).views 0 (with_split (part v m)) (length_at (h.tables m).views 0 (part v m) (h.parts m 0 v less at)))))
      (λ t. ⊎_elim
      (λ (u : (j ≢ 0) × (get_elem? s.views j ≡ some z)). end_before (table_views m) (split_view (part v m)) (part z m) j (set_else (h.tables m).views 0 j (with_split (part v m)) u.0 ∙ h.parts m j z less u.1))
      (λ (u : (j ≡ length views) × (right_view v ≡ z)). rw (right_is m z less u.1)
      (subst (λ (i : ℕ). get_elem? (table_views m ++ split_view (part v m) ∷ []) i ≡ some (split_view (part v m))) (lengths m less ∙ sym u.0) (end_here (table_views m) (split_view (part v m))))) t)
      (which j z e)

  held_after : HeldPool (record { words = s.words; homes = s.homes; views = views ++ right_view v ∷ [] })
  held_after = record {
    mutexes = h.mutexes;
    seats = h.seats;
    tables = after;
    kept = kept_after;
    sized = h.sized;
    long = h.long;
    wide = λ j z e. ⊎_elim
        (λ (t : (j ≡ 0) × (left_view v ≡ z)). ap (λ (y : PoolView). length y.parts) (sym t.1) ∙ length-map v.parts (λ (k : Known). record k { view = with_split k.view }) ∙ h.wide 0 v at)
        (λ t. ⊎_elim (λ (u : (j ≢ 0) × (get_elem? s.views j ≡ some z)). h.wide j z u.1)
        (λ (u : (j ≡ length views) × (right_view v ≡ z)). ap (λ (y : PoolView). length y.parts) (sym u.1) ∙ length-map v.parts (λ (k : Known). unnoted (split_view k.view)) ∙ h.wide 0 v at) t)
        (which j z e);
    counted = λ m less. length-append (table_views m) (split_view (part v m) ∷ []) ∙ ap (λ (n : ℕ). n + 1) (lengths m less) ∙ sym (length-append views (right_view v ∷ []));
    parts = parts_after;
    own = h.own;
    elsewhere = λ m n j z less less' differ e busy. ⊎_elim
        (λ (t : (j ≡ 0) × (left_view v ≡ z)). left_rests n z less' t.1 ∙ h.elsewhere m n 0 v less less' differ at (sym (left_rests m z less t.1) ∙ busy))
        (λ t. ⊎_elim (λ (u : (j ≢ 0) × (get_elem? s.views j ≡ some z)). h.elsewhere m n j z less less' differ u.1 busy)
        (λ (u : (j ≡ length views) × (right_view v ≡ z)). right_rests n z less' u.1) t)
        (which j z e);
    popped = h.popped;
    listed = λ m less. ap (λ (c : Core). c.popped) (same_core m less) ∙ h.listed m less;
    linked = λ m j z less e has. ⊎_elim
        (λ (t : (j ≡ 0) × (left_view v ≡ z)). rw t.0 (h.linked m 0 v less at (record {
          linked = ap has_link (sym (left_is m z less t.1)) ∙ has.linked;
          ungranted = ap (λ (i : ℕ). is_grant_word (slice_index (h.tables m).words (4 + h.seats + i))) (sym t.0) ∙ has.ungranted;
          unpopped = λ old. has.unpopped (subst (λ (i : ℕ). HasRecord (i + 1) (h.popped m)) (sym t.0) old);
        })))
        (λ t. ⊎_elim
        (λ (u : (j ≢ 0) × (get_elem? s.views j ≡ some z)). h.linked m j z less u.1 (record { linked = has.linked; ungranted = has.ungranted; unpopped = has.unpopped }))
        (λ (u : (j ≡ length views) × (right_view v ≡ z)). absurd (false≢true (sym (ap has_link (right_is m z less u.1)) ∙ has.linked))) t)
        (which j z e);
    dues = h.dues;
    chain = h.chain;
    noted = λ m j z less e carries. ⊎_elim
        (λ (t : (j ≡ 0) × (left_view v ≡ z)). ap (λ (y : PoolView). note y m) (sym t.1) ∙ left_note v m (within m less) ∙ h.noted m 0 v less at (ap (λ (y : View ⊤). carries_value y.state) (sym (left_is m z less t.1)) ∙ carries))
        (λ t. ⊎_elim
        (λ (u : (j ≢ 0) × (get_elem? s.views j ≡ some z)). h.noted m j z less u.1 carries)
        (λ (u : (j ≡ length views) × (right_view v ≡ z)). absurd (false≢true (sym (ap (λ (y : View ⊤). carries_value y.state) (right_is m z less u.1)) ∙ carries))) t)
        (which j z e);
    idle = λ m less none. h.idle m less (none_before m less none);
    wakes = λ m j z less e busy. ⊎_elim
        (λ (t : (j ≡ 0) × (left_view v ≡ z)). rw t.0 (h.wakes m 0 v less at (sym (left_rests m z less t.1) ∙ busy)))
        (λ t. ⊎_elim (λ (u : (j ≢ 0) × (get_elem? s.views j ≡ some z)). h.wakes m j z less u.1 busy)
        (λ (u : (j ≡ length views) × (right_view v ≡ z)). absurd (false≢true (sym busy ∙ right_rests m z less u.1))) t)
        (which j z e);
    quiet = λ j z e all. ⊎_elim
        (λ (t : (j ≡ 0) × (left_view v ≡ z)). rw t.0 (h.quiet 0 v at (λ m less. sym (left_rests m z less t.1) ∙ all m less)))
        (λ t. ⊎_elim (λ (u : (j ≢ 0) × (get_elem? s.views j ≡ some z)). h.quiet j z u.1 all)
        (λ (u : (j ≡ length views) × (right_view v ≡ z)). quiet_new j u.0) t)
        (which j z e);
    fresh = λ j far less. h.fresh j (let l = length-set s.views 0 (left_view v) in let k = length-append views (right_view v ∷ []) in omega (arith, l, k, far)) less;
  } where
    -- a seat that did not carry the mutex does not carry it now
    none_before : (m : ℕ) → m < h.mutexes → NobodyCarries m (views ++ right_view v ∷ []) → NobodyCarries m s.views
    none_before m less none j z e = elim (cases_eq j 0) [
      | inl first ↦
          let one : v ≡ z = some-injective v z (sym at ∙ ap (λ (i : ℕ). get_elem? s.views i) (sym first) ∙ e) in
          ap (λ (y : PoolView). carries_value (part y m).state) (sym one) ∙ ap (λ (y : View ⊤). carries_value y.state) (sym (left_part v m (within m less)))
          ∙ none 0 (left_view v) (end_before views (right_view v) (left_view v) 0 (set_here s.views 0 (left_view v) (length_at s.views 0 v at)))
      | inr other ↦ none j z (end_before views (right_view v) z j (set_else s.views 0 j (left_view v) other ∙ e))
    ]

    -- there is room for one more seat, as the first table of a mutex tells
    room : (j : ℕ) → j ≡ length views → j < h.seats
    room j e =
        let some : 0 < h.mutexes = (let w = h.wide 0 v at in let m = may.0 in omega (arith, w, m)) in
        let here = h.parts 0 0 v some at in
        let made = ((h.kept 0 some).root (part v 0) here).made in
        let sits = ap (λ l. l.seats) ((h.kept 0 some).each 0 (part v 0) here).limits_are in
        let words = seats_of (h.tables 0) (h.kept 0 some) in
        let most = (may.1 0 may.0).1 in
        let counted = h.counted 0 some in
        let sized = h.sized 0 some in
        let l = length-set s.views 0 (left_view v) in
        omega (arith, e, l, made, counted, sits, words, sized, most)

    quiet_new : (j : ℕ) → j ≡ length views → slice_index s.words (wake_at h.mutexes j) ≡ 0
    quiet_new j e = h.fresh j (let l = length-set s.views 0 (left_view v) in omega (arith, l, e)) (room j e)

pub pool_splits : (v : PoolView) → MaySplit v → Splits HeldPool 0 v (left_view v) (right_view v)
pool_splits v may s h at = held_after v may s h at

-- The numbers of posts

module _ (v : PoolView) (may : MaySplit v) (s : State ℕ PoolView) (h : HeldPosts s) (at : get_elem? s.views 0 ≡ some v) where
  abbrev own : State ℕ PoolView
  own = record { words = h.own; homes = s.homes; views = s.views }

  abbrev In : ℕ → PoolView → Type 0
  In j z = get_elem? (set s.views 0 (left_view v) ++ right_view v ∷ []) j ≡ some z

  counted_split : (m j : ℕ) (z : PoolView) → m < h.held.mutexes → In j z → h.names m (j + 1) (part z m).state.posts ≤ z.posts
  counted_split m j z less e = ⊎_elim
      (λ (t : (j ≡ 0) × (left_view v ≡ z)).
      subst (λ (y : ℕ × View ⊤ × ℕ). h.names m (y.0 + 1) y.1.state.posts ≤ y.2) (λ i. (sym t.0 i, sym (left_is v may own h.held at m z less t.1) i, ap (λ (y : PoolView). y.posts) t.1 i)) (h.counted m 0 v less at))
      (λ t. ⊎_elim
      (λ (u : (j ≢ 0) × (get_elem? s.views j ≡ some z)). h.counted m j z less u.1)
      (λ (u : (j ≡ length (set s.views 0 (left_view v))) × (right_view v ≡ z)).
      subst (λ (y : View ⊤ × ℕ). h.names m (j + 1) y.0.state.posts ≤ y.1) (λ i. (sym (right_is v may own h.held at m z less u.1) i, ap (λ (y : PoolView). y.posts) u.1 i)) (let none = h.first m (j + 1) in omega (arith, none))) t)
      (which v may own h.held at j z e)

  loaded_split : (m j : ℕ) (z : PoolView) (seen : Handoff) → m < h.held.mutexes → In j z → loaded_post (part z m).state.point ≡ Some seen → z.found ≡ h.names m seen.seat seen.post
  loaded_split m j z seen less e has = ⊎_elim
      (λ (t : (j ≡ 0) × (left_view v ≡ z)).
      ap (λ (y : PoolView). y.found) (sym t.1) ∙ h.loaded m 0 v seen less at (ap (λ (y : View ⊤). loaded_post y.state.point) (sym (left_is v may own h.held at m z less t.1)) ∙ has))
      (λ t. ⊎_elim
      (λ (u : (j ≢ 0) × (get_elem? s.views j ≡ some z)). h.loaded m j z seen less u.1 has)
      (λ (u : (j ≡ length (set s.views 0 (left_view v))) × (right_view v ≡ z)).
      let none : ◌≡◌ {A = Option Handoff} None (Some seen) = ap (λ (y : View ⊤). loaded_post y.state.point) (sym (right_is v may own h.held at m z less u.1)) ∙ has in absurd (cc)) t)
      (which v may own h.held at j z e)

  posted_split : (m j : ℕ) (z : PoolView) → m < h.held.mutexes → In j z → has_posted (part z m).state.point ≡ true → z.posts ≡ h.names m (j + 1) (part z m).state.posts
  posted_split m j z less e has = ⊎_elim
      (λ (t : (j ≡ 0) × (left_view v ≡ z)).
      subst (λ (y : ℕ × View ⊤ × ℕ). y.2 ≡ h.names m (y.0 + 1) y.1.state.posts) (λ i. (sym t.0 i, sym (left_is v may own h.held at m z less t.1) i, ap (λ (y : PoolView). y.posts) t.1 i))
      (h.posted m 0 v less at (ap (λ (y : View ⊤). has_posted y.state.point) (sym (left_is v may own h.held at m z less t.1)) ∙ has)))
      (λ t. ⊎_elim
      (λ (u : (j ≢ 0) × (get_elem? s.views j ≡ some z)). h.posted m j z less u.1 has)
      (λ (u : (j ≡ length (set s.views 0 (left_view v))) × (right_view v ≡ z)).
      absurd (false≢true (ap (λ (y : View ⊤). has_posted y.state.point) (sym (right_is v may own h.held at m z less u.1)) ∙ has))) t)
      (which v may own h.held at j z e)

  unfound_split : (j : ℕ) (z : PoolView) → In j z → ((m : ℕ) → m < h.held.mutexes → loaded_post (part z m).state.point ≡ None) → z.found ≡ 0
  unfound_split j z e none = ⊎_elim
      (λ (t : (j ≡ 0) × (left_view v ≡ z)).
      ap (λ (y : PoolView). y.found) (sym t.1) ∙ h.unfound 0 v at (λ m less. ap (λ (y : View ⊤). loaded_post y.state.point) (sym (left_is v may own h.held at m z less t.1)) ∙ none m less))
      (λ t. ⊎_elim
      (λ (u : (j ≢ 0) × (get_elem? s.views j ≡ some z)). h.unfound j z u.1 none)
      (λ (u : (j ≡ length (set s.views 0 (left_view v))) × (right_view v ≡ z)). ap (λ (y : PoolView). y.found) (sym u.1)) t)
      (which v may own h.held at j z e)

  -- a stamp is left for each seat that may push: the first may as often as before, and the new one may not

  left_admitted : (m : ℕ) → m < h.held.mutexes → admitted_in m (left_view v) ≡ admitted_in m v
  left_admitted m less = ap (λ (k : Known). if is_admitted k then 1 else 0) (left_known v m (within v may own h.held at m less))

  right_admitted : (m : ℕ) → m < h.held.mutexes → admitted_in m (right_view v) ≡ 0
  right_admitted m less =
      ap (λ (k : Known). if is_admitted k then 1 else 0)
      (get_or-map (λ (k : Known). unnoted (split_view k.view)) v.parts m (unnoted no_view) (unnoted no_view) (within v may own h.held at m less))

  stamps_split : (m : ℕ) → m < h.held.mutexes → HasStamps m s.words (set s.views 0 (left_view v) ++ right_view v ∷ [])
  stamps_split m less =
      let has = h.stamps m less in
      let both = sum_join (admitted_in m) (set s.views 0 (left_view v)) (right_view v) in
      let total = total_set (admitted_in m) s.views 0 v (left_view v) at in
      let left = left_admitted m less in
      let right = right_admitted m less in
      omega (arith, has, both, total, left, right)

  seen_split : (m j : ℕ) (z : PoolView) → m < h.held.mutexes → In j z → HasSeen m s.words z
  seen_split m j z less e = ⊎_elim
      (λ (t : (j ≡ 0) × (left_view v ≡ z)).
      let before = h.seen m 0 v less at in
      let same = ap (λ (k : Known). stamp_in k.admission.found) (left_known v m (within v may own h.held at m less)) in
      subst (λ (y : PoolView). HasSeen m s.words y) t.1 (omega (arith, before, same)))
      (λ t. ⊎_elim
      (λ (u : (j ≢ 0) × (get_elem? s.views j ≡ some z)). h.seen m j z less u.1)
      (λ (u : (j ≡ length (set s.views 0 (left_view v))) × (right_view v ≡ z)).
      let none : stamp_in (known (right_view v) m).admission.found ≡ 0 =
      ap (λ (k : Known). stamp_in k.admission.found) (get_or-map (λ (k : Known). unnoted (split_view k.view)) v.parts m (unnoted no_view) (unnoted no_view) (within v may own h.held at m less))
      in
      subst (λ (y : PoolView). HasSeen m s.words y) u.1 (omega (arith, none))) t)
      (which v may own h.held at j z e)

  few_split : (j : ℕ) (z : PoolView) → In j z → z.posts + 1 < 2 ^ 48
  few_split j z e = ⊎_elim
      (λ (t : (j ≡ 0) × (left_view v ≡ z)). let same = ap (λ (y : PoolView). y.posts) t.1 in let few = h.few 0 v at in omega (arith, same, few))
      (λ t. ⊎_elim
      (λ (u : (j ≢ 0) × (get_elem? s.views j ≡ some z)). h.few j z u.1)
      (λ (u : (j ≡ length (set s.views 0 (left_view v))) × (right_view v ≡ z)). let none = ap (λ (y : PoolView). y.posts) u.1 in omega (arith, none)) t)
      (which v may own h.held at j z e)

  posts_after : HeldPosts (record { words = s.words; homes = s.homes; views = set s.views 0 (left_view v) ++ right_view v ∷ [] })
  unfolding held_after
  posts_after = record {
    own = h.own;
    held = held_after v may own h.held at;
    names = h.names;
    long = h.long;
    same = h.same;
    handed = h.handed;
    rising = h.rising;
    first = h.first;
    counted = counted_split;
    loaded = loaded_split;
    posted = posted_split;
    unfound = unfound_split;
    stamps = stamps_split;
    seen = seen_split;
    few = few_split;
  }

pub posts_split : (v : PoolView) → MaySplit v → Splits HeldPosts 0 v (left_view v) (right_view v)
posts_split v may s h at = posts_after v may s h at
