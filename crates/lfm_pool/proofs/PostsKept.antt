-- What keeps the rule of a pool's table: a step that keeps the rule of the words with the handoff words of the tables, if
-- the numbers of posts go with it.
use Rattle.std.proofs.Common.{◌≡◌, ◌≢◌, ◌⊎◌, ℕ, zero, suc, ◌+◌, ◌^◌, ◌<◌, ◌≤◌, List, [], ◌∷◌, get_or, length, set, refl, sym, ap, ◌∙◌, subst, ⊎_elim, inl, inr, arith, length-set, Some, None}
use Rattle.std.specs.Prelude.{true, slice_index}
use Rattle.std.proofs.lemmas.Bool.{cases_eq}
use Rattle.std.proofs.lemmas.List.{get_or-set_other, get_or-set_same}
use mathlib.Core.Option.{some}
use lib.ListN.{get_elem?}
use Rattle.atomic_table.specs.Table.{State, Me, Act, Allows, Valid, carried_after, homes_after, stepped}
use Rattle.atomic_table.proofs.Lists.{at_set, set_here}
use Rattle.lfm_words.specs.declared.handoffs.Handoff.{Handoff}
use Rattle.lfm_table.proofs.tables.RuleKept.{length_at}
use Rattle.lfm_pool.specs.declared.view.PoolView.{PoolView}
use Rattle.lfm_pool.specs.Admissions.{HasSeen, HasStamps, stamp_in}
use Rattle.lfm_pool.specs.Posts.{HeldPosts, KeepsPosts, has_posted, loaded_post, named}
use Rattle.lfm_pool.specs.Rule.{own_at, HeldPool}
use Rattle.lfm_pool.specs.Tables.{part}

-- what an access of a seat, which has the view u then, leaves of the stamps of mutex m: one for each seat that may push, and
-- none is lower than before
abbrev pub LeavesStamps : ℕ → List ℕ → List ℕ → List PoolView → PoolView → Type 0
LeavesStamps m words after views u = HasStamps m after views × HasSeen m after u × (stamp_in (slice_index words (own_at m 3)) ≤ stamp_in (slice_index after (own_at m 3)))

-- two lists of one length that have the same at an index, after the same was written there
pub set_both : (a b : List ℕ) (i x : ℕ) → length a ≡ length b → ◌≡◌ {A = ℕ} (get_or (set a i x) i 0) (get_or (set b i x) i 0)
set_both [] [] i x long = refl
set_both [] (q ∷ qs) i x long = absurd (omega (arith, long))
set_both (p ∷ ps) [] i x long = absurd (omega (arith, long))
set_both (p ∷ ps) (q ∷ qs) zero x long = refl
set_both (p ∷ ps) (q ∷ qs) (suc i) x long = set_both ps qs i x (omega (arith, long))

module _ (s : State ℕ PoolView) (h : HeldPosts s) (id : ℕ) (v : PoolView) (at : get_elem? s.views id ≡ some v) where
  -- What the seat at place id, which knew v, makes of the numbers of posts, if it knows u now: it has written x into the
  -- word at this index, and y into that word with the handoff words of the tables.
  pub record Renames (index x y : ℕ) (u : PoolView) (names : ℕ → ℕ → ℕ → ℕ) : Type 0 where
    pub parts : length u.parts ≡ length v.parts
    pub plain : ((m : ℕ) → m < h.held.mutexes → index ≢ own_at m 2) → x ≡ y
    pub handed : (m : ℕ) → m < h.held.mutexes → index ≡ own_at m 2 → x ≡ named (names m) y
    pub others_handed : (m : ℕ) → m < h.held.mutexes → index ≢ own_at m 2 → named (names m) (slice_index h.own (own_at m 2)) ≡ named (h.names m) (slice_index h.own (own_at m 2))
    pub rising : (m t a b : ℕ) → a < b → names m t a < names m t b
    pub first : (m t : ℕ) → names m t 0 ≡ 0
    pub others : (m j a : ℕ) → m < h.held.mutexes → j ≢ id → names m (j + 1) a ≡ h.names m (j + 1) a
    pub stable : (m j : ℕ) (z : PoolView) (seen : Handoff) → m < h.held.mutexes → j ≢ id → get_elem? s.views j ≡ some z
        → loaded_post (part z m).state.point ≡ Some seen → names m seen.seat seen.post ≡ h.names m seen.seat seen.post
    pub counted : (m : ℕ) → m < h.held.mutexes → names m (id + 1) (part u m).state.posts ≤ u.posts
    pub loaded : (m : ℕ) (seen : Handoff) → m < h.held.mutexes → loaded_post (part u m).state.point ≡ Some seen → u.found ≡ names m seen.seat seen.post
    pub posted : (m : ℕ) → m < h.held.mutexes → has_posted (part u m).state.point ≡ true → u.posts ≡ names m (id + 1) (part u m).state.posts
    pub unfound : ((m : ℕ) → m < h.held.mutexes → loaded_post (part u m).state.point ≡ None) → u.found ≡ 0
    pub stamps : (m : ℕ) → m < h.held.mutexes → HasStamps m (set s.words index x) (set s.views id u)
    pub seen : (m : ℕ) → m < h.held.mutexes → HasSeen m (set s.words index x) u
    pub grows : (m : ℕ) → m < h.held.mutexes → stamp_in (slice_index s.words (own_at m 3)) ≤ stamp_in (slice_index (set s.words index x) (own_at m 3))
    pub few : u.posts + 1 < 2 ^ 48

  module _ (index x y : ℕ) (homes : List (mathlib.Core.Option.Option ℕ)) (u : PoolView) (names : ℕ → ℕ → ℕ → ℕ) (kept : Renames index x y u names)
      (held : HeldPool (record { words = set h.own index y; homes = homes; views = set s.views id u })) where
    mutexes_are : held.mutexes ≡ h.held.mutexes
    mutexes_are =
        let now = held.wide id u (set_here s.views id u (length_at s.views id v at)) in
        let then = h.held.wide id v at in
        sym now ∙ kept.parts ∙ then

    inner : (m : ℕ) → m < held.mutexes → m < h.held.mutexes
    inner m less = subst (λ (k : ℕ). m < k) mutexes_are less

    outer : (m : ℕ) → m < h.held.mutexes → m < held.mutexes
    outer m less = subst (λ (k : ℕ). m < k) (sym mutexes_are) less

    same_after : (i : ℕ) → ((m : ℕ) → m < held.mutexes → i ≢ own_at m 2) → slice_index (set s.words index x) i ≡ slice_index (set h.own index y) i
    same_after i off = elim (cases_eq i index) [
      | inl hit ↦
          let equal : x ≡ y = kept.plain (λ m less e. off m (outer m less) (hit ∙ e)) in
          rw (hit, equal) (set_both s.words h.own index y h.long)
      | inr miss ↦
          get_or-set_other s.words index i x 0 miss ∙ h.same i (λ m less. off m (outer m less)) ∙ sym (get_or-set_other h.own index i y 0 miss)
    ]

    handed_after : (m : ℕ) → m < held.mutexes → slice_index (set s.words index x) (own_at m 2) ≡ named (names m) (slice_index (set h.own index y) (own_at m 2))
    handed_after m less = elim (cases_eq (own_at m 2) index) [
      | inl hit ↦
          let less' = inner m less in
          let wide = h.held.long in
          let long = h.long in
          let there : own_at m 2 < length h.own = omega (arith, wide, less') in
          let here : slice_index (set s.words index x) (own_at m 2) ≡ x = ap (λ (i : ℕ). get_or (set s.words i x) (own_at m 2) 0) (sym hit) ∙ get_or-set_same s.words (own_at m 2) x 0 (omega (arith, there, long)) in
          let own : slice_index (set h.own index y) (own_at m 2) ≡ y = ap (λ (i : ℕ). get_or (set h.own i y) (own_at m 2) 0) (sym hit) ∙ get_or-set_same h.own (own_at m 2) y 0 there in
          here ∙ kept.handed m less' (sym hit) ∙ ap (named (names m)) (sym own)
      | inr miss ↦
          let less' = inner m less in
          get_or-set_other s.words index (own_at m 2) x 0 miss ∙ h.handed m less' ∙ sym (kept.others_handed m less' (λ e. miss (sym e)))
          ∙ ap (named (names m)) (sym (get_or-set_other h.own index (own_at m 2) y 0 miss))
    ]

    -- a seat after the step: the one that has made it, or another
    abbrev Of : ℕ → PoolView → Type 0
    Of j z = ((j ≡ id) × (u ≡ z)) ⊎ ((j ≢ id) × (get_elem? s.views j ≡ some z))

    counted_after : (m j : ℕ) (z : PoolView) → m < held.mutexes → get_elem? (set s.views id u) j ≡ some z → names m (j + 1) (part z m).state.posts ≤ z.posts
    counted_after m j z less e = ⊎_elim
        (λ (c : (j ≡ id) × (u ≡ z)).
        subst (λ (y : ℕ × PoolView). names m (y.0 + 1) (part y.1 m).state.posts ≤ y.1.posts) (λ i. (sym c.0 i, c.1 i)) (kept.counted m (inner m less)))
        (λ (c : (j ≢ id) × (get_elem? s.views j ≡ some z)).
        let l = inner m less in
        let e = kept.others m j (part z m).state.posts l c.0 in
        let f = h.counted m j z l c.1 in
        omega (arith, e, f))
        (at_set s.views id j u z e)

    loaded_after : (m j : ℕ) (z : PoolView) (seen : Handoff) → m < held.mutexes → get_elem? (set s.views id u) j ≡ some z → loaded_post (part z m).state.point ≡ Some seen → z.found ≡ names m seen.seat seen.post
    loaded_after m j z seen less e has = ⊎_elim
        (λ (c : (j ≡ id) × (u ≡ z)).
        ap (λ (y : PoolView). y.found) (sym c.1) ∙ kept.loaded m seen (inner m less) (ap (λ (y : PoolView). loaded_post (part y m).state.point) c.1 ∙ has))
        (λ (c : (j ≢ id) × (get_elem? s.views j ≡ some z)).
        let l = inner m less in h.loaded m j z seen l c.1 has ∙ sym (kept.stable m j z seen l c.0 c.1 has))
        (at_set s.views id j u z e)

    posted_after : (m j : ℕ) (z : PoolView) → m < held.mutexes → get_elem? (set s.views id u) j ≡ some z → has_posted (part z m).state.point ≡ true → z.posts ≡ names m (j + 1) (part z m).state.posts
    posted_after m j z less e has = ⊎_elim
        (λ (c : (j ≡ id) × (u ≡ z)).
        subst (λ (y : ℕ × PoolView). y.1.posts ≡ names m (y.0 + 1) (part y.1 m).state.posts) (λ i. (sym c.0 i, c.1 i))
        (kept.posted m (inner m less) (ap (λ (y : PoolView). has_posted (part y m).state.point) c.1 ∙ has)))
        (λ (c : (j ≢ id) × (get_elem? s.views j ≡ some z)).
        let l = inner m less in h.posted m j z l c.1 has ∙ sym (kept.others m j (part z m).state.posts l c.0))
        (at_set s.views id j u z e)

    unfound_after : (j : ℕ) (z : PoolView) → get_elem? (set s.views id u) j ≡ some z → ((m : ℕ) → m < held.mutexes → loaded_post (part z m).state.point ≡ None) → z.found ≡ 0
    unfound_after j z e none = ⊎_elim
        (λ (c : (j ≡ id) × (u ≡ z)).
        ap (λ (y : PoolView). y.found) (sym c.1) ∙ kept.unfound (λ m less. ap (λ (y : PoolView). loaded_post (part y m).state.point) c.1 ∙ none m (outer m less)))
        (λ (c : (j ≢ id) × (get_elem? s.views j ≡ some z)). h.unfound j z c.1 (λ m less. none m (outer m less)))
        (at_set s.views id j u z e)

    seen_after : (m j : ℕ) (z : PoolView) → m < held.mutexes → get_elem? (set s.views id u) j ≡ some z → HasSeen m (set s.words index x) z
    seen_after m j z less e = ⊎_elim
        (λ (c : (j ≡ id) × (u ≡ z)). subst (λ (y : PoolView). HasSeen m (set s.words index x) y) c.1 (kept.seen m (inner m less)))
        (λ (c : (j ≢ id) × (get_elem? s.views j ≡ some z)). let l = inner m less in let before = h.seen m j z l c.1 in let more = kept.grows m l in omega (arith, before, more))
        (at_set s.views id j u z e)

    few_after : (j : ℕ) (z : PoolView) → get_elem? (set s.views id u) j ≡ some z → z.posts + 1 < 2 ^ 48
    few_after j z e = ⊎_elim
        (λ (c : (j ≡ id) × (u ≡ z)). subst (λ (y : PoolView). y.posts + 1 < 2 ^ 48) c.1 kept.few)
        (λ (c : (j ≢ id) × (get_elem? s.views j ≡ some z)). h.few j z c.1)
        (at_set s.views id j u z e)

    pub held_posts : HeldPosts (record { words = set s.words index x; homes = homes; views = set s.views id u })
    held_posts = record {
      own = set h.own index y;
      held = held;
      names = names;
      long = length-set s.words index x ∙ h.long ∙ sym (length-set h.own index y);
      same = same_after;
      handed = handed_after;
      rising = kept.rising;
      first = kept.first;
      counted = counted_after;
      loaded = loaded_after;
      posted = posted_after;
      unfound = unfound_after;
      stamps = λ m less. kept.stamps m (inner m less);
      seen = seen_after;
      few = few_after;
    }

  -- an access to another word than a handoff word, after which the seat knows the same of posts
  pub renames_none : (index x : ℕ) (u : PoolView) → ((m : ℕ) → m < h.held.mutexes → index ≢ own_at m 2) → KeepsPosts v u
      → ((m : ℕ) → m < h.held.mutexes → LeavesStamps m s.words (set s.words index x) (set s.views id u) u) → Renames index x x u h.names
  renames_none index x u off kept left = record {
    parts = kept.parts;
    plain = λ out. refl;
    handed = λ m less e. absurd (off m less e);
    others_handed = λ m less miss. refl;
    rising = h.rising;
    first = h.first;
    others = λ m j a less other. refl;
    stable = λ m j z seen less other e has. refl;
    counted = λ m less. let k = kept.each m in
        subst (λ (y : ℕ × ℕ). h.names m (id + 1) y.0 ≤ y.1) (λ i. (sym k.posts i, sym kept.posts i)) (h.counted m id v less at);
    loaded = λ m seen less has. kept.found ∙ h.loaded m id v seen less at (sym (kept.each m).loaded ∙ has);
    posted = λ m less has. kept.posts ∙ h.posted m id v less at ((kept.each m).posted has) ∙ ap (h.names m (id + 1)) (sym (kept.each m).posts);
    unfound = λ none. kept.found ∙ h.unfound id v at (λ m less. sym (kept.each m).loaded ∙ none m less);
    stamps = λ m less. (left m less).0;
    seen = λ m less. (left m less).1;
    grows = λ m less. (left m less).2;
    few = subst (λ (n : ℕ). n + 1 < 2 ^ 48) (sym kept.posts) (h.few id v at);
  }

-- What the table allows

-- What an access does, in a state in which the word at this index is n: the seat knows w then, and takes or leaves what the
-- act says. `Allows` says it of each state of which the rule holds.
abbrev pub Does : (State ℕ PoolView → Type 0) → ℕ → Me ℕ PoolView → ℕ → (ℕ → ℕ) → (ℕ → Me ℕ PoolView → Type 0) → State ℕ PoolView → ℕ → Type 0
Does R id me index f tells s n = (w : PoolView) × (a : Act ℕ) × Valid s.homes me.1 a × R (stepped s index (f n) id me.1 w a) × tells n (w, carried_after me.1 a)

-- an access to another word than a handoff word, which keeps the rule of the words with the handoff words of the tables
pub does_posts : (id index : ℕ) (me : Me ℕ PoolView) (f : ℕ → ℕ) (tells : ℕ → Me ℕ PoolView → Type 0) (s : State ℕ PoolView) (h : HeldPosts s) (at : get_elem? s.views id ≡ some me.0)
    → ((m : ℕ) → m < h.held.mutexes → index ≢ own_at m 2)
    → ((n : ℕ) (me' : Me ℕ PoolView) → tells n me' → KeepsPosts me.0 me'.0)
    → (d : Does HeldPool id me index f tells (record { words = h.own; homes = s.homes; views = s.views }) (slice_index h.own index))
    → ((m : ℕ) → m < h.held.mutexes → LeavesStamps m s.words (set s.words index (f (slice_index h.own index))) (set s.views id d.0) d.0)
    → Does HeldPosts id me index f tells s (slice_index s.words index)
does_posts id index me f tells s h at off keeps d stamps =
    let same : slice_index s.words index ≡ slice_index h.own index = h.same index off in
    let kept = keeps (slice_index h.own index) (d.0, carried_after me.1 d.1) d.4 in
    let renamed = renames_none s h id me.0 at index (f (slice_index h.own index)) d.0 off kept stamps in (
      d.0,
      d.1,
      d.2,
      subst (λ (n : ℕ). HeldPosts (record { words = set s.words index (f n); homes = homes_after s.homes me.1 d.1; views = set s.views id d.0 })) (sym same)
          (held_posts s h id me.0 at index (f (slice_index h.own index)) (f (slice_index h.own index)) (homes_after s.homes me.1 d.1) d.0 h.names renamed d.3),
      subst (λ (n : ℕ). tells n (d.0, carried_after me.1 d.1)) (sym same) d.4,
    )

-- the same of an access that leaves a stamp for each seat that may push
pub allows_posts : (slots id index : ℕ) (me : Me ℕ PoolView) (f : ℕ → ℕ) (tells : ℕ → Me ℕ PoolView → Type 0)
    → Allows HeldPool slots id me index f tells
    → ((s : State ℕ PoolView) (h : HeldPool s) → get_elem? s.views id ≡ some me.0 → (m : ℕ) → m < h.mutexes → index ≢ own_at m 2)
    → ((n : ℕ) (me' : Me ℕ PoolView) → tells n me' → KeepsPosts me.0 me'.0)
    → ((s : State ℕ PoolView) (h : HeldPosts s) → get_elem? s.views id ≡ some me.0 → (me' : Me ℕ PoolView) → tells (slice_index h.own index) me' → (m : ℕ) → m < h.held.mutexes
    → LeavesStamps m s.words (set s.words index (f (slice_index h.own index))) (set s.views id me'.0) me'.0)
    → Allows HeldPosts slots id me index f tells
allows_posts slots id index me f tells allowed off keeps stamps s h none at small =
    let same : slice_index s.words index ≡ slice_index h.own index = h.same index (off (record { words = h.own; homes = s.homes; views = s.views }) h.held at) in
    let d = allowed (record { words = h.own; homes = s.homes; views = s.views }) h.held none at (subst (λ (n : ℕ). n < 18446744073709551616) same small) in
    does_posts id index me f tells s h at (off (record { words = h.own; homes = s.homes; views = s.views }) h.held at) keeps d (stamps s h at (d.0, carried_after me.1 d.1) d.4)
