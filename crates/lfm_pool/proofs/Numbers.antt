-- In a pool, the stamps and the numbers of posts of each mutex fit their words.
use Rattle.std.proofs.Common.{◌≡◌, ◌≢◌, ℕ, zero, suc, ◌+◌, ◌^◌, ◌<◌, ◌≤◌, List, [], ◌∷◌, length, set, refl, sym, ap, ◌∙◌, inl, inr, arith}
use Rattle.std.specs.Prelude.{slice_index}
use Rattle.std.proofs.lemmas.Bool.{cases_eq, cases_lt}
use Rattle.std.proofs.lemmas.List.{get_or-set_other}
use mathlib.Core.Option.{some}
use lib.ListN.{get_elem?}
use Rattle.atomic_table.specs.Table.{State}
use Rattle.lfm_words.specs.declared.links.Link.{Link}
use Rattle.lfm_protocol.specs.declared.seats.SeatState.{SeatState}
use Rattle.lfm_protocol.specs.Seats.{seat}
use Rattle.lfm_laws.specs.steady.Steady.{NumbersFit}
use Rattle.lfm_laws.proofs.steady.frames.Entries.{seat_zero}
use Rattle.lfm_laws.proofs.table.Exact.{push_narrow}
use Rattle.lfm_laws.proofs.table.Packing.{link_packed}
use Rattle.lfm_pool.specs.declared.view.PoolView.{PoolView}
use Rattle.lfm_pool.specs.Admissions.{HasSeen, HasStamps, stamp_in}
use Rattle.lfm_pool.specs.Posts.{HeldPosts}
use Rattle.lfm_pool.specs.Rule.{own_at}
use Rattle.lfm_pool.specs.Tables.{IsKept, MutexTable, part}
use Rattle.lfm_pool.proofs.PostsKept.{LeavesStamps, set_both}
use Rattle.lfm_pool.proofs.Stamps.{names_rise}

some_at : {A : Type 0} (l : List A) (i : ℕ) → i < length l → (x : A) × (get_elem? l i ≡ some x)
some_at [] i less = absurd (omega (arith, less))
some_at (x ∷ xs) zero less = (x, refl)
some_at (x ∷ xs) (suc i) less = some_at xs i (omega (arith, less))

-- the push word of a table has the stamp of its core
pub stamp_of_table : (q : MutexTable) (k : IsKept q) → stamp_in (slice_index q.words 3) ≡ k.core.push.stamp
stamp_of_table q k =
    ap (λ (ws : List ℕ). stamp_in (slice_index ws 3)) k.words_are ∙ ap (λ (l : Link). l.stamp) (link_packed k.core.push (push_narrow k.core k.ghost_state k.fits))

-- a word that is no handoff word is that of the rule with the handoff words of the tables
pub not_handoff : (m i : ℕ) → own_at m 3 ≢ own_at i 2
not_handoff m i e = omega (arith, e)

-- the push words are those of the words with the handoff words of the tables, also after the same was written into both

push_written : (s : State ℕ PoolView) (h : HeldPosts s) (index x i : ℕ) → slice_index (set s.words index x) (own_at i 3) ≡ slice_index (set h.own index x) (own_at i 3)
push_written s h index x i = elim (cases_eq (own_at i 3) index) [
  | inl hit ↦ rw hit (set_both s.words h.own index x h.long)
  | inr miss ↦
      get_or-set_other s.words index (own_at i 3) x 0 miss ∙ h.same (own_at i 3) (λ n less e. not_handoff i n e) ∙ sym (get_or-set_other h.own index (own_at i 3) x 0 miss)
]

pub same_stamps : (s : State ℕ PoolView) (h : HeldPosts s) (index x : ℕ) (views : List PoolView) (u : PoolView) (i : ℕ) → LeavesStamps i h.own (set h.own index x) views u → LeavesStamps i s.words (set s.words index x) views u
same_stamps s h index x views u i left =
    let after = ap stamp_in (push_written s h index x i) in
    let before = ap stamp_in (h.same (own_at i 3) (λ n less e. not_handoff i n e)) in
    let has = left.0 in let known_one = left.1 in let grows = left.2 in
    (omega (arith, after, has), omega (arith, after, known_one), omega (arith, after, before, grows))

pub same_stamps_own : (s : State ℕ PoolView) (h : HeldPosts s) (views : List PoolView) (v : PoolView) (i : ℕ) → HasStamps i s.words views × HasSeen i s.words v → HasStamps i h.own views × HasSeen i h.own v
same_stamps_own s h views v i both =
    let word = ap stamp_in (h.same (own_at i 3) (λ n less e. not_handoff i n e)) in
    let has = both.0 in let known_one = both.1 in
    (omega (arith, word, has), omega (arith, word, known_one))

module _ (s : State ℕ PoolView) (h : HeldPosts s) (m : ℕ) (less : m < h.held.mutexes) where
  pub push_word : slice_index s.words (own_at m 3) ≡ slice_index (h.held.tables m).words 3
  push_word = h.same (own_at m 3) (λ i within e. not_handoff m i e) ∙ h.held.own m 3 less (omega arith)

  pub stamp_of : stamp_in (slice_index s.words (own_at m 3)) ≡ (h.held.kept m less).core.push.stamp
  stamp_of = ap stamp_in push_word ∙ stamp_of_table (h.held.tables m) (h.held.kept m less)

  -- a seat has made no more posts in this mutex than in all
  pub own_posts : (j : ℕ) (v : PoolView) → get_elem? s.views j ≡ some v → (part v m).state.posts ≤ v.posts
  own_posts j v at =
      let low = names_rise (h.names m (j + 1)) (h.rising m (j + 1)) (part v m).state.posts in
      let counted = h.counted m j v less at in
      omega (arith, low, counted)

  -- a table that the mutex has: its seats know what those of the pool know, and its push word is that of the mutex
  module _ (q : MutexTable) (k : IsKept q) (counted : length q.views ≡ length s.views) (views : (j : ℕ) (v : PoolView) → get_elem? s.views j ≡ some v → get_elem? q.views j ≡ some (part v m))
      (push : slice_index s.words (own_at m 3) ≡ slice_index q.words 3) where
    seat_posts : (t : ℕ) → (seat k.core.seats t).posts + 1 < 2 ^ 48
    seat_posts zero = rw (seat_zero k.core.seats) (omega arith)
    seat_posts (suc j) = elim (cases_lt j (length s.views)) [
      | inl inside ↦
          let one = some_at s.views j inside in
          let v = one.0 in
          let at = one.1 in
          let state = (k.each j (part v m) (views j v at)).state in
          let same : (seat k.core.seats (suc j)).posts ≡ (part v m).state.posts = ap (λ (n : ℕ). (seat k.core.seats n).posts) (let e : suc j ≡ j + 1 = omega arith in e) ∙ ap (λ (x : SeatState). x.posts) state in
          let own = own_posts j v at in
          let few = h.few j v at in
          omega (arith, same, own, few)
      | inr past ↦
          let state = k.later j (omega (arith, past, counted)) in
          let same : (seat k.core.seats (suc j)).posts ≡ 0 = ap (λ (n : ℕ). (seat k.core.seats n).posts) (let e : suc j ≡ j + 1 = omega arith in e) ∙ ap (λ (x : SeatState). x.posts) state in
          omega (arith, same)
    ]

    pub numbers_at : NumbersFit k.core
    numbers_at = record {
      stamp = let room = h.stamps m less in let is = ap stamp_in push ∙ stamp_of_table q k in omega (arith, room, is);
      posts = seat_posts;
    }

  pub numbers_of : NumbersFit (h.held.kept m less).core
  numbers_of = numbers_at (h.held.tables m) (h.held.kept m less) (h.held.counted m less) (λ j v at. h.held.parts m j v less at) push_word
