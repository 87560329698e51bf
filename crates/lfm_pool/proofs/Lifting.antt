-- A step at the table of one mutex is a step of the pool: if the table keeps its rule, the pool keeps its own.
use Rattle.std.proofs.Common.{◌≡◌, ◌≢◌, ◌⊎◌, ℕ, ◌+◌, ◌*◌, ◌<◌, ◌≤◌, List, length, set, refl, sym, ap, ◌∙◌, subst, ⊎_elim, inl, inr, arith, length-set}
use Rattle.std.specs.Prelude.{⊤, ◌-◌, Bool, true, false, drop, slice_index}
use Rattle.std.proofs.lemmas.Bool.{cases_eq, false≢true}
use Rattle.std.proofs.lemmas.List.{get_or-set_other, get_or-set_same}
use mathlib.Core.Option.{some, some-injective}
use lib.ListN.{get_elem?}
use Rattle.atomic_table.specs.Table.{State, Act, stepped}
use Rattle.atomic_table.proofs.Lists.{at_set, set_here, set_else}
use Rattle.lfm_words.specs.declared.pop_lists.Record.{Record}
use Rattle.lfm_laws.specs.steady.Numbered.{changed}
use Rattle.lfm_laws.specs.table.Carried.{carries_value}
use Rattle.lfm_table.specs.declared.seat_view.View.{View}
use Rattle.lfm_table.proofs.tables.RuleKept.{length_at}
use Rattle.lfm_pool.specs.declared.view.Note.{Note}
use Rattle.lfm_pool.specs.declared.view.PoolView.{PoolView}
use Rattle.lfm_pool.specs.Chain.{HasRecord, IsChain, first_seat}
use Rattle.lfm_pool.specs.Tables.{Slot, MutexTable, IsKept, IsUncollected, note, part, with_part, rests, has_link}
use Rattle.lfm_pool.specs.Rule.{own_at, link_at, wake_at, HeldPool, NobodyCarries}
use Rattle.lfm_pool.specs.Steps.{RestsElsewhere, IsWordAt}
use Rattle.lfm_pool.proofs.Chains.{chain_on, has_dropped}
use Rattle.lfm_pool.proofs.Links.{linked_busy}
use Rattle.lfm_pool.proofs.LoneTables.{changed_same, changed_other, note_same, note_other, part_same, part_other, quiet_wake, seats_of}
use Rattle.lfm_pool.proofs.PoppedViews.{popped_view}
use Rattle.lfm_pool.proofs.WordIndexes.{IsOfSeat, index_inside, word_inside, own_same, own_there, link_same, link_there, wake_same, wake_there, not_carried}

-- the seat at place j does not rest in mutex m, or is the one at place id
abbrev pub IsBusyIn : State ℕ PoolView → ℕ → ℕ → ℕ → Type 0
IsBusyIn s id m j = (j ≡ id) ⊎ ((z : PoolView) × (get_elem? s.views j ≡ some z) × (rests (part z m) ≡ false))

-- What a step of the seat at place id, whose view was v, makes of the chain of mutex m: it writes x into the word at this
-- index, and the table of the mutex is q after it. The seat's view of the mutex is w then, with this note; the popped
-- records are these, and `due` of them are not in the chain.
pub record Chained (s : State ℕ PoolView) (h : HeldPool s) (id m : ℕ) (v : PoolView) (index x : ℕ) (q : MutexTable) (w : View ⊤) (n : Note) (popped : List Record) (due : ℕ) : Type 0 where
  pub calm : (j : ℕ) → link_at h.mutexes j ≡ index → (x ≡ slice_index s.words index) ⊎ ((j ≡ id) × (HasRecord (id + 1) (h.popped m) → ⊥))
  pub shorter : (ws : List ℕ) → IsChain h.mutexes ws (drop (h.dues m) (h.popped m)) → IsChain h.mutexes ws (drop due popped)
  pub own : IsUncollected q h.seats popped id w → (link_at h.mutexes id ≡ index) ⊎ IsUncollected (h.tables m) h.seats (h.popped m) id (part v m)
  pub others : (j : ℕ) (z : PoolView) → j ≢ id → get_elem? s.views j ≡ some z → IsUncollected q h.seats popped j (part z m) → IsUncollected (h.tables m) h.seats (h.popped m) j (part z m)
  pub noted : carries_value w.state ≡ true → n ≡ record { due = due; carried = slice_index s.words (own_at m 4) }
  pub same : (j : ℕ) (z : PoolView) → j ≢ id → get_elem? s.views j ≡ some z → carries_value (part z m).state ≡ true → due ≡ h.dues m
  pub idle : carries_value w.state ≡ false → ((j : ℕ) (z : PoolView) → j ≢ id → get_elem? s.views j ≡ some z → carries_value (part z m).state ≡ false)
      → (due ≡ 0) × (slice_index s.words (own_at m 4) ≡ first_seat popped)

-- The pool in state s, in which the seat at place id has the view v, and rests in every mutex but m
module _ (id m : ℕ) (v : PoolView) (here : m < length v.parts) (elsewhere : RestsElsewhere v m) (s : State ℕ PoolView) (h : HeldPool s) (at : get_elem? s.views id ≡ some v) where
  pub within : m < h.mutexes
  within = let w = h.wide id v at in omega (arith, w, here)

  pub mine : get_elem? (h.tables m).views id ≡ some (part v m)
  mine = h.parts m id v within at

  -- a table has no more views than the pool has seats
  few : (j : ℕ) (z : PoolView) → get_elem? s.views j ≡ some z → j < h.seats
  few j z e =
      let p = h.parts m j z within e in
      let l = length_at (h.tables m).views j (part z m) p in
      let w = seats_of (h.tables m) (h.kept m within) in
      let sized = h.sized m within in
      omega (arith, l, w, sized, (h.kept m within).few)

  -- its wake word is that of mutex m
  pub own_wake : slice_index s.words (wake_at h.mutexes id) ≡ slice_index (h.tables m).words (4 + h.seats + id)
  own_wake = by_rest (rests (part v m)) refl where
    by_rest : (b : Bool) → rests (part v m) ≡ b → slice_index s.words (wake_at h.mutexes id) ≡ slice_index (h.tables m).words (4 + h.seats + id)
    by_rest false busy = h.wakes m id v within at busy
    by_rest true rest =
        h.quiet id v at (λ i less. elim (cases_eq i m) [
          | inl is ↦ rw is rest
          | inr other ↦ elsewhere i (let w = h.wide id v at in omega (arith, w, less)) other
        ])
        ∙ sym (quiet_wake (h.tables m) (h.kept m within) h.seats id (part v m) (h.sized m within) mine rest)

  -- The step writes x into the word at this index of the pool, and into the same word at the table of m. The seat's view of
  -- m is w after it, with the note n.
  module _ (index word x : ℕ) (slots : List (ℕ × Slot)) (w : View ⊤) (n : Note) (a : Act Slot) (popped : List Record) (due : ℕ)
      (kept : IsKept (stepped (h.tables m) word x id slots w a)) (popped_is : kept.core.popped ≡ popped) (is : IsWordAt h.mutexes h.seats m index word)
      (target : (j : ℕ) → IsOfSeat h.mutexes index j → IsBusyIn s id m j) (chained : Chained s h id m v index x (stepped (h.tables m) word x id slots w a) w n popped due) where
    abbrev q : MutexTable
    q = stepped (h.tables m) word x id slots w a

    abbrev u : PoolView
    u = with_part v m w n

    abbrev after : ℕ → MutexTable
    after = changed h.tables m (stepped (h.tables m) word x id slots w a)

    after_here : after m ≡ q
    after_here = changed_same h.tables m q

    after_other : (i : ℕ) → i ≢ m → after i ≡ h.tables i
    after_other i other = changed_other h.tables m i q other

    abbrev popped_after : ℕ → List Record
    popped_after = changed h.popped m popped

    abbrev dues_after : ℕ → ℕ
    dues_after = changed h.dues m due

    abbrev t : State ℕ PoolView
    t = record { words = set s.words index x; homes = s.homes; views = set s.views id (with_part v m w n) }

    -- Sizes, and the rules of the tables

    sized_after : (i : ℕ) → i < h.mutexes → length (after i).words ≡ 4 + 2 * h.seats
    sized_after i less = elim (cases_eq i m) [
      | inl e ↦ rw (e, after_here) (length-set (h.tables m).words word x ∙ h.sized m within)
      | inr other ↦ rw (after_other i other) (h.sized i less)
    ]

    -- the rule of a table, and its popped records
    abbrev KeptWith : MutexTable × List Record → Type 0
    KeptWith y = (k : IsKept y.0) × (k.core.popped ≡ y.1)

    kept_with : (i : ℕ) → i < h.mutexes → KeptWith (after i, popped_after i)
    kept_with i less = elim (cases_eq i m) [
      | inl e ↦ subst KeptWith (λ d. (sym (ap after e ∙ after_here) d, sym (ap popped_after e ∙ changed_same h.popped m popped) d)) (kept, popped_is)
      | inr other ↦ subst KeptWith (λ d. (sym (after_other i other) d, sym (changed_other h.popped m i popped other) d)) (h.kept i less, h.listed i less)
    ]

    kept_after : (i : ℕ) → i < h.mutexes → IsKept (after i)
    kept_after i less = (kept_with i less).0

    counted_after : (i : ℕ) → i < h.mutexes → length (after i).views ≡ length t.views
    counted_after i less = elim (cases_eq i m) [
      | inl e ↦ rw (e, after_here) (length-set (h.tables m).views id w ∙ h.counted m within ∙ sym (length-set s.views id u))
      | inr other ↦ rw (after_other i other) (h.counted i less ∙ sym (length-set s.views id u))
    ]

    -- Views

    wide_after : (j : ℕ) (z : PoolView) → get_elem? t.views j ≡ some z → length z.parts ≡ h.mutexes
    wide_after j z e = ⊎_elim
        (λ (c : (j ≡ id) × (u ≡ z)). ap (λ (y : PoolView). length y.parts) (sym c.1) ∙ length-set v.parts m _ ∙ h.wide id v at)
        (λ (c : (j ≢ id) × (get_elem? s.views j ≡ some z)). h.wide j z c.1)
        (at_set s.views id j u z e)

    parts_after : (i j : ℕ) (z : PoolView) → i < h.mutexes → get_elem? t.views j ≡ some z → get_elem? (after i).views j ≡ some (part z i)
    parts_after i j z less e = ⊎_elim
        (λ (c : (j ≡ id) × (u ≡ z)). elim (cases_eq i m) [
          | inl same ↦
              rw (same, after_here, c.0, sym c.1, part_same v m w n here) (set_here (h.tables m).views id w (length_at (h.tables m).views id (part v m) mine))
          | inr other ↦
              rw (after_other i other, c.0, sym c.1, part_other v m i w n other) (h.parts i id v less at)
        ])
        (λ (c : (j ≢ id) × (get_elem? s.views j ≡ some z)). elim (cases_eq i m) [
          | inl same ↦ rw (same, after_here) (set_else (h.tables m).views id j w c.0 ∙ h.parts m j z within c.1)
          | inr other ↦ rw (after_other i other) (h.parts i j z less c.1)
        ])
        (at_set s.views id j u z e)

    -- the stepping seat rests in all other mutexes
    away : (i : ℕ) → i < h.mutexes → i ≢ m → rests (part u i) ≡ true
    away i less other = rw (part_other v m i w n other) (elsewhere i (let l = h.wide id v at in omega (arith, l, less)) other)

    elsewhere_after : (i l j : ℕ) (z : PoolView) → i < h.mutexes → l < h.mutexes → i ≢ l → get_elem? t.views j ≡ some z → rests (part z i) ≡ false → rests (part z l) ≡ true
    elsewhere_after i l j z less less' differ e busy = ⊎_elim
        (λ (c : (j ≡ id) × (u ≡ z)). elim (cases_eq l m) [
          | inl same ↦ absurd (false≢true (sym busy ∙ ap (λ (y : PoolView). rests (part y i)) (sym c.1) ∙ away i less (λ e'. differ (e' ∙ sym same))))
          | inr other ↦ ap (λ (y : PoolView). rests (part y l)) (sym c.1) ∙ away l less' other
        ])
        (λ (c : (j ≢ id) × (get_elem? s.views j ≡ some z)). h.elsewhere i l j z less less' differ c.1 busy)
        (at_set s.views id j u z e)

    few_after : (j : ℕ) (z : PoolView) → get_elem? t.views j ≡ some z → j < h.seats
    few_after j z e = ⊎_elim
        (λ (c : (j ≡ id) × (u ≡ z)). rw c.0 (few id v at))
        (λ (c : (j ≢ id) × (get_elem? s.views j ≡ some z)). few j z c.1)
        (at_set s.views id j u z e)

    -- the seat whose word this is rests in all other mutexes
    alone : (i j : ℕ) (z : PoolView) → i < h.mutexes → i ≢ m → IsOfSeat h.mutexes index j → get_elem? t.views j ≡ some z → rests (part z i) ≡ true
    alone i j z less other hit e = ⊎_elim
        (λ (c : (j ≡ id) × (u ≡ z)). ap (λ (y : PoolView). rests (part y i)) (sym c.1) ∙ away i less other)
        (λ (c : (j ≢ id) × (get_elem? s.views j ≡ some z)). elim (target j hit) [
          | inl same ↦ absurd (c.0 same)
          | inr busy ↦
              let one : busy.0 ≡ z = some-injective busy.0 z (sym busy.1 ∙ c.1) in
              h.elsewhere m i j z within less (λ e'. other (sym e')) c.1 (ap (λ (y : PoolView). rests (part y m)) (sym one) ∙ busy.2)
        ])
        (at_set s.views id j u z e)

    there : (j : ℕ) → IsOfSeat h.mutexes index j → j < length s.views
    there j hit = elim (target j hit) [
      | inl same ↦ rw same (length_at s.views id v at)
      | inr busy ↦ length_at s.views j busy.0 busy.1
    ]

    -- Words

    both : slice_index t.words index ≡ slice_index (after m).words word
    both = rw after_here
        (get_or-set_same s.words index x 0 (rw h.long (index_inside h.mutexes h.seats m index word within is))
        ∙ sym (get_or-set_same (h.tables m).words word x 0 (rw (h.sized m within) (word_inside h.mutexes h.seats m index word within is))))

    -- a word of the pool that agreed with one of a table does so after the step, unless only one of them was written
    agree : (i y z : ℕ) → slice_index s.words y ≡ slice_index (h.tables i).words z → (y ≡ index → (i ≡ m) × (z ≡ word)) → (i ≡ m → z ≡ word → y ≡ index)
        → slice_index t.words y ≡ slice_index (after i).words z
    agree i y z old hit back = elim (cases_eq y index) [
      | inl e ↦ let d = hit e in rw (e, d.0, d.1) both
      | inr other ↦ get_or-set_other s.words index y x 0 other ∙ old ∙ elim (cases_eq i m) [
        | inl e ↦ rw (e, after_here) (sym (get_or-set_other (h.tables m).words word z x 0 (λ same. other (back e same))))
        | inr away ↦ rw (after_other i away) refl
      ]
    ]

    own_after : (i k : ℕ) → i < h.mutexes → k < 4 → slice_index t.words (own_at i k) ≡ slice_index (after i).words k
    own_after i k less small =
        agree i (own_at i k) k (h.own i k less small) (own_same h.mutexes h.seats m index word within is i k less small)
        (λ e same. rw e (own_there h.mutexes h.seats m index word within is k small same))

    -- a link word or a wake word that agreed with mutex i, and is not the word that was written
    link_on : (i j : ℕ) → j < h.seats → link_at h.mutexes j ≢ index → slice_index s.words (link_at h.mutexes j) ≡ slice_index (h.tables i).words (4 + j)
        → slice_index t.words (link_at h.mutexes j) ≡ slice_index (after i).words (4 + j)
    link_on i j less miss old = agree i (link_at h.mutexes j) (4 + j) old (λ e. absurd (miss e)) (λ e same. link_there h.mutexes h.seats m index word within is j less same)

    wake_on : (i j : ℕ) → wake_at h.mutexes j ≢ index → slice_index s.words (wake_at h.mutexes j) ≡ slice_index (h.tables i).words (4 + h.seats + j)
        → slice_index t.words (wake_at h.mutexes j) ≡ slice_index (after i).words (4 + h.seats + j)
    wake_on i j miss old = agree i (wake_at h.mutexes j) (4 + h.seats + j) old (λ e. absurd (miss e)) (λ e same. wake_there h.mutexes h.seats m index word within is j same)

    -- one that was written agrees with mutex m
    link_here : (j : ℕ) → link_at h.mutexes j ≡ index → slice_index t.words (link_at h.mutexes j) ≡ slice_index (after m).words (4 + j)
    link_here j e = rw (e, link_same h.mutexes h.seats m index word within is j e) both

    wake_here : (j : ℕ) → wake_at h.mutexes j ≡ index → slice_index t.words (wake_at h.mutexes j) ≡ slice_index (after m).words (4 + h.seats + j)
    wake_here j e = rw (e, wake_same h.mutexes h.seats m index word within is j e) both

    -- at the other mutexes nothing has changed
    still : (i j : ℕ) (z : PoolView) → i ≢ m → IsUncollected (after i) h.seats (popped_after i) j (part z i) → IsUncollected (h.tables i) h.seats (h.popped i) j (part z i)
    still i j z other has =
        subst (λ (y : MutexTable × List Record). IsUncollected y.0 h.seats y.1 j (part z i)) (λ e. (after_other i other e, changed_other h.popped m i popped other e)) has

    here_now : (i j : ℕ) (z : PoolView) → i ≡ m → IsUncollected (after i) h.seats (popped_after i) j (part z i) → IsUncollected q h.seats popped j (part z m)
    here_now i j z same has =
        subst (λ (y : MutexTable × List Record). IsUncollected y.0 h.seats y.1 j (part z m)) (λ e. (after_here e, changed_same h.popped m popped e))
        (subst (λ (k : ℕ). IsUncollected (after k) h.seats (popped_after k) j (part z k)) same has)

    linked_after : (i j : ℕ) (z : PoolView) → i < h.mutexes → get_elem? t.views j ≡ some z → IsUncollected (after i) h.seats (popped_after i) j (part z i) → slice_index t.words (link_at h.mutexes j) ≡ slice_index (after i).words (4 + j)
    linked_after i j z less e has =
        let busy = linked_busy (part z i).state.point has.linked in
        elim (cases_eq (link_at h.mutexes j) index) [
          | inl hit ↦ elim (cases_eq i m) [
            | inl same ↦ rw same (link_here j hit)
            | inr other ↦ absurd (false≢true (sym busy ∙ alone i j z less other (inl hit) e))
          ]
          | inr miss ↦ link_on i j (few_after j z e) miss (⊎_elim
              (λ (c : (j ≡ id) × (u ≡ z)). elim (cases_eq i m) [
                | inl same ↦
                    let now : IsUncollected q h.seats popped id w =
                    subst (λ (y : ℕ × View ⊤). IsUncollected q h.seats popped y.0 y.1) (λ d. (c.0 d, (ap (λ (y : PoolView). part y m) (sym c.1) ∙ part_same v m w n here) d)) (here_now i j z same has) in
                    elim (chained.own now) [
                      | inl hit ↦ absurd (miss (ap (link_at h.mutexes) c.0 ∙ hit))
                      | inr before ↦ rw (c.0, same) (h.linked m id v within at before)
                    ]
                | inr other ↦ absurd (false≢true (sym busy ∙ ap (λ (y : PoolView). rests (part y i)) (sym c.1) ∙ away i less other))
              ])
              (λ (c : (j ≢ id) × (get_elem? s.views j ≡ some z)). elim (cases_eq i m) [
                | inl same ↦ rw same (h.linked m j z within c.1 (chained.others j z c.0 c.1 (here_now i j z same has)))
                | inr other ↦ h.linked i j z less c.1 (still i j z other has)
              ])
              (at_set s.views id j u z e))
        ]

    -- Chains

    -- the link word of a popped record's seat has not changed
    calm : (i : ℕ) → i < h.mutexes → (r : ℕ) → HasRecord r (h.popped i) → slice_index t.words (link_at h.mutexes (r - 1)) ≡ slice_index s.words (link_at h.mutexes (r - 1))
    calm i less r has = elim (cases_eq (link_at h.mutexes (r - 1)) index) [
      | inr miss ↦ get_or-set_other s.words index (link_at h.mutexes (r - 1)) x 0 miss
      | inl hit ↦ elim (chained.calm (r - 1) hit) [
        | inl same ↦ rw hit (get_or-set_same s.words index x 0 (rw h.long (index_inside h.mutexes h.seats m index word within is)) ∙ same)
        | inr own ↦
            let z = popped_view s h i less r has in
            let place : z.0 ≡ id = omega (arith, z.1, own.0) in
            let one : z.2.0 ≡ v = some-injective z.2.0 v (sym z.2.1 ∙ ap (λ (k : ℕ). get_elem? s.views k) place ∙ at) in
            let linked : has_link (part v i) ≡ true = ap (λ (y : PoolView). has_link (part y i)) (sym one) ∙ z.2.2 in
            elim (cases_eq i m) [
              | inl same ↦ absurd (own.1 (subst (λ (y : ℕ × ℕ). HasRecord y.0 (h.popped y.1)) (λ d. ((z.1 ∙ ap (λ (k : ℕ). k + 1) place) d, same d)) has))
              | inr other ↦
                  absurd (false≢true (sym (linked_busy (part v i).state.point linked) ∙ elsewhere i (let l = h.wide id v at in omega (arith, l, less)) other))
            ]
      ]
    ]

    old_chain : (i : ℕ) → i < h.mutexes → IsChain h.mutexes t.words (drop (h.dues i) (h.popped i))
    old_chain i less = chain_on h.mutexes s.words t.words (drop (h.dues i) (h.popped i)) (λ r has. calm i less r (has_dropped r (h.dues i) (h.popped i) has)) (h.chain i less)

    chain_after : (i : ℕ) → i < h.mutexes → IsChain h.mutexes t.words (drop (dues_after i) (popped_after i))
    chain_after i less = elim (cases_eq i m) [
      | inl e ↦ rw (e, changed_same h.dues m due, changed_same h.popped m popped) (chained.shorter t.words (old_chain m within))
      | inr other ↦ rw (changed_other h.dues m i due other, changed_other h.popped m i popped other) (old_chain i less)
    ]

    listed_after : (i : ℕ) (less : i < h.mutexes) → (kept_after i less).core.popped ≡ popped_after i
    unfolding kept_after
    listed_after i less = (kept_with i less).1

    carried_on : (i : ℕ) → i < h.mutexes → slice_index t.words (own_at i 4) ≡ slice_index s.words (own_at i 4)
    carried_on i less = get_or-set_other s.words index (own_at i 4) x 0 (not_carried h.mutexes h.seats m index word within is i less)

    noted_after : (i j : ℕ) (z : PoolView) → i < h.mutexes → get_elem? t.views j ≡ some z → carries_value (part z i).state ≡ true → note z i ≡ record { due = dues_after i; carried = slice_index t.words (own_at i 4) }
    noted_after i j z less e carries = elim (cases_eq i m) [
      | inl same ↦
          let at_m : carries_value (part z m).state ≡ true = ap (λ (k : ℕ). carries_value (part z k).state) (sym same) ∙ carries in
          rw (same, carried_on m within, changed_same h.dues m due) (⊎_elim
          (λ (c : (j ≡ id) × (u ≡ z)).
          ap (λ (y : PoolView). note y m) (sym c.1) ∙ note_same v m w n here
          ∙ chained.noted (ap (λ (y : View ⊤). carries_value y.state) (sym (ap (λ (y : PoolView). part y m) (sym c.1) ∙ part_same v m w n here)) ∙ at_m))
          (λ (c : (j ≢ id) × (get_elem? s.views j ≡ some z)). rw (chained.same j z c.0 c.1 at_m) (h.noted m j z within c.1 at_m))
          (at_set s.views id j u z e))
      | inr other ↦ rw (carried_on i less, changed_other h.dues m i due other) (⊎_elim
          (λ (c : (j ≡ id) × (u ≡ z)).
          ap (λ (y : PoolView). note y i) (sym c.1) ∙ note_other v m i w n other
          ∙ h.noted i id v less at (ap (λ (y : View ⊤). carries_value y.state) (sym (ap (λ (y : PoolView). part y i) (sym c.1) ∙ part_other v m i w n other)) ∙ carries))
          (λ (c : (j ≢ id) × (get_elem? s.views j ≡ some z)). h.noted i j z less c.1 carries)
          (at_set s.views id j u z e))
    ]

    -- the views after the step
    own_now : get_elem? t.views id ≡ some u
    own_now = set_here s.views id u (length_at s.views id v at)

    other_now : (j : ℕ) (z : PoolView) → j ≢ id → get_elem? s.views j ≡ some z → get_elem? t.views j ≡ some z
    other_now j z other e = set_else s.views id j u other ∙ e

    -- nobody has carried a mutex before the step that nobody carries after it, if it is another mutex
    idle_before : (i : ℕ) → i < h.mutexes → i ≢ m → NobodyCarries i t.views → NobodyCarries i s.views
    idle_before i less other none j z e = elim (cases_eq j id) [
      | inl same ↦
          let one : z ≡ v = some-injective z v (sym e ∙ ap (λ (k : ℕ). get_elem? s.views k) same ∙ at) in
          ap (λ (y : PoolView). carries_value (part y i).state) one ∙ ap (λ (y : View ⊤). carries_value y.state) (sym (part_other v m i w n other)) ∙ none id u own_now
      | inr apart ↦ none j z (other_now j z apart e)
    ]

    idle_after : (i : ℕ) → i < h.mutexes → NobodyCarries i t.views → (dues_after i ≡ 0) × (slice_index t.words (own_at i 4) ≡ first_seat (popped_after i))
    idle_after i less none = elim (cases_eq i m) [
      | inl e ↦
          let none_at : NobodyCarries m t.views = subst (λ (k : ℕ). NobodyCarries k t.views) e none in
          rw (e, carried_on m within, changed_same h.dues m due, changed_same h.popped m popped)
          (chained.idle (ap (λ (y : View ⊤). carries_value y.state) (sym (part_same v m w n here)) ∙ none_at id u own_now) (λ j z apart there. none_at j z (other_now j z apart there)))
      | inr other ↦
          rw (carried_on i less, changed_other h.dues m i due other, changed_other h.popped m i popped other) (h.idle i less (idle_before i less other none))
    ]

    wakes_after : (i j : ℕ) (z : PoolView) → i < h.mutexes → get_elem? t.views j ≡ some z → rests (part z i) ≡ false → slice_index t.words (wake_at h.mutexes j) ≡ slice_index (after i).words (4 + h.seats + j)
    wakes_after i j z less e busy = elim (cases_eq (wake_at h.mutexes j) index) [
      | inl hit ↦ elim (cases_eq i m) [
        | inl same ↦ rw same (wake_here j hit)
        | inr other ↦ absurd (false≢true (sym busy ∙ alone i j z less other (inr hit) e))
      ]
      | inr miss ↦ wake_on i j miss (⊎_elim
          (λ (c : (j ≡ id) × (u ≡ z)). elim (cases_eq i m) [
            | inl same ↦ rw (c.0, same) own_wake
            | inr other ↦ absurd (false≢true (sym busy ∙ ap (λ (y : PoolView). rests (part y i)) (sym c.1) ∙ away i less other))
          ])
          (λ (c : (j ≢ id) × (get_elem? s.views j ≡ some z)). h.wakes i j z less c.1 busy)
          (at_set s.views id j u z e))
    ]

    -- a wake word that agrees with mutex m is QUIET if its seat rests there
    quiet_at : (j : ℕ) (z : PoolView) → get_elem? t.views j ≡ some z → rests (part z m) ≡ true → slice_index t.words (wake_at h.mutexes j) ≡ slice_index (after m).words (4 + h.seats + j)
        → slice_index t.words (wake_at h.mutexes j) ≡ 0
    quiet_at j z e rest same =
        same ∙ quiet_wake (after m) (kept_after m within) h.seats j (part z m) (sized_after m within) (parts_after m j z within e) rest

    quiet_after : (j : ℕ) (z : PoolView) → get_elem? t.views j ≡ some z → ((i : ℕ) → i < h.mutexes → rests (part z i) ≡ true) → slice_index t.words (wake_at h.mutexes j) ≡ 0
    quiet_after j z e all = elim (cases_eq (wake_at h.mutexes j) index) [
      | inl hit ↦ quiet_at j z e (all m within) (wake_here j hit)
      | inr miss ↦ ⊎_elim
          (λ (c : (j ≡ id) × (u ≡ z)). quiet_at j z e (all m within) (wake_on m j miss (rw c.0 own_wake)))
          (λ (c : (j ≢ id) × (get_elem? s.views j ≡ some z)). get_or-set_other s.words index (wake_at h.mutexes j) x 0 miss ∙ h.quiet j z c.1 all)
          (at_set s.views id j u z e)
    ]

    fresh_after : (j : ℕ) → length t.views ≤ j → j < h.seats → slice_index t.words (wake_at h.mutexes j) ≡ 0
    fresh_after j far less =
        let past : length s.views ≤ j = let l = length-set s.views id u in omega (arith, l, far) in
        get_or-set_other s.words index (wake_at h.mutexes j) x 0 (λ hit. let l = there j (inr hit) in omega (arith, l, past)) ∙ h.fresh j past less

    pub held_after : HeldPool (record { words = set s.words index x; homes = s.homes; views = set s.views id (with_part v m w n) })
    held_after = record {
      mutexes = h.mutexes;
      seats = h.seats;
      tables = after;
      kept = kept_after;
      sized = sized_after;
      long = length-set s.words index x ∙ h.long;
      wide = wide_after;
      counted = counted_after;
      parts = parts_after;
      own = own_after;
      elsewhere = elsewhere_after;
      popped = popped_after;
      listed = listed_after;
      linked = linked_after;
      dues = dues_after;
      chain = chain_after;
      noted = noted_after;
      idle = idle_after;
      wakes = wakes_after;
      quiet = quiet_after;
      fresh = fresh_after;
    }
