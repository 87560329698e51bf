-- A step of a seat in one mutex of a pool is a step in no other mutex: no word, no seat and no run of another mutex changes.
use Rattle.std.proofs.Common.{◌≡◌, ◌≢◌, ℕ, ◌+◌, ◌<◌, List, [], length, set, refl, sym, ap, ◌∙◌, subst, inl, inr, arith, length-set}
use Rattle.std.specs.Prelude.{⊤, true, false, slice_index, slice_index_or}
use Rattle.std.proofs.lemmas.Bool.{cases_eq, false≢true}
use Rattle.std.proofs.lemmas.List.{get_or-set_other}
use mathlib.Core.Option.{some, some-injective}
use lib.ListN.{get_elem?}
use Rattle.atomic_table.specs.Table.{State, keeps, stepped}
use Rattle.atomic_table.proofs.Lists.{set_else, set_here}
use Rattle.lfm_words.specs.declared.pop_lists.Record.{Record}
use Rattle.lfm_protocol.specs.declared.limits.Limits.{Limits}
use Rattle.lfm_protocol.specs.declared.seats.SeatState.{SeatState}
use Rattle.lfm_table.specs.declared.seat_view.Action.{Action}
use Rattle.lfm_table.specs.declared.seat_view.View.{View}
use Rattle.lfm_table.specs.Rule.{no_view}
use Rattle.lfm_table.specs.Settled.{Became}
use Rattle.lfm_table.proofs.tables.RuleKept.{length_at}
use Rattle.lfm_pool.specs.declared.accesses.PoolAccess.{PoolAccess}
use Rattle.lfm_pool.specs.declared.view.Known.{Known}
use Rattle.lfm_pool.specs.declared.view.Note.{Note}
use Rattle.lfm_pool.specs.declared.view.PoolView.{PoolView}
use Rattle.lfm_pool.specs.Chain.{HasRecord}
use Rattle.lfm_pool.specs.Layout.{link_at, own_at, wake_at}
use Rattle.lfm_pool.specs.Posts.{HeldPosts}
use Rattle.lfm_pool.specs.Steps.{IsStepOf, RestsElsewhere}
use Rattle.lfm_pool.specs.Tables.{has_link, known, part, rests, unnoted, with_part}
use Rattle.lfm_pool.proofs.Links.{linked_busy}
use Rattle.lfm_pool.proofs.LoneTables.{known_other, part_same}
use Rattle.lfm_pool.proofs.PoppedViews.{popped_view}
use Rattle.lfm_pool.proofs.WordIndexes.{IsOfSeat}
use Rattle.lfm_pool_laws.specs.Mutexes.{HasRunOf}
use Rattle.lfm_pool_laws.specs.StepLaws.{CarriersWriteInOneMutex, DifferIn, IsCarriersWord, IsSame, StepsAreInOneMutex}
use Rattle.lfm_pool_laws.proofs.RunsKept.{AgreeOn, run_kept, same_mutexes, same_seats}
use Rattle.lfm_pool_laws.proofs.Tables.{inner}
use Rattle.lfm_pool_laws.proofs.Targets.{is_busy}

-- What a seat knows of a mutex, after what it knows of mutex m has become w and k

module _ (m : ℕ) (w : View ⊤) (k : Note) (v u : PoolView) (differ : DifferIn m w k v u) where
  as_known : (i : ℕ) → known u i ≡ known (with_part v m w k) i
  as_known i = ap (λ (l : List Known). slice_index_or l i (unnoted no_view)) differ

  known_else : (i : ℕ) → i ≢ m → known u i ≡ known v i
  known_else i other = as_known i ∙ known_other v m i w k other

  as_wide : length u.parts ≡ length v.parts
  as_wide = ap (λ (l : List Known). length l) differ ∙ length-set v.parts m (record (known v m) { view = w; note = k })

-- The seat at place id, whose view was v, has written x into the word at this index, and has the view u then. Mutex i is
-- another one: the word is none of its words, and the seat whose word it is rests in this mutex.
module _ (s : State ℕ PoolView) (h : HeldPosts s) (id m : ℕ) (v u : PoolView) (index x : ℕ) (w : View ⊤) (k : Note) (differ : DifferIn m w k v u) (at : get_elem? s.views id ≡ some v) (i : ℕ) (inside : i < h.held.mutexes) (other : i ≢ m)
    (own_differs : (n : ℕ) → n < 8 → own_at i n ≢ index) (away : (j : ℕ) (y : PoolView) → get_elem? s.views j ≡ some y → IsOfSeat h.held.mutexes index j → rests (part y i) ≡ true) where
  abbrev t : State ℕ PoolView
  t = stepped s index x id [] u keeps

  words_same : (n : ℕ) → n < 8 → slice_index t.words (own_at i n) ≡ slice_index s.words (own_at i n)
  words_same n few = get_or-set_other s.words index (own_at i n) x 0 (own_differs n few)

  counted_same : length t.views ≡ length s.views
  counted_same = length-set s.views id u

  knows_same : (j : ℕ) (y : PoolView) → get_elem? s.views j ≡ some y → (z : PoolView) × (get_elem? t.views j ≡ some z) × (known z i ≡ known y i)
  knows_same j y e = elim (cases_eq j id) [
    | inl same ↦
        let one : v ≡ y = some-injective v y (sym at ∙ ap (λ (n : ℕ). get_elem? s.views n) (sym same) ∙ e) in
        (u, ap (λ (n : ℕ). get_elem? (set s.views id u) n) same ∙ set_here s.views id u (length_at s.views id v at), known_else m w k v u differ i other ∙ ap (λ (q : PoolView). known q i) one)
    | inr apart ↦ (y, set_else s.views id j u apart ∙ e, refl)
  ]

  links_same : (j : ℕ) (y : PoolView) → get_elem? s.views j ≡ some y → rests (part y i) ≡ false → slice_index t.words (link_at h.held.mutexes j) ≡ slice_index s.words (link_at h.held.mutexes j)
  links_same j y e busy =
      get_or-set_other s.words index (link_at h.held.mutexes j) x 0 (λ hit. false≢true (sym busy ∙ away j y e (inl hit)))

  wakes_same : (j : ℕ) (y : PoolView) → get_elem? s.views j ≡ some y → rests (part y i) ≡ false → slice_index t.words (wake_at h.held.mutexes j) ≡ slice_index s.words (wake_at h.held.mutexes j)
  wakes_same j y e busy =
      get_or-set_other s.words index (wake_at h.held.mutexes j) x 0 (λ hit. false≢true (sym busy ∙ away j y e (inr hit)))

  -- a seat after the step, as it was before
  knew : (j : ℕ) (z : PoolView) → get_elem? t.views j ≡ some z → (y : PoolView) × (get_elem? s.views j ≡ some y) × (known z i ≡ known y i)
  knew j z e = elim (cases_eq j id) [
    | inl same ↦
        let there = set_here s.views id u (length_at s.views id v at) in
        let one : u ≡ z = some-injective u z (sym there ∙ ap (λ (n : ℕ). get_elem? (set s.views id u) n) (sym same) ∙ e) in
        (v, ap (λ (n : ℕ). get_elem? s.views n) same ∙ at, ap (λ (q : PoolView). known q i) (sym one) ∙ known_else m w k v u differ i other)
    | inr apart ↦ (z, sym (set_else s.views id j u apart) ∙ e, refl)
  ]

  -- A run of the other mutex

  own_now : get_elem? t.views id ≡ some u
  own_now = set_here s.views id u (length_at s.views id v at)

  agree : AgreeOn s t h.held.mutexes i
  agree = record {
    counted = counted_same;
    knew = λ j z e. let y = knew j z e in (y.0, y.1, ap (λ (q : Known). q.view) y.2);
    words = λ n few. words_same n (omega (arith, few));
    wakes = wakes_same;
  }

  run_same : (l : Limits) (actions : List Action) → HasRunOf s i l actions → HeldPosts t → HasRunOf t i l actions
  run_same l actions r g =
      let wide = as_wide m w k v u differ in
      let long = length-set s.words index x in
      let known_mutexes : h.held.mutexes ≡ r.rule.held.mutexes = let one = r.rule.held.wide id v at in let two = h.held.wide id v at in omega (arith, one, two) in
      run_kept s t i l actions r g (same_mutexes s t r.rule g id v u at own_now wide long) (same_seats s t r.rule g id v u at own_now wide long)
      (subst (λ (n : ℕ). AgreeOn s t n i) known_mutexes agree)

  pub is_same : IsSame s t h.held.mutexes i
  is_same = record { words = words_same; counted = counted_same; knows = knows_same; links = links_same; wakes = wakes_same; runs = run_same }

-- A step

module _ (s : State ℕ PoolView) (h : HeldPosts s) (id m : ℕ) (v : PoolView) (p : SeatState) (a : PoolAccess) (less : m < h.held.mutexes) (at : get_elem? s.views id ≡ some v)
    (elsewhere : RestsElsewhere v m) (became : Became (part v m).state (part v m).limits p) (is : IsStepOf h.held.mutexes h.held.seats m (id + 1) p a) (i : ℕ) (inside : i < h.held.mutexes) (other : i ≢ m) where
  -- the step does not access a word of the other mutex
  step_differs : (n : ℕ) → n < 8 → own_at i n ≢ a.index
  step_differs n few e = elim is.1 [
    | inl own ↦ other (omega (arith, own.0, own.1, e, few))
    | inr seat ↦ elim seat.2 [ inl link ↦ omega (arith, link.1, e, few, inside) | inr wake ↦ omega (arith, wake.1, e, few, inside) ]
  ]

  -- the seat whose word the step accesses rests in the other mutex
  target_rests : (j : ℕ) (y : PoolView) → get_elem? s.views j ≡ some y → IsOfSeat h.held.mutexes a.index j → rests (part y i) ≡ true
  target_rests j y e hit = elim (is_busy (inner s h) h.held id m v p a less at became is j hit) [
    | inl same ↦
        let one : v ≡ y = some-injective v y (sym at ∙ ap (λ (n : ℕ). get_elem? s.views n) (sym same) ∙ e) in
        ap (λ (q : PoolView). rests (part q i)) (sym one) ∙ elsewhere i (let l = h.held.wide id v at in omega (arith, l, inside)) other
    | inr busy ↦
        let one : busy.0 ≡ y = some-injective busy.0 y (sym busy.1 ∙ e) in
        h.held.elsewhere m i j y less inside (λ same. other (sym same)) e (ap (λ (q : PoolView). rests (part q m)) (sym one) ∙ busy.2)
  ]

pub steps_are_in_one_mutex : StepsAreInOneMutex
steps_are_in_one_mutex s h id m v u p a x w k less at elsewhere became is differ i inside other =
    is_same s h id m v u a.index x w k differ at i inside other (step_differs s h id m v p a less at elsewhere became is i inside other)
    (target_rests s h id m v p a less at elsewhere became is i inside other)

-- A write of the seat that carries a mutex, or holds it

module _ (s : State ℕ PoolView) (h : HeldPosts s) (id m : ℕ) (v : PoolView) (index : ℕ) (less : m < h.held.mutexes) (at : get_elem? s.views id ≡ some v) (is : IsCarriersWord h.held.mutexes m v index)
    (i : ℕ) (inside : i < h.held.mutexes) (other : i ≢ m) where
  write_differs : (n : ℕ) → n < 8 → own_at i n ≢ index
  write_differs n few e = elim is.1 [
    | inl own ↦ other (omega (arith, own, e, few))
    | inr link ↦ omega (arith, link.1, e, few, inside)
  ]

  -- it knows the popped records
  knows_popped : (part v m).popped ≡ h.held.popped m
  knows_popped = ((h.held.kept m less).outside id (part v m) (h.held.parts m id v less at) is.0).popped ∙ h.held.listed m less

  -- the seat of a popped record does not rest in the mutex, and so it rests in the other one
  popped_rests : (j : ℕ) → HasRecord (j + 1) (part v m).popped → (y : PoolView) → get_elem? s.views j ≡ some y → rests (part y i) ≡ true
  popped_rests j has y e =
      let z = popped_view (inner s h) h.held m less (j + 1) (subst (λ (l : List Record). HasRecord (j + 1) l) knows_popped has) in
      let place : z.0 ≡ j = omega (arith, z.1) in
      let one : z.2.0 ≡ y = some-injective z.2.0 y (sym z.2.1 ∙ ap (λ (n : ℕ). get_elem? s.views n) place ∙ e) in
      h.held.elsewhere m i j y less inside (λ same. other (sym same)) e (linked_busy (part y m).state.point (ap (λ (q : PoolView). has_link (part q m)) (sym one) ∙ z.2.2))

  written_rests : (j : ℕ) (y : PoolView) → get_elem? s.views j ≡ some y → IsOfSeat h.held.mutexes index j → rests (part y i) ≡ true
  written_rests j y e hit = elim is.1 [
    | inl own ↦ elim hit [ inl link ↦ absurd (omega (arith, own, link, less)) | inr wake ↦ absurd (omega (arith, own, wake, less)) ]
    | inr seat ↦ elim hit [
      | inl link ↦
          let same : seat.0 ≡ j = omega (arith, seat.1, link) in
          popped_rests j (subst (λ (n : ℕ). HasRecord (n + 1) (part v m).popped) same seat.2) y e
      | inr wake ↦ absurd (omega (arith, seat.1, wake))
    ]
  ]

-- The write is no step of the mutex

module _ (s : State ℕ PoolView) (h : HeldPosts s) (id m : ℕ) (v u : PoolView) (index x : ℕ) (k : Note) (less : m < h.held.mutexes) (at : get_elem? s.views id ≡ some v) (is : IsCarriersWord h.held.mutexes m v index)
    (differ : DifferIn m (part v m) k v u) where
  abbrev after : State ℕ PoolView
  after = stepped s index x id [] u keeps

  now : get_elem? after.views id ≡ some u
  now = set_here s.views id u (length_at s.views id v at)

  part_now : part u m ≡ part v m
  part_now = ap (λ (q : Known). q.view) (as_known m (part v m) k v u differ m) ∙ part_same v m (part v m) k (let w = h.held.wide id v at in omega (arith, w, less))

  was : (j : ℕ) (z : PoolView) → get_elem? after.views j ≡ some z → (y : PoolView) × (get_elem? s.views j ≡ some y) × (part z m ≡ part y m)
  was j z e = elim (cases_eq j id) [
    | inl same ↦
        let one : u ≡ z = some-injective u z (sym now ∙ ap (λ (n : ℕ). get_elem? (set s.views id u) n) (sym same) ∙ e) in
        (v, ap (λ (n : ℕ). get_elem? s.views n) same ∙ at, ap (λ (q : PoolView). part q m) (sym one) ∙ part_now)
    | inr apart ↦ (z, sym (set_else s.views id j u apart) ∙ e, refl)
  ]

  own_word : (n : ℕ) → n < 4 → own_at m n ≢ index
  own_word n few e = elim is.1 [ inl own ↦ omega (arith, own, e, few) | inr link ↦ omega (arith, link.1, e, few, less) ]

  wake_word : (j : ℕ) → wake_at h.held.mutexes j ≢ index
  wake_word j e = elim is.1 [ inl own ↦ omega (arith, own, e, less) | inr link ↦ omega (arith, link.1, e) ]

  agrees : AgreeOn s after h.held.mutexes m
  agrees = record {
    counted = length-set s.views id u;
    knew = was;
    words = λ n few. get_or-set_other s.words index (own_at m n) x 0 (own_word n few);
    wakes = λ j y e busy. get_or-set_other s.words index (wake_at h.held.mutexes j) x 0 (wake_word j);
  }

  no_step : (l : Limits) (actions : List Action) → HasRunOf s m l actions → HeldPosts after → HasRunOf after m l actions
  no_step l actions r g =
      let wide = as_wide m (part v m) k v u differ in
      let long = length-set s.words index x in
      let known_mutexes : h.held.mutexes ≡ r.rule.held.mutexes = let one = r.rule.held.wide id v at in let two = h.held.wide id v at in omega (arith, one, two) in
      run_kept s after m l actions r g (same_mutexes s after r.rule g id v u at now wide long) (same_seats s after r.rule g id v u at now wide long)
      (subst (λ (n : ℕ). AgreeOn s after n m) known_mutexes agrees)

pub carriers_write_in_one_mutex : CarriersWriteInOneMutex
carriers_write_in_one_mutex s h id m v u index x k less at is differ = (
  (λ i inside other.
      is_same s h id m v u index x (part v m) k differ at i inside other (write_differs s h id m v index less at is i inside other)
      (written_rests s h id m v index less at is i inside other)),
  no_step s h id m v u index x k less at is differ,
)
