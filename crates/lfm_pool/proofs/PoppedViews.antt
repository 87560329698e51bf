-- The seats of the popped records of a mutex, by their views: each is in a call at this mutex, or sleeps there.
use Rattle.std.proofs.Common.{◌≡◌, ◌⊎◌, ℕ, zero, suc, ◌+◌, ◌<◌, ◌≤◌, List, [], ◌∷◌, length, refl, sym, ap, ◌∙◌, subst, inl, inr, arith}
use Rattle.std.specs.Prelude.{true}
use Rattle.std.proofs.lemmas.Bool.{false≢true}
use mathlib.Core.Option.{some}
use lib.ListN.{get_elem?}
use Rattle.atomic_table.specs.Table.{State}
use Rattle.lfm_words.specs.declared.pop_lists.Record.{Record}
use Rattle.lfm_protocol.specs.declared.seats.SeatState.{SeatState}
use Rattle.lfm_protocol.specs.Seats.{seat}
use Rattle.lfm_pool.specs.declared.view.PoolView.{PoolView}
use Rattle.lfm_pool.specs.Chain.{HasRecord}
use Rattle.lfm_pool.specs.Rule.{HeldPool}
use Rattle.lfm_pool.specs.Tables.{part, has_link, has_link_at}
use Rattle.lfm_pool.proofs.PoppedRecords.{popped_linked, popped_seat}

pub element : {A : Type 0} (l : List A) (j : ℕ) → ((x : A) × (get_elem? l j ≡ some x)) ⊎ (length l ≤ j)
element [] j = inr (omega arith)
element (x ∷ xs) zero = inl (x, refl)
element (x ∷ xs) (suc j) = elim (element xs j) [ inl e ↦ inl e | inr far ↦ inr (omega (arith, far)) ]

-- the seat with number t, from its place
pub place_of : (t : ℕ) → 0 < t → (j : ℕ) × (t ≡ j + 1)
place_of zero above = absurd (omega (arith, above))
place_of (suc j) above = (j, omega arith)

module _ (s : State ℕ PoolView) (h : HeldPool s) (m : ℕ) (less : m < h.mutexes) where
  -- the seat at this place has a link in the mutex
  abbrev pub HasLinkAt : ℕ → Type 0
  HasLinkAt j = (z : PoolView) × (get_elem? s.views j ≡ some z) × (has_link (part z m) ≡ true)

  pub linked_view : (j : ℕ) → has_link_at (seat (h.kept m less).core.seats (j + 1)).point ≡ true → HasLinkAt j
  linked_view j has = elim (element s.views j) [
    | inl z ↦
        (z.0, z.1, ap (λ (x : SeatState). has_link_at x.point) (sym ((h.kept m less).each j (part z.0 m) (h.parts m j z.0 less z.1)).state) ∙ has)
    | inr far ↦
        absurd (false≢true (sym (ap (λ (x : SeatState). has_link_at x.point) ((h.kept m less).later j (let n = h.counted m less in omega (arith, n, far)))) ∙ has))
  ]

  -- so has the seat of a popped record
  pub popped_view : (t : ℕ) → HasRecord t (h.popped m) → (j : ℕ) × (t ≡ j + 1) × HasLinkAt j
  popped_view t has =
      let k = h.kept m less in
      let here : HasRecord t k.core.popped = subst (λ (l : List Record). HasRecord t l) (sym (h.listed m less)) has in
      let is = popped_seat k.core k.ghost_state k.fits t here in
      let j = place_of t is.above in
      let linked = popped_linked k.core k.ghost_state k.fits t here in
      (j.0, j.1, linked_view j.0 (ap (λ (n : ℕ). has_link_at (seat k.core.seats n).point) (sym j.1) ∙ linked))
