-- Which words of a pool have which index: no two words of mutexes and seats have the same.
use Rattle.std.proofs.Common.{◌≡◌, ◌≢◌, ◌⊎◌, ℕ, ◌+◌, ◌*◌, ◌<◌, ◌≤◌, arith, inl, inr}
use Rattle.lfm_pool.specs.Layout.{own_at, link_at, wake_at}
use Rattle.lfm_pool.specs.Steps.{IsWordAt}

-- the word at the index is the link word or the wake word of the seat at this place
abbrev pub IsOfSeat : ℕ → ℕ → ℕ → Type 0
IsOfSeat mutexes index j = (link_at mutexes j ≡ index) ⊎ (wake_at mutexes j ≡ index)

module _ (mutexes seats m index word : ℕ) (here : m < mutexes) (is : IsWordAt mutexes seats m index word) where
  pub index_inside : index < mutexes * 8 + seats * 2
  index_inside = elim is [
    | inl own ↦ omega (arith, own.0, own.1, here)
    | inr seat ↦ elim seat.2 [ inl link ↦ omega (arith, link.1, seat.1) | inr wake ↦ omega (arith, wake.1, seat.1) ]
  ]

  pub word_inside : word < 4 + 2 * seats
  word_inside = elim is [
    | inl own ↦ omega (arith, own.0)
    | inr seat ↦ elim seat.2 [ inl link ↦ omega (arith, link.0, seat.1) | inr wake ↦ omega (arith, wake.0, seat.1) ]
  ]

  -- The index is that of a word of a mutex, of a link word or of a wake word, if the index at the table is

  pub own_same : (i k : ℕ) → i < mutexes → k < 4 → own_at i k ≡ index → (i ≡ m) × (k ≡ word)
  own_same i k less few e = elim is [
    | inl own ↦ (omega (arith, own.0, own.1, e, few), omega (arith, own.0, own.1, e, few))
    | inr seat ↦ elim seat.2 [ inl link ↦ absurd (omega (arith, link.1, e, less, few)) | inr wake ↦ absurd (omega (arith, wake.1, e, less, few)) ]
  ]

  pub own_there : (k : ℕ) → k < 4 → k ≡ word → own_at m k ≡ index
  own_there k few e = elim is [
    | inl own ↦ omega (arith, own.1, e)
    | inr seat ↦ elim seat.2 [ inl link ↦ absurd (omega (arith, link.0, e, few)) | inr wake ↦ absurd (omega (arith, wake.0, e, few)) ]
  ]

  pub link_same : (j : ℕ) → link_at mutexes j ≡ index → 4 + j ≡ word
  link_same j e = elim is [
    | inl own ↦ absurd (omega (arith, own.0, own.1, e, here))
    | inr seat ↦ elim seat.2 [ inl link ↦ omega (arith, link.0, link.1, e) | inr wake ↦ absurd (omega (arith, wake.1, e)) ]
  ]

  pub link_there : (j : ℕ) → j < seats → 4 + j ≡ word → link_at mutexes j ≡ index
  link_there j less e = elim is [
    | inl own ↦ absurd (omega (arith, own.0, e))
    | inr seat ↦ elim seat.2 [ inl link ↦ omega (arith, link.0, link.1, e) | inr wake ↦ absurd (omega (arith, wake.0, e, less)) ]
  ]

  pub wake_same : (j : ℕ) → wake_at mutexes j ≡ index → 4 + seats + j ≡ word
  wake_same j e = elim is [
    | inl own ↦ absurd (omega (arith, own.0, own.1, e, here))
    | inr seat ↦ elim seat.2 [ inl link ↦ absurd (omega (arith, link.1, e)) | inr wake ↦ omega (arith, wake.0, wake.1, e) ]
  ]

  pub wake_there : (j : ℕ) → 4 + seats + j ≡ word → wake_at mutexes j ≡ index
  wake_there j e = elim is [
    | inl own ↦ absurd (omega (arith, own.0, e))
    | inr seat ↦ elim seat.2 [ inl link ↦ absurd (omega (arith, link.0, seat.1, e)) | inr wake ↦ omega (arith, wake.0, wake.1, e) ]
  ]

  -- it is not that of a carried word
  pub not_carried : (i : ℕ) → i < mutexes → own_at i 4 ≢ index
  not_carried i less e = elim is [
    | inl own ↦ omega (arith, own.0, own.1, e)
    | inr seat ↦ elim seat.2 [ inl link ↦ omega (arith, link.1, e, less) | inr wake ↦ omega (arith, wake.1, e, less) ]
  ]

  -- it is that of a link word only if the word at the table is one
  pub not_link : (j : ℕ) → (word < 4) ⊎ (4 + seats ≤ word) → link_at mutexes j ≢ index
  not_link j other e = elim is [
    | inl own ↦ omega (arith, own.0, own.1, e, here)
    | inr seat ↦ elim seat.2 [
      | inl link ↦ elim other [ inl low ↦ omega (arith, low, link.0) | inr high ↦ omega (arith, high, link.0, seat.1) ]
      | inr wake ↦ omega (arith, wake.1, e)
    ]
  ]
