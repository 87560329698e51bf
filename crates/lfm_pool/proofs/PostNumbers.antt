-- The numbers of posts: a handoff word and the word of its mutex's table name the same post, or neither does.
use Rattle.std.proofs.Common.{◌≡◌, ◌≢◌, ◌⊎◌, ℕ, ◌+◌, ◌-◌, ◌*◌, ◌<◌, ◌≤◌, nat_lt, if◌then◌else◌, refl, sym, ap, ◌∙◌, subst, inl, inr, arith, tests}
use Rattle.std.specs.Prelude.{Bool, true, false}
use Rattle.std.proofs.lemmas.Bool.{cases_eq, eq-eqb, ne_eqb}
use Rattle.std.proofs.lemmas.Nat.{div-add-mod'}
use Rattle.lfm_words.specs.declared.handoffs.Handoff.{Handoff}
use Rattle.lfm_words.specs.Words.{handoff_of, handoff_word}
use Rattle.lfm_laws.specs.steady.Numbered.{changed}
use Rattle.lfm_pool.specs.Posts.{named}
use Rattle.lfm_pool.proofs.LoneTables.{changed_same, changed_other}

-- Words

pub packs : (n : ℕ) → handoff_word (handoff_of n) ≡ n
packs n = div-add-mod' n 65536

pub seat_of : (h : Handoff) → h.seat < 65536 → (handoff_of (handoff_word h)).seat ≡ h.seat
seat_of h small = omega (arith, small)

pub post_of : (h : Handoff) → h.seat < 65536 → (handoff_of (handoff_word h)).post ≡ h.post
post_of h small = omega (arith, small)

pub unpacks : (h : Handoff) → h.seat < 65536 → handoff_of (handoff_word h) ≡ h
unpacks h small = λ i. record { seat = seat_of h small i; post = post_of h small i }

same_words : (a b c d : ℕ) → b < 65536 → d < 65536 → a * 65536 + b ≡ c * 65536 + d → (a ≡ c) × (b ≡ d)
same_words a b c d first second e = (omega (arith, first, second, e), omega (arith, first, second, e))

seat_small : (n : ℕ) → (handoff_of n).seat < 65536
seat_small n = omega arith

-- The word that has the numbers

pub named_none : (f : ℕ → ℕ → ℕ) (n : ℕ) → (handoff_of n).seat ≡ 0 → named f n ≡ 0
named_none f n none = let h = eq-eqb (handoff_of n).seat 0 none in rw h refl

pub named_some : (f : ℕ → ℕ → ℕ) (n : ℕ) → (handoff_of n).seat ≢ 0 → named f n ≡ handoff_word (record { seat = (handoff_of n).seat; post = f (handoff_of n).seat (handoff_of n).post })
named_some f n some = let h = ne_eqb (handoff_of n).seat 0 some in rw h refl

-- it names the same seat
pub named_seat : (f : ℕ → ℕ → ℕ) (n : ℕ) → (handoff_of (named f n)).seat ≡ (handoff_of n).seat
named_seat f n = elim (cases_eq (handoff_of n).seat 0) [
  | inl none ↦ ap (λ (k : ℕ). (handoff_of k).seat) (named_none f n none) ∙ sym none
  | inr some ↦ ap (λ (k : ℕ). (handoff_of k).seat) (named_some f n some)
      ∙ seat_of (record { seat = (handoff_of n).seat; post = f (handoff_of n).seat (handoff_of n).post }) (seat_small n)
]

pub named_number : (f : ℕ → ℕ → ℕ) (n : ℕ) → (handoff_of n).seat ≢ 0 → (handoff_of (named f n)).post ≡ f (handoff_of n).seat (handoff_of n).post
named_number f n some =
    ap (λ (k : ℕ). (handoff_of k).post) (named_some f n some)
    ∙ post_of (record { seat = (handoff_of n).seat; post = f (handoff_of n).seat (handoff_of n).post }) (seat_small n)

pub named_empty : (f : ℕ → ℕ → ℕ) (n : ℕ) → (handoff_of (named f n)).seat ≡ 0 → (handoff_of (named f n)).post ≡ 0
named_empty f n none = ap (λ (k : ℕ). (handoff_of k).post) (named_none f n (sym (named_seat f n) ∙ none))

-- the word of this post
pub named_word : (f : ℕ → ℕ → ℕ) (h : Handoff) → 0 < h.seat → h.seat < 65536 → named f (handoff_word h) ≡ handoff_word (record { seat = h.seat; post = f h.seat h.post })
named_word f h above small =
    let is = unpacks h small in
    let some : (handoff_of (handoff_word h)).seat ≢ 0 = λ none. let e = ap (λ (k : Handoff). k.seat) is in omega (arith, e, none, above) in
    named_some f (handoff_word h) some ∙ ap (λ (k : Handoff). handoff_word (record { seat = k.seat; post = f k.seat k.post })) is

compared : (k a : ℕ) (b : Bool) → nat_lt k a ≡ b → (a ≤ k) ⊎ (k < a)
compared k a true more = inr (search (tests, arith, more))
compared k a false less = inl (search (tests, arith, less))

old_or_new : (k a : ℕ) → (a ≤ k) ⊎ (k < a)
old_or_new k a = compared k a (nat_lt k a) refl

-- numbers that rise differ
pub rising_same : (f : ℕ → ℕ) → ((a b : ℕ) → a < b → f a < f b) → (a b : ℕ) → f a ≡ f b → a ≡ b
rising_same f rising a b e = elim (cases_eq a b) [
  | inl same ↦ same
  | inr other ↦
      let by_order : (a < b) ⊎ (b < a) = ordered a b other in
      elim by_order [ inl less ↦ (let d = rising a b less in absurd (omega (arith, d, e))) | inr more ↦ (let d = rising b a more in absurd (omega (arith, d, e))) ]
] where
  ordered : (x y : ℕ) → x ≢ y → (x < y) ⊎ (y < x)
  ordered x y differ = elim (old_or_new y x) [ inl more ↦ (let less : x < y = omega (arith, more, differ) in inl less) | inr less ↦ inr less ]

-- the word names this post only if the word of the table does
pub same_named : (f : ℕ → ℕ → ℕ) (h : Handoff) → ((a b : ℕ) → a < b → f h.seat a < f h.seat b) → 0 < h.seat → h.seat < 65536 → (n : ℕ)
    → named f n ≡ handoff_word (record { seat = h.seat; post = f h.seat h.post }) → n ≡ handoff_word h
same_named f h rising above small n e = elim (cases_eq (handoff_of n).seat 0) [
  | inl none ↦ let z = named_none f n none in absurd (omega (arith, z, e, above))
  | inr some ↦
      let both = same_words (f (handoff_of n).seat (handoff_of n).post) (handoff_of n).seat (f h.seat h.post) h.seat (seat_small n) small (sym (named_some f n some) ∙ e) in
      let number : f h.seat (handoff_of n).post ≡ f h.seat h.post = ap (λ (t : ℕ). f t (handoff_of n).post) (sym both.1) ∙ both.0 in
      let post = rising_same (f h.seat) rising (handoff_of n).post h.post number in
      sym (packs n) ∙ (λ i. handoff_word (record { seat = both.1 i; post = post i }))
]

-- One more post

-- The numbers of a seat's posts in a mutex, after it has made its post k + 1 there, and c others before in all mutexes.
-- Those of later posts are not settled yet.
abbrev pub renumbered : ℕ → ℕ → (ℕ → ℕ) → ℕ → ℕ
renumbered k c f a = if nat_lt k a then c + (a - k) else f a

pub renumbered_old : (k c : ℕ) (f : ℕ → ℕ) (a : ℕ) → a ≤ k → renumbered k c f a ≡ f a
renumbered_old k c f a less = let h : nat_lt k a ≡ false = search (tests, arith, less) in rw h refl

pub renumbered_new : (k c : ℕ) (f : ℕ → ℕ) (a : ℕ) → k < a → renumbered k c f a ≡ c + (a - k)
renumbered_new k c f a more = let h : nat_lt k a ≡ true = search (tests, arith, more) in rw h refl

pub renumbered_rises : (k c : ℕ) (f : ℕ → ℕ) → ((a b : ℕ) → a < b → f a < f b) → f k ≤ c → (a b : ℕ) → a < b → renumbered k c f a < renumbered k c f b
renumbered_rises k c f rising most a b less = elim (old_or_new k a) [
  | inl old ↦ elim (old_or_new k b) [
    | inl old' ↦ rw (renumbered_old k c f a old, renumbered_old k c f b old') (rising a b less)
    | inr new ↦ rw (renumbered_old k c f a old, renumbered_new k c f b new) (elim (cases_eq a k) [
      | inl last ↦ let e = ap f last in omega (arith, e, most, new)
      | inr before ↦ let d = rising a k (omega (arith, old, before)) in omega (arith, d, most, new)
    ])
  ]
  | inr new ↦ let new' : k < b = omega (arith, new, less) in rw (renumbered_new k c f a new, renumbered_new k c f b new') (omega (arith, new, less))
]

-- the numbers of all posts after it, in mutex m, of the seat with this number
abbrev pub names_after : (ℕ → ℕ → ℕ → ℕ) → ℕ → ℕ → ℕ → ℕ → ℕ → ℕ → ℕ → ℕ
names_after f m number k c = changed f m (changed (f m) number (renumbered k c (f m number)))

module _ (f : ℕ → ℕ → ℕ → ℕ) (m number k c : ℕ) where
  pub after_here : (a : ℕ) → names_after f m number k c m number a ≡ renumbered k c (f m number) a
  after_here a = ap (λ (g : ℕ → ℕ → ℕ). g number a) (changed_same f m (changed (f m) number (renumbered k c (f m number)))) ∙ ap (λ (g : ℕ → ℕ). g a) (changed_same (f m) number (renumbered k c (f m number)))

  pub after_seat : (t a : ℕ) → t ≢ number → names_after f m number k c m t a ≡ f m t a
  after_seat t a other = ap (λ (g : ℕ → ℕ → ℕ). g t a) (changed_same f m (changed (f m) number (renumbered k c (f m number)))) ∙ ap (λ (g : ℕ → ℕ). g a) (changed_other (f m) number t (renumbered k c (f m number)) other)

  pub after_mutex : (i : ℕ) → i ≢ m → names_after f m number k c i ≡ f i
  after_mutex i other = changed_other f m i (changed (f m) number (renumbered k c (f m number))) other

  -- in each mutex, of each seat
  pub after_other : (i t a : ℕ) → t ≢ number → names_after f m number k c i t a ≡ f i t a
  after_other i t a other = elim (cases_eq i m) [
    | inl same ↦ subst (λ (j : ℕ). names_after f m number k c j t a ≡ f j t a) (sym same) (after_seat t a other)
    | inr away ↦ ap (λ (g : ℕ → ℕ → ℕ). g t a) (after_mutex i away)
  ]

  pub after_old : (t a : ℕ) → (t ≡ number → a ≤ k) → names_after f m number k c m t a ≡ f m t a
  after_old t a old = elim (cases_eq t number) [
    | inl same ↦ rw same (after_here a ∙ renumbered_old k c (f m number) a (old same))
    | inr other ↦ after_seat t a other
  ]

  pub after_rises : ((i t a b : ℕ) → a < b → f i t a < f i t b) → f m number k ≤ c → (i t a b : ℕ) → a < b → names_after f m number k c i t a < names_after f m number k c i t b
  after_rises rising most i t a b less = elim (cases_eq i m) [
    | inl same ↦ elim (cases_eq t number) [
      | inl same' ↦ rw (same, same', after_here a, after_here b) (renumbered_rises k c (f m number) (rising m number) most a b less)
      | inr other ↦ rw (after_other i t a other, after_other i t b other) (rising i t a b less)
    ]
    | inr away ↦ rw (after_mutex i away) (rising i t a b less)
  ]

  pub after_first : ((i t : ℕ) → f i t 0 ≡ 0) → (i t : ℕ) → names_after f m number k c i t 0 ≡ 0
  after_first first i t = elim (cases_eq i m) [
    | inl same ↦ rw same (after_old t 0 (λ e. omega arith) ∙ first m t)
    | inr away ↦ rw (after_mutex i away) (first i t)
  ]
