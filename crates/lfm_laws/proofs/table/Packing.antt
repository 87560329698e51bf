-- Packing is exact: a number packed from fields in range unpacks to the same fields, and a table's compare-and-exchange of
-- packed words succeeds exactly if the seat finds what it expects.
use Rattle.std.proofs.Common.{◌≡◌, ℕ, ◌+◌, ◌-◌, ◌*◌, ◌/◌, ◌%◌, ◌^◌, ◌<◌, nat_eq, refl, ap, ◌∙◌, inl, inr, arith}
use Rattle.std.specs.Prelude.{bit_and}
use Rattle.std.proofs.lemmas.Bool.{cases_eq, ne_eqb, eq-eqb}
use Rattle.std.proofs.lemmas.Nat.Bits.{and_high_mask}
use Rattle.lfm_words.specs.declared.handoffs.Handoff.{Handoff}
use Rattle.lfm_words.specs.declared.links.Link.{Link}
use Rattle.lfm_words.specs.declared.wakes.Wake.{Wake}
use Rattle.lfm_words.specs.declared.wakes.Wake.TheVariants.{Quiet, Waiting, Claimed, Grant}
use Rattle.lfm_words.specs.Words.{link_word, handoff_word, wake_word, seat_field_size}
use Rattle.lfm_protocol.specs.After.{same_link, same_handoff}
use Rattle.lfm_laws.specs.table.Words.{link_of, handoff_of, wake_of}

-- The halves of a word

upper : (a b : ℕ) → b < seat_field_size → (a * seat_field_size + b) / seat_field_size ≡ a
upper a b small = omega (arith, small)

lower : (a b : ℕ) → b < seat_field_size → (a * seat_field_size + b) % seat_field_size ≡ b
lower a b small = omega (arith, small)

pub link_packed : (l : Link) → l.next < seat_field_size → link_of (link_word l) ≡ l
link_packed l small = rw (upper l.stamp l.next small, lower l.stamp l.next small) refl

pub handoff_packed : (h : Handoff) → h.seat < seat_field_size → handoff_of (handoff_word h) ≡ h
handoff_packed h small = rw (upper h.post h.seat small, lower h.post h.seat small) refl

stamp_packed : (stamp : ℕ) → (3 + 4 * stamp - 3) / 4 ≡ stamp
stamp_packed stamp = omega arith

pub wake_packed : (w : Wake) → wake_of (wake_word w) ≡ w
wake_packed Quiet = refl
wake_packed Waiting = refl
wake_packed Claimed = refl
wake_packed (Grant stamp) =
    let e0 = ne_eqb (3 + 4 * stamp) 0 (λ e. omega (arith, e)) in
    let e1 = ne_eqb (3 + 4 * stamp) 1 (λ e. omega (arith, e)) in
    let e2 = ne_eqb (3 + 4 * stamp) 2 (λ e. omega (arith, e)) in
    rw (e0, e1, e2, stamp_packed stamp) refl

-- Exchanges

two_halves : (a b c d : ℕ) → b < seat_field_size → d < seat_field_size → a * seat_field_size + b ≡ c * seat_field_size + d → (a ≡ c) × (b ≡ d)
two_halves a b c d small few same = (omega (arith, same, small, few), omega (arith, same, small, few))

pub same_link_word : (a b : Link) → a.next < seat_field_size → b.next < seat_field_size → same_link a b ≡ nat_eq (link_word a) (link_word b)
same_link_word a b small few =
    elim (cases_eq (link_word a) (link_word b)) [
      | inl e ↦
          let h = two_halves a.stamp a.next b.stamp b.next small few e in
          rw (eq-eqb (link_word a) (link_word b) e, eq-eqb a.stamp b.stamp h.0, eq-eqb a.next b.next h.1) refl
      | inr n ↦ elim (cases_eq a.stamp b.stamp) [
        | inl e ↦ elim (cases_eq a.next b.next) [
          | inl f ↦ absurd (n (omega (arith, e, f)))
          | inr g ↦ rw (ne_eqb (link_word a) (link_word b) n, eq-eqb a.stamp b.stamp e, ne_eqb a.next b.next g) refl
        ]
        | inr g ↦ rw (ne_eqb (link_word a) (link_word b) n, ne_eqb a.stamp b.stamp g) refl
      ]
    ]

pub same_handoff_word : (a b : Handoff) → a.seat < seat_field_size → b.seat < seat_field_size → same_handoff a b ≡ nat_eq (handoff_word a) (handoff_word b)
same_handoff_word a b small few =
    elim (cases_eq (handoff_word a) (handoff_word b)) [
      | inl e ↦
          let h = two_halves a.post a.seat b.post b.seat small few e in
          rw (eq-eqb (handoff_word a) (handoff_word b) e, eq-eqb a.seat b.seat h.1, eq-eqb a.post b.post h.0) refl
      | inr n ↦ elim (cases_eq a.seat b.seat) [
        | inl e ↦ elim (cases_eq a.post b.post) [
          | inl f ↦ absurd (n (omega (arith, e, f)))
          | inr g ↦ rw (ne_eqb (handoff_word a) (handoff_word b) n, eq-eqb a.seat b.seat e, ne_eqb a.post b.post g) refl
        ]
        | inr g ↦ rw (ne_eqb (handoff_word a) (handoff_word b) n, ne_eqb a.seat b.seat g) refl
      ]
    ]

-- Sums and masks

pub added_word : (n : ℕ) → n + 1 < 2 ^ 64 → (n + 1) % 2 ^ 64 ≡ n + 1
added_word n small = omega (arith, small)

pub subtracted_word : (n : ℕ) → 0 < n → n < 2 ^ 64 → (n + (2 ^ 64 - 1)) % 2 ^ 64 ≡ n - 1
subtracted_word n some small = omega (arith, some, small)

pub cleared_word : (l : Link) → l.next < seat_field_size → l.stamp < 2 ^ 48 → bit_and (link_word l) (2 ^ 64 - 2 ^ 16) ≡ link_word (record { stamp = l.stamp; next = 0 })
cleared_word l small few =
    let whole : link_word l < 2 ^ 64 = omega (arith, small, few) in
    and_high_mask 64 16 (omega arith) (link_word l) whole ∙ ap (λ a. a * seat_field_size) (upper l.stamp l.next small) ∙ omega arith
