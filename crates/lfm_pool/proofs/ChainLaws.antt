-- The laws of chains.
use Rattle.std.proofs.Common.{◌≡◌, ℕ, zero, suc, ◌-◌, ◌<◌, ◌≤◌, List, [], ◌∷◌, drop, length, refl, ap, ◌∙◌, subst, inl, inr, arith, if◌then◌else◌}
use Rattle.std.specs.Prelude.{slice_index}
use Rattle.std.proofs.lemmas.Bool.{ne_eqb}
use Rattle.atomic_table.specs.Table.{State}
use Rattle.lfm_words.specs.declared.links.Link.{Link}
use Rattle.lfm_words.specs.declared.pop_lists.Record.{Record}
use Rattle.lfm_words.specs.Words.{link_of, seat_field_size}
use Rattle.lfm_laws.proofs.table.Packing.{link_packed}
use Rattle.lfm_table.proofs.tables.RuleKept.{length_at}
use Rattle.lfm_pool.specs.declared.view.PoolView.{PoolView}
use Rattle.lfm_pool.specs.Chain.{HasRecord, IsChain, first_seat}
use Rattle.lfm_pool.specs.Laws.{AreOfDifferentSeats, ChainsAreWalked, seats_of_records, walked}
use Rattle.lfm_pool.specs.Rule.{HeldPool, link_at}
use Rattle.lfm_pool.proofs.Chains.{chain_on}
use Rattle.lfm_pool.proofs.PoppedRecords.{popped_differ}
use Rattle.lfm_pool.proofs.PoppedViews.{popped_view}

-- the records are of seats
abbrev AreSeats : List Record → Type 0
AreSeats l = (t : ℕ) → HasRecord t l → (0 < t) × (t < seat_field_size)

first_small : (l : List Record) → AreSeats l → first_seat l < seat_field_size
first_small [] are = omega arith
first_small (r ∷ rest) are = (are r.seat (inl refl)).1

walks : (mutexes : ℕ) (words : List ℕ) (most : ℕ) (l : List Record) → AreSeats l → IsChain mutexes words l → length l ≤ most → walked mutexes words most (first_seat l) ≡ seats_of_records l
walks mutexes words zero [] are chain within = refl
walks mutexes words (suc most) [] are chain within = refl
walks mutexes words zero (r ∷ rest) are chain within = absurd (omega (arith, within))
walks mutexes words (suc most) (r ∷ rest) are chain within =
    let above = (are r.seat (inl refl)).0 in
    let later : AreSeats rest = λ t has. are t (inr has) in
    let next : (link_of (slice_index words (link_at mutexes (r.seat - 1)))).next ≡ first_seat rest =
    ap (λ (n : ℕ). (link_of n).next) chain.0 ∙ ap (λ (k : Link). k.next) (link_packed (record { stamp = r.stamp; next = first_seat rest }) (first_small rest later))
    in
    let on = walks mutexes words most rest later chain.1 (omega (arith, within)) in
    ap (λ b. if b then [] else r.seat ∷ walked mutexes words most (link_of (slice_index words (link_at mutexes (r.seat - 1)))).next) (ne_eqb r.seat 0 (λ e. omega (arith, e, above)))
    ∙ ap (λ (n : ℕ). r.seat ∷ walked mutexes words most n) next ∙ ap (λ (ts : List ℕ). r.seat ∷ ts) on

module _ (s : State ℕ PoolView) (h : HeldPool s) (m : ℕ) (less : m < h.mutexes) (words : List ℕ) (same : (t : ℕ) → slice_index words (link_at h.mutexes (t - 1)) ≡ slice_index s.words (link_at h.mutexes (t - 1))) where
  popped_are_seats : AreSeats (h.popped m)
  popped_are_seats t has =
      let f = popped_view s h m less t has in
      let low = length_at s.views f.0 f.2.0 f.2.1 in
      let many = h.counted m less in
      let few = (h.kept m less).few in
      let most = (h.kept m less).fits.sizes.seats in
      (omega (arith, f.1), omega (arith, f.1, low, many, few, most))

  walked_whole : h.dues m ≡ 0 → (most : ℕ) → length (h.popped m) ≤ most → walked h.mutexes words most (first_seat (h.popped m)) ≡ seats_of_records (h.popped m)
  walked_whole none most within =
      walks h.mutexes words most (h.popped m) popped_are_seats
      (chain_on h.mutexes s.words words (h.popped m) (λ t has. same t) (subst (λ (n : ℕ). IsChain h.mutexes s.words (drop n (h.popped m))) none (h.chain m less))) within

  differ : AreOfDifferentSeats (h.popped m)
  differ =
      let k = h.kept m less in subst AreOfDifferentSeats (h.listed m less) (popped_differ k.core k.ghost_state k.fits)

pub chains_are_walked : ChainsAreWalked
chains_are_walked s h m less none =
    let own : State ℕ PoolView = record { words = h.own; homes = s.homes; views = s.views } in
    let same : (t : ℕ) → slice_index s.words (link_at h.held.mutexes (t - 1)) ≡ slice_index h.own (link_at h.held.mutexes (t - 1)) = λ t. h.same (link_at h.held.mutexes (t - 1)) (λ i low e. omega (arith, low, e)) in
    (walked_whole own h.held m less s.words same none, differ own h.held m less s.words same)
