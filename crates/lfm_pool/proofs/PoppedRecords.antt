-- The popped records of one mutex: their seats are queued and differ, and the seat whose link a call loads next is none of
-- them and has no grant.
use Rattle.std.proofs.Common.{◌≡◌, ℕ, zero, suc, ◌+◌, ◌<◌, ◌≤◌, List, ◌∷◌, drop, length, if◌then◌else◌, refl, sym, ap, ◌∙◌, subst, inl, inr, arith, Option, None}
use Rattle.std.specs.Prelude.{Bool, true, false}
use Rattle.std.proofs.lemmas.Bool.{false≢true}
use Rattle.lfm_words.specs.declared.pop_lists.Record.{Record}
use Rattle.lfm_words.specs.declared.wakes.Wake.{Wake}
use Rattle.lfm_words.specs.declared.wakes.Wake.TheVariants.{Waiting, Claimed}
use Rattle.lfm_words.specs.Words.{is_grant_word, wake_word}
use Rattle.lfm_protocol.specs.declared.points.Carrier.{Carrier}
use Rattle.lfm_protocol.specs.declared.points.Point.{Point}
use Rattle.lfm_protocol.specs.declared.points.Point.TheVariants.{Asleep, TakeLinkLoad, ReceiveWakeLoad, ReceiveWakeStore}
use Rattle.lfm_protocol.specs.declared.points.Sleeper.TheVariants as Sleeper
use Rattle.lfm_protocol.specs.Core.{Core}
use Rattle.lfm_protocol.specs.Seats.{seat, wake, IsSeat}
use Rattle.lfm_laws.specs.steady.Ghost.{Responsibility, granted, serving, Standing, queued, Ghost}
use Rattle.lfm_laws.specs.steady.Numbered.{records}
use Rattle.lfm_laws.specs.steady.Steady.{Fits}
use Rattle.lfm_laws.specs.steady.Views.{grant_at, held_by, wake_by}
use Rattle.lfm_laws.proofs.steady.frames.Seated.{seat_of_queued}
use Rattle.lfm_laws.proofs.steady.queue.Popping.{queued_injective}
use Rattle.lfm_laws.proofs.steady.queue.Pushers.{fits_at}
use Rattle.lfm_pool.specs.Chain.{HasRecord, first_seat}
use Rattle.lfm_pool.specs.Laws.{AreOfDifferentSeats}
use Rattle.lfm_pool.specs.Tables.{has_link_at}
use Rattle.lfm_pool.proofs.Targets.{collected_linked, queued_linked}

-- the stamp of one of these records
in_records : (f : ℕ → ℕ) (last n t : ℕ) → HasRecord t (records f last n) → (i : ℕ) × (last < i) × (i ≤ last + n) × (f i ≡ t)
in_records f last zero t has = absurd has
in_records f last (suc n) t has = elim has [
  | inl e ↦ (last + 1, omega arith, omega arith, e)
  | inr more ↦ let d = in_records f (last + 1) n t more in (d.0, omega (arith, d.1), omega (arith, d.2), d.3)
]

-- the first of these records, and the stamps of the others
first_of_records : (f : ℕ → ℕ) (last n : ℕ) (r : Record) (rest : List Record) → r ∷ rest ≡ records f last n
    → (f (last + 1) ≡ r.seat) × ((t : ℕ) → HasRecord t rest → (i : ℕ) × (last + 1 < i) × (i ≤ last + n) × (f i ≡ t))
first_of_records f last zero r rest e = absurd (cc)
first_of_records f last (suc n) r rest e = (
  sym (ap first_seat e),
  λ t has. let d = in_records f (last + 1) n t (subst (λ (l : List Record). HasRecord t l) (ap (λ (l : List Record). drop 1 l) e) has) in (d.0, d.1, omega (arith, d.2), d.3),
)

-- such records are of different seats, if the function differs at their stamps
records_differ : (f : ℕ → ℕ) (last n : ℕ) → ((a b : ℕ) → last < a → a ≤ last + n → last < b → b ≤ last + n → f a ≡ f b → a ≡ b) → AreOfDifferentSeats (records f last n)
records_differ f last zero apart = tt
records_differ f last (suc n) apart = (
  λ has. let d = in_records f (last + 1) n (f (last + 1)) has in
      let same = apart (last + 1) d.0 (omega arith) (omega arith) (omega (arith, d.1)) (omega (arith, d.2)) (sym d.3) in
      omega (arith, same, d.1),
  records_differ f (last + 1) n (λ a b low high low' high' e. apart a b (omega (arith, low)) (omega (arith, high)) (omega (arith, low')) (omega (arith, high')) e),
)

-- a call that serves leaves no grant to any seat
no_grant : (place : Responsibility) (s t : ℕ) → ◌≡◌ {A = Responsibility} (serving s) (held_by place s) → grant_at place t ≡ None
no_grant (granted u stamp) s t e = absurd (cc)
no_grant _ s t e = refl

word_if : (b : Bool) → is_grant_word (wake_word (if b then Waiting else Claimed)) ≡ false
word_if true = refl
word_if false = refl

no_grant_word : (place : Responsibility) (standing : Standing) (t : ℕ) (q : Point) → has_link_at q ≡ true → is_grant_word (wake_word (wake_by None place standing t q)) ≡ false
no_grant_word place standing t (Asleep Sleeper.Waiter) has = word_if _
no_grant_word place standing t (ReceiveWakeLoad Sleeper.Waiter) has = word_if _
no_grant_word place standing t (ReceiveWakeStore stamp) has = absurd (false≢true has)
no_grant_word place standing t _ has = refl

module _ (c : Core) (g : Ghost) (fits : Fits c g) where
  -- its seat is queued
  popped_stands : (t : ℕ) → HasRecord t c.popped → (i : ℕ) × (g.popped + g.walk < i) × (g.standing t ≡ queued i)
  popped_stands t has =
      let d = in_records g.pushed_at (g.popped + g.walk) (length c.popped) t (subst (λ (l : List Record). HasRecord t l) fits.words.listed has) in
      let parts = fits.words.parts in
      (d.0, d.1, ap g.standing (sym d.3) ∙ (fits.stamps d.0 (omega (arith, d.1)) (omega (arith, d.2, parts))).stands)

  pub popped_seat : (t : ℕ) → HasRecord t c.popped → IsSeat c.seats t
  popped_seat t has = let d = popped_stands t has in seat_of_queued c g t d.0 fits d.2

  pub popped_linked : (t : ℕ) → HasRecord t c.popped → has_link_at (seat c.seats t).point ≡ true
  popped_linked t has = let d = popped_stands t has in queued_linked c g fits t d.0 d.2

  -- no two of them are of one seat
  pub popped_differ : AreOfDifferentSeats c.popped
  popped_differ =
      let parts = fits.words.parts in
      subst AreOfDifferentSeats (sym fits.words.listed)
      (records_differ g.pushed_at (g.popped + g.walk) (length c.popped)
      (λ a b low high low' high' e.
      let first = (fits.stamps a (omega (arith, low)) (omega (arith, high, parts))).stands in
      let second = (fits.stamps b (omega (arith, low')) (omega (arith, high', parts))).stands in
      queued_injective a b (sym first ∙ ap g.standing e ∙ second)))

  -- no other record is of the same seat as the first
  pub first_alone : (r : Record) (rest : List Record) → c.popped ≡ r ∷ rest → HasRecord r.seat rest → ⊥
  first_alone r rest e has =
      let first = first_of_records g.pushed_at (g.popped + g.walk) (length c.popped) r rest (sym e ∙ fits.words.listed) in
      let other = first.1 r.seat has in
      let parts = fits.words.parts in
      let some : 0 < length c.popped = (let n = ap (λ (l : List Record). length l) e in omega (arith, n)) in
      let here = (fits.stamps (g.popped + g.walk + 1) (omega arith) (omega (arith, parts, some))).stands in
      let there = (fits.stamps other.0 (omega (arith, other.1)) (omega (arith, other.2, parts))).stands in
      let same : g.popped + g.walk + 1 ≡ other.0 = queued_injective _ _ (sym here ∙ ap g.standing (first.0 ∙ sym other.3) ∙ there) in
      omega (arith, same, other.1)

  -- The seat whose link is loaded next

  pub collected_unpopped : (s next : ℕ) (carrier : Carrier) → (seat c.seats s).point ≡ TakeLinkLoad carrier next → HasRecord next c.popped → ⊥
  collected_unpopped s next carrier at has =
      let here = fits_at c g s (seat c.seats s) (wake c.wakes s) (TakeLinkLoad carrier next) at (fits.each s) in
      let parts = fits.words.parts in
      let stamp = fits.stamps (g.popped + g.walk) (omega (arith, here.knows.0)) (omega (arith, parts)) in
      let d = popped_stands next has in
      let same : g.popped + g.walk ≡ d.0 = queued_injective _ _ (sym stamp.stands ∙ ap g.standing (sym here.knows.1) ∙ d.2) in
      omega (arith, same, d.1)

  pub collected_ungranted : (s next : ℕ) (carrier : Carrier) → (seat c.seats s).point ≡ TakeLinkLoad carrier next → is_grant_word (wake_word (wake c.wakes next)) ≡ false
  collected_ungranted s next carrier at =
      let here = fits_at c g s (seat c.seats s) (wake c.wakes s) (TakeLinkLoad carrier next) at (fits.each s) in
      let there = fits.each next in
      let none : grant_at g.place next ≡ None = no_grant g.place s next here.claims in
      let has = collected_linked c g fits s next carrier at in
      ap (λ (w : Wake). is_grant_word (wake_word w)) (there.woken ∙ ap (λ (o : Option ℕ). wake_by o g.place (g.standing next) next (seat c.seats next).point) none)
      ∙ no_grant_word g.place (g.standing next) next (seat c.seats next).point has
