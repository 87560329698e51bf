-- The abstract mutex of a ghost, and the parts of its steps.
use Rattle.std.proofs.Common.{◌≡◌, ◌≢◌, ◌⊎◌, ℕ, zero, suc, Bool, true, false, cond, eqb, ◌+◌, ◌-◌, ◌<◌, ◌≤◌, None, Some, [], ◌∷◌, ◌++◌, map, length, refl, sym, ap, ◌∙◌, inl, inr, arith}
use Rattle.std.proofs.lemmas.Bool.{cases_eq, cases_lt, ne_eqb, eq-eqb, cond-true, false_from_ne_true, or_from}
use Rattle.std.proofs.lemmas.List.{map-append}
use Rattle.std.proofs.Math.Bool.{or-true}
use Rattle.std.specs.List.{list_any}
use Rattle.lfm_model.specs.Abstract.{HasNothing, HasNobody, HasSomebody, waits, names}
use Rattle.lfm_model.specs.AbstractRuns.{IsSame}
use Rattle.lfm_words.specs.declared.pop_lists.Record.{Record}
use Rattle.lfm_protocol.specs.Core.{Core}
use Rattle.lfm_laws.specs.steady.Ghost.{Responsibility, nobody, owned, granted, posted, entering, accepting, leaving, serving, Standing, apart, claimed, asks, queued, Ghost}
use Rattle.lfm_laws.specs.steady.Numbered.{records, changed}
use Rattle.lfm_laws.specs.steady.EventOutcome.{abstract, abstract_place, queue_of_ghost}
use Rattle.lfm_protocol.specs.Seats.{seat, absent}
use Rattle.lfm_laws.specs.steady.Steady.{Fits, asking_unit}
use Rattle.lfm_laws.specs.steady.Views.{is_asking, is_queued, held_by, grant_at, is_entered}
use Rattle.lfm_laws.proofs.steady.frames.Entries.{seat_or_absent}
use Rattle.lfm_laws.proofs.steady.frames.Histories.{records_agree, records_snoc}
use Rattle.lfm_laws.proofs.steady.frames.Sums.{changed_same, changed_other, sum_member, sum_witness}

pub stays_same : (g h : Ghost) → abstract_place h.place ≡ abstract_place g.place → ((x : ℕ) → is_asking (h.standing x) ≡ is_asking (g.standing x))
    → queue_of_ghost h ≡ queue_of_ghost g → IsSame (abstract g) (abstract h)
stays_same g h place asking queue =
    record { place = place; asking = asking; waiting = ap (map (λ (r : Record). r.seat)) queue }

-- a push adds its seat at the end of the queue
pub queue_pushes : (g h : Ghost) (u : ℕ) → g.popped ≤ g.pushed → h.pushed_at ≡ changed g.pushed_at (g.pushed + 1) u → h.pushed ≡ g.pushed + 1 → h.popped ≡ g.popped
    → (abstract h).waiting ≡ (abstract g).waiting ++ u ∷ []
queue_pushes g h u most at pushed popped =
    let f : ℕ → ℕ = changed g.pushed_at (g.pushed + 1) u in
    let n : ℕ = g.pushed - g.popped in
    let more : g.pushed + 1 - g.popped ≡ n + 1 = omega arith in
    let last : g.popped + n + 1 ≡ g.pushed + 1 = omega arith in
    let newest : f (g.pushed + 1) ≡ u = changed_same g.pushed_at (g.pushed + 1) u in
    let before = records_agree g.pushed_at f g.popped n (λ x above within. changed_other g.pushed_at (g.pushed + 1) x u (omega arith)) in
    let all : records f g.popped (n + 1) ≡ records g.pushed_at g.popped n ++ record { seat = u; stamp = g.pushed + 1 } ∷ [] =
    records_snoc f g.popped n ∙ rw (last, before, newest) in
    rw (at, pushed, popped, more) (ap (map (λ (r : Record). r.seat)) all ∙ map-append (λ (r : Record). r.seat) (records g.pushed_at g.popped n) (record { seat = u; stamp = g.pushed + 1 } ∷ []))

-- a pop removes the first seat
pub queue_pops : (g h : Ghost) → g.popped < g.pushed → h.pushed_at ≡ g.pushed_at → h.pushed ≡ g.pushed → h.popped ≡ g.popped + 1
    → (abstract g).waiting ≡ g.pushed_at (g.popped + 1) ∷ (abstract h).waiting
queue_pops g h some at pushed popped =
    let fewer : g.pushed - g.popped ≡ suc (g.pushed - (g.popped + 1)) = omega arith in
    rw (at, pushed, popped, fewer)

-- a seat is among the records if one of them is its own
abbrev pub is_among : (ℕ → ℕ) → ℕ → ℕ → ℕ → Bool
is_among f k n x = list_any (λ w. eqb w x) (map (λ r. r.seat) (records f k n))

is_among_one : (f : ℕ → ℕ) (k n x stamp : ℕ) → k < stamp → stamp ≤ k + n → f stamp ≡ x → is_among f k n x ≡ true
is_among_one f k zero x stamp above within here = absurd (omega arith)
is_among_one f k (suc n) x stamp above within here =
    elim (cases_eq stamp (k + 1)) [
      | inl first ↦ rw (eq-eqb (f (k + 1)) x (rw first at here))
      | inr later ↦ rw (is_among_one f (k + 1) n x stamp (omega arith) (omega arith) here) (or-true (eqb (f (k + 1)) x))
    ]

is_among_none : (f : ℕ → ℕ) (k n x : ℕ) → ((stamp : ℕ) → k < stamp → stamp ≤ k + n → f stamp ≢ x) → is_among f k n x ≡ false
is_among_none f k zero x none = refl
is_among_none f k (suc n) x none =
    rw (ne_eqb (f (k + 1)) x (none (k + 1) (omega arith) (omega arith)))
    (is_among_none f (k + 1) n x (λ stamp above within. none stamp (omega arith) (omega arith)))

-- a standing is queued with some stamp, or not queued
pub queued_or : (standing : Standing) → ((stamp : ℕ) × (standing ≡ queued stamp)) ⊎ (is_queued standing ≡ false)
queued_or apart = inr refl
queued_or (claimed agent) = inr refl
queued_or (asks agent) = inr refl
queued_or (queued stamp) = inl (stamp, refl)

-- a seat waits in the abstract mutex exactly if its standing is queued
pub waits_of : (c : Core) (g : Ghost) → Fits c g → (x : ℕ) → waits (abstract g) x ≡ is_queued (g.standing x)
waits_of c g fits x =
    let parts : g.popped ≤ g.pushed = omega (arith, fits.words.parts) in
    elim (queued_or (g.standing x)) [
      | inl stands ↦
          let listed = (fits.each x).listed stands.0 stands.1 in
          rw stands.1 (is_among_one g.pushed_at g.popped (g.pushed - g.popped) x stands.0 listed.above (omega (arith, listed.within)) listed.here)
      | inr away ↦
          rw away (is_among_none g.pushed_at g.popped (g.pushed - g.popped) x (λ stamp above within here.
          let stands = (fits.stamps stamp above (omega arith)).stands in
          let same : g.standing x ≡ queued stamp = rw here at stands in
          let is : is_queued (g.standing x) ≡ true = rw same in
          cc))
    ]

-- a unit above 0 is one
is_one : (b : Bool) → 0 < cond b 1 0 → b ≡ true
is_one true some = refl
is_one false some = absurd (omega arith)

is_zero : (b : Bool) → cond b 1 0 ≤ 0 → b ≡ false
is_zero true none = absurd (omega arith)
is_zero false none = refl

-- some seat asks or is queued
pub somebody : (c : Core) (g : Ghost) → Fits c g → g.popped < g.asking + g.pushed → HasSomebody (abstract g)
somebody c g fits work =
    elim (cases_lt g.popped g.pushed) [
      | inl some ↦
          let stands = (fits.stamps (g.popped + 1) (omega arith) (omega arith)).stands in
          let first : ℕ = g.pushed_at (g.popped + 1) in
          let is : is_queued (g.standing first) ≡ true = rw stands in
          (first, inr (waits_of c g fits first ∙ is))
      | inr empty ↦
          let one = sum_witness (length c.seats) (λ s. asking_unit (g.standing s)) (omega (arith, fits.sums.asking)) in
          (one.0, inl (is_one (is_asking (g.standing one.0)) one.3))
    ]

-- a number that no seat has is apart
pub absent_stands_apart : (c : Core) (g : Ghost) → Fits c g → (x : ℕ) → seat c.seats x ≡ absent → g.standing x ≡ apart
absent_stands_apart c g fits x none = (rw none at (fits.each x)).stands

pub nobody_asks : (c : Core) (g : Ghost) → Fits c g → g.asking ≡ 0 → (x : ℕ) → is_asking (g.standing x) ≡ false
nobody_asks c g fits none x =
    elim (seat_or_absent c.seats x) [
      | inl is ↦
          let unit = sum_member (length c.seats) x (λ s. asking_unit (g.standing s)) is.above is.within in
          is_zero (is_asking (g.standing x)) (omega (arith, fits.sums.asking))
      | inr absent ↦ rw (absent_stands_apart c g fits x absent)
    ]

pub nobody_left : (c : Core) (g : Ghost) → Fits c g → g.asking ≡ 0 → g.pushed ≡ g.popped → HasNobody (abstract g)
nobody_left c g fits none empty =
    let rest : g.pushed - g.popped ≡ 0 = omega arith in
    record { asking = nobody_asks c g fits none; waiting = rw rest }

holder_none : (t s : ℕ) (p : Responsibility) → p ≢ nobody → cond (eqb t s) p nobody ≡ nobody → eqb t s ≡ false
holder_none t s p some none = false_from_ne_true (eqb t s) (λ same. some (sym (cond-true (eqb t s) p nobody same) ∙ none))

pub names_none : (p : Responsibility) (x : ℕ) → held_by p x ≡ nobody → grant_at p x ≡ None → is_entered p x ≡ false → names (abstract_place p) x ≡ false
names_none nobody x held grant entered = refl
names_none (owned t again) x held grant entered = holder_none t x (owned t again) (λ e. cc) held
names_none (granted t stamp) x held grant entered =
    false_from_ne_true (eqb t x) (λ same. let some = sym (cond-true (eqb t x) (Some stamp) None same) ∙ grant in cc)
names_none posted x held grant entered = refl
names_none (entering t into stamp) x held grant entered = or_from (eqb t x) (eqb into x) (holder_none t x (entering t into stamp) (λ e. cc) held) entered
names_none (accepting t) x held grant entered =
    let other = holder_none t x (accepting t) (λ e. cc) held in
    or_from (eqb t x) (eqb t x) other other
names_none (leaving t) x held grant entered = or_from (eqb t x) false (holder_none t x (leaving t) (λ e. cc) held) refl
names_none (serving t) x held grant entered = or_from (eqb t x) false (holder_none t x (serving t) (λ e. cc) held) refl

pub nothing_of : (c : Core) (g : Ghost) → Fits c g → (x : ℕ) → is_asking (g.standing x) ≡ false → is_queued (g.standing x) ≡ false
    → held_by g.place x ≡ nobody → grant_at g.place x ≡ None → is_entered g.place x ≡ false → HasNothing (abstract g) x
nothing_of c g fits x asking waiting held grant entered =
    record {
      place = names_none g.place x held grant entered;
      asking = asking;
      waiting = waits_of c g fits x ∙ waiting;
    }

pub stamp_of_queued : (standing : Standing) → is_queued standing ≡ true → (stamp : ℕ) × (standing ≡ queued stamp)
stamp_of_queued apart is = absurd (cc)
stamp_of_queued (claimed agent) is = absurd (cc)
stamp_of_queued (asks agent) is = absurd (cc)
stamp_of_queued (queued stamp) is = (stamp, refl)
