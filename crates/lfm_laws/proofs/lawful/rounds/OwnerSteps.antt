-- While a seat owns, the weight is 2 and no step raises it. After a step by which a record leaves, the weight is at most 7,
-- whichever seat has to go on then: nothing is posted by that step, and a carrier or a granted seat is known by the place.
use Rattle.std.proofs.Common.{◌≡◌, ℕ, ◌≤◌, Option, Some, None, [], length, nat_eq, refl, sym, ap, ◌∙◌, inl, inr, arith}
use Rattle.std.specs.Prelude.{◌⊎◌}
use Rattle.std.proofs.lemmas.Bool.{cases_Bool, eq-eqb}
use Rattle.lfm_model.specs.Abstract.{AbstractPlace, AbstractStep, free, owner, passed, carried, brought_in}
use Rattle.lfm_model.specs.Abstract as Abstract
use Rattle.lfm_model.specs.AbstractRuns.{Case, case_of}
use Rattle.lfm_model.specs.AbstractRuns as Runs
use Rattle.lfm_model.specs.declared.answers.How.{How}
use Rattle.lfm_protocol.specs.declared.points.Entrant.{Entrant}
use Rattle.lfm_protocol.specs.declared.points.Point.{Point}
use Rattle.lfm_protocol.specs.declared.points.Point.TheVariants.{GrantWakeStore, EnterOwnerStore}
use Rattle.lfm_protocol.specs.declared.seats.SeatState.{SeatState}
use Rattle.lfm_protocol.specs.Core.{Core}
use Rattle.lfm_protocol.specs.Seats.{seat}
use Rattle.lfm_protocol.specs.Step.{made}
use Rattle.lfm_laws.specs.laws.Cases.{GoesBy}
use Rattle.lfm_laws.specs.laws.Events.{case_at, popped_at_point}
use Rattle.lfm_laws.specs.steady.Ghost as Places
use Rattle.lfm_laws.specs.steady.Ghost.{Responsibility, nobody, owned, posted, entering, accepting, leaving, serving, Ghost}
use Rattle.lfm_laws.specs.steady.EventOutcome.{abstract, abstract_place}
use Rattle.lfm_laws.specs.steady.Steady.{HasQueue, WorkFits, Fits}
use Rattle.lfm_laws.specs.steady.Views.{claim_at}
use Rattle.lfm_laws.specs.laws.TriedPosts.{SeatWillTry}
use Rattle.lfm_laws.proofs.lawful.bounds.Leaving.{size_made}
use Rattle.lfm_laws.proofs.lawful.bounds.NextPosts.{leaving_place}
use Rattle.lfm_laws.proofs.lawful.rounds.Weights.{Due, carry_weight-le, grant_weight-le, try_weight-le, leaving_weight}

-- some seat has to go on, and at most m rounds are left
pub record Near (d : Core) (h : Ghost) (m : ℕ) : Type 0 where
  pub who : ℕ
  pub due : Due d who m (abstract_place h.place)

-- Any state

near_at : (d : Core) (h : Ghost) (p : Responsibility) → h.place ≡ p → Fits d h → HasQueue h → (p ≡ posted → (u : ℕ) × SeatWillTry d u) → Near d h 7
near_at d h nobody place fits some tries =
    let none = by_work h.place place fits.words.work in
    absurd (omega (arith, some, none))
  where
    by_work : (p : Responsibility) → p ≡ nobody → WorkFits p h.asking h.pushed h.popped → h.pushed ≡ h.popped
    by_work p e work = (rw e at work).1
near_at d h (owned s again) place fits some tries = record { who = 0; due = rw place (omega arith) }
near_at d h (Places.granted s stamp) place fits some tries =
    let weight = grant_weight-le (seat d.seats s).point in record { who = s; due = rw place (refl, omega (arith, weight)) }
near_at d h posted place fits some tries =
    let one = tries refl in
    let weight = try_weight-le (seat d.seats one.0).point in
    record { who = one.0; due = rw place (one.1, omega (arith, weight)) }
near_at d h (entering s into stamp) place fits some tries =
    let weight = carry_weight-le (seat d.seats s).point in record { who = s; due = rw place (refl, omega (arith, weight)) }
near_at d h (accepting s) place fits some tries =
    let weight = carry_weight-le (seat d.seats s).point in record { who = s; due = rw place (refl, omega (arith, weight)) }
near_at d h (leaving s) place fits some tries =
    let weight = carry_weight-le (seat d.seats s).point in record { who = s; due = rw place (refl, omega (arith, weight)) }
near_at d h (serving s) place fits some tries =
    let weight = carry_weight-le (seat d.seats s).point in record { who = s; due = rw place (refl, omega (arith, weight)) }

pub near_any : (d : Core) (h : Ghost) → Fits d h → HasQueue h → (h.place ≡ posted → (u : ℕ) × SeatWillTry d u) → Near d h 7
near_any d h fits some tries = near_at d h h.place refl fits some tries

-- A record that leaves

not_brought : (s w : ℕ) → brought_in s w ≡ Abstract.posted → ⊥
not_brought s w e =
    elim (cases_Bool (nat_eq w s)) [
      | inl own ↦ let f = rw own at e in cc
      | inr other ↦ let f = rw other at e in cc
    ]

served_place : (g h : Ghost) → (step : AbstractStep (abstract g) (abstract h)) → case_of step ≡ Runs.serve → h.place ≡ posted → ⊥
served_place g h (Abstract.serve s w serves) e place = not_brought s w (sym serves.after ∙ ap abstract_place place)
served_place g h (Abstract.enter s x moves) e place = cc
served_place g h (Abstract.take_up x moves) e place = cc
served_place g h (Abstract.ask_free s x moves) e place = cc
served_place g h (Abstract.ask_joins x taken nothing joins) e place = cc
served_place g h (Abstract.queue x queues) e place = cc
served_place g h (Abstract.post s somebody moves) e place = cc
served_place g h (Abstract.take x moves) e place = cc
served_place g h (Abstract.accept x moves) e place = cc
served_place g h (Abstract.release s moves) e place = cc
served_place g h (Abstract.leave s to goes moves) e place = cc

-- a step removes no record, or it serves
pub pops_or_none : (c : Core) (s : ℕ) (x : SeatState) (p : Point) → (popped_at_point s p ≡ []) ⊎ ((length (popped_at_point s p) ≡ 1) × (case_at c s x p ≡ Some Runs.serve))
pops_or_none c s x (GrantWakeStore carrier oldest) = inr (refl, refl)
pops_or_none c s x (EnterOwnerStore Entrant.Locker (How.Queued stamp)) = inr (refl, refl)
pops_or_none c s x (EnterOwnerStore Entrant.Locker How.Free) = inl refl
pops_or_none c s x (EnterOwnerStore Entrant.Trier how) = inl refl
pops_or_none c s x (EnterOwnerStore Entrant.Receiver how) = inl refl
pops_or_none c s x _ = inl refl

pub near_served : (d : Core) (g h : Ghost) (k : Option Case) → Fits d h → HasQueue h → k ≡ Some Runs.serve → GoesBy k (abstract g) (abstract h) → Near d h 7
near_served d g h (Some case) fits some serves goes =
    near_any d h fits some (λ place. absurd (served_place g h goes.0 (goes.1 ∙ cc) place))
near_served d g h None fits some serves goes = absurd (cc)

-- A seat that owns

owner_same : (c : Core) (g h : Ghost) (t s m : ℕ) → abstract_place g.place ≡ owner s → 2 ≤ m → abstract_place h.place ≡ abstract_place g.place → Near (made c t).core h m
owner_same c g h t s m place more stays = let size = size_made c t in record { who = 0; due = rw (stays, place) (omega (arith, size, more)) }

owner_step : (c : Core) (g h : Ghost) (t s m : ℕ) → abstract_place g.place ≡ owner s → 2 ≤ m → Fits (made c t).core h → AbstractStep (abstract g) (abstract h)
    → Near (made c t).core h m
owner_step c g h t s m place more after (Abstract.ask_joins x taken nothing joins) = owner_same c g h t s m place more joins.place
owner_step c g h t s m place more after (Abstract.queue x queues) = owner_same c g h t s m place more queues.place
owner_step c g h t s m place more after (Abstract.release x moves) =
    let size = size_made c t in
    let here = leaving_place h.place x moves.after in
    let claims : claim_at (seat (made c t).core.seats x).depth x (seat (made c t).core.seats x).point ≡ leaving x = (after.each x).claims ∙ rw (here, eq-eqb x x refl) refl in
    let weight = leaving_weight (seat (made c t).core.seats x).depth x (seat (made c t).core.seats x).point claims in
    record { who = x; due = rw moves.after (refl, omega (arith, weight, size, more)) }
owner_step c g h t s m place more after (Abstract.take_up x moves) = absurd (let e : passed x ≡ owner s = sym moves.before ∙ place in cc)
owner_step c g h t s m place more after (Abstract.ask_free u x moves) = absurd (let e : free ≡ owner s = sym moves.before ∙ place in cc)
owner_step c g h t s m place more after (Abstract.serve u w serves) = absurd (let e : carried u Abstract.serving ≡ owner s = sym serves.before ∙ place in cc)
owner_step c g h t s m place more after (Abstract.post u somebody moves) = absurd (let e : carried u Abstract.serving ≡ owner s = sym moves.before ∙ place in cc)
owner_step c g h t s m place more after (Abstract.take x moves) = absurd (let e : Abstract.posted ≡ owner s = sym moves.before ∙ place in cc)
owner_step c g h t s m place more after (Abstract.accept x moves) = absurd (let e : Abstract.posted ≡ owner s = sym moves.before ∙ place in cc)
owner_step c g h t s m place more after (Abstract.enter u x moves) = absurd (let e : carried u (Abstract.entering x) ≡ owner s = sym moves.before ∙ place in cc)
owner_step c g h t s m place more after (Abstract.leave u to goes moves) = absurd (let e : carried u Abstract.leaving ≡ owner s = sym moves.before ∙ place in cc)

pub owner_case : (c : Core) (g h : Ghost) (t s m : ℕ) (k : Option Case) → abstract_place g.place ≡ owner s → 2 ≤ m → Fits (made c t).core h → GoesBy k (abstract g) (abstract h)
    → Near (made c t).core h m
owner_case c g h t s m None place more after goes = owner_same c g h t s m place more goes.place
owner_case c g h t s m (Some case) place more after goes = owner_step c g h t s m place more after goes.0
