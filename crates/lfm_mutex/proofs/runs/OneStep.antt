-- One turn of a seat by `start` or `next`, between two sights of it.
use Rattle.std.proofs.Common.{◌≡◌, ◌≢◌, ◌⊎◌, ℕ, ◌+◌, ◌<◌, true, false, Option, Some, None, refl, sym, ap, subst, ◌∙◌, arith, inl, inr}
use Rattle.std.proofs.lemmas.Bool.{cases_eq, false≢true}
use Rattle.lfm_table.specs.Table.{Me}
use Rattle.lfm_model.specs.declared.answers.Asked.{Asked}
use Rattle.lfm_model.specs.declared.answers.How.{How}
use Rattle.lfm_model.specs.declared.answers.Locked.{Locked}
use Rattle.lfm_model.specs.declared.refusals.Refusal.{Refusal}
use Rattle.lfm_words.specs.Popped.{oldest}
use Rattle.lfm_protocol.specs.declared.answers.Answer.{Answer}
use Rattle.lfm_protocol.specs.declared.answers.Turn.{Turn}
use Rattle.lfm_protocol.specs.declared.answers.Turn.TheVariants.{Ended, Refused}
use Rattle.lfm_protocol.specs.declared.answers.Why.{Why}
use Rattle.lfm_protocol.specs.declared.kinds.Kind.{Kind}
use Rattle.lfm_protocol.specs.declared.limits.Limits.{Limits}
use Rattle.lfm_protocol.specs.declared.points.Point.{Point}
use Rattle.lfm_protocol.specs.declared.points.Point.TheVariants.{ReleaseOwnerStore}
use Rattle.lfm_protocol.specs.declared.points.Releaser.{Releaser}
use Rattle.lfm_protocol.specs.declared.seats.SeatState.{SeatState}
use Rattle.lfm_protocol.specs.Points.{kind}
use Rattle.lfm_laws.specs.steady.Steady.{DepthAt}
use Rattle.lfm_laws.specs.table.Carried.{carries_value}
use Rattle.lfm_laws.specs.table.Words.{stepped_by}
use Rattle.lfm_table.specs.declared.seat_view.View.{View}
use Rattle.lfm_table.specs.declared.rule.Moving.{Moving}
use Rattle.lfm_table.specs.Rule.{value_in, LastHold, last_hold, is_carried}
use Rattle.lfm_table.specs.Seats.{Seated}
use Rattle.lfm_table.specs.Settled.{Became}
use Rattle.lfm_table.specs.Steps.{Event, StepLeadsTo, MayBeLeft}
use Rattle.lfm_mutex.specs.calls.Runs.{how_held, is_release}
use Rattle.lfm_mutex.specs.calls.Sight.{Sight, sight_of, is_asleep, is_in_call, sends_of, Concludes, Finds, MayLeave}
use Rattle.lfm_mutex.specs.calls.SeatSteps.{Steps, KeepsValue, StepsOn, stores_owner}
use Rattle.lfm_mutex.proofs.ends.OwnerLoads.{depth_seen}
use Rattle.lfm_mutex.proofs.runs.StepResults.{how_enters}
use Rattle.lfm_mutex.proofs.runs.Running.{holds_now, last_one, last_more, ran_none}
use Rattle.lfm_mutex.proofs.runs.Conclusions.{concludes_now, stays_now, stays_none, first_concludes}
use Rattle.lfm_mutex.proofs.runs.SightParts.{same_but, deep_by, flat_by, may_leave}
use Rattle.lfm_mutex.proofs.runs.EndSights.{finds}

abbrev Both : ℕ → ℕ → Type 0
Both d k = ((d ≡ 0) × (k ≡ 0)) ⊎ ((0 < d) × (0 < k))

both_same : (d k : ℕ) → k ≡ d → Both d k
both_same d k same = elim (cases_eq d 0) [ inl z ↦ inl (z, same ∙ z) | inr some ↦ inr (omega (arith, some), omega (arith, some, same)) ]

-- By cases on the turn: after a step by which the seat acquires nothing, it holds exactly if it held before.
both : (x p : SeatState) (turn : Turn) → Concludes x turn p → how_held turn ≡ None → Both x.depth p.depth
both x p (Ended (Answer.Asked (Asked.Held how))) c none = absurd (cc)
both x p (Ended (Answer.Asked (Asked.Again d))) c none = let e = c.0 in let f = c.1 in let g = c.2 in inr (e, omega (arith, e, f, g))
both x p (Ended (Answer.Asked Asked.Asleep)) c none = inl (c.0, c.1)
both x p (Ended (Answer.Locked (Locked.Held how))) c none = absurd (cc)
both x p (Ended (Answer.Locked (Locked.Again d))) c none = let e = c.0 in let f = c.1 in let g = c.2 in inr (e, omega (arith, e, f, g))
both x p (Ended (Answer.Got (Some how))) c none = absurd (cc)
both x p (Refused (Why.By Refusal.Busy)) c none = inl (c.0, c.1)
both x p (Refused (Why.By Refusal.NotWaiting)) c none = both_same x.depth p.depth c.0
both x p (Refused _) c none = absurd c
both x p _ c none = both_same x.depth p.depth c.0

release_of : (q : Point) → is_release q ≡ true → (r : Releaser) × (q ≡ ReleaseOwnerStore r)
release_of (ReleaseOwnerStore r) e = (r, refl)
release_of _ e = absurd (false≢true e)

module _ {T : Type 0} (follows : ℕ → T → T → Type 0) (fits : T → ℕ → Type 0) (n n' : ℕ) (l : Limits) (p q : SeatState) (m : Me (Option (Moving T)) (View T)) (w : View T) (a b : Option (Moving T)) (turn : Turn) (was : Seated n l p m a) (number : n' ≡ n) (e : Event follows fits p a m.0 turn q b w) where
  abbrev S : Sight T
  S = sight_of n p m.0 (value_in a)

  abbrev S' : Sight T
  S' = sight_of n' q w (value_in b)

  steps : Steps p S turn q S'
  steps = let o = oldest e.did.popped in (
    e.found,
    o,
    e.turn_is ∙ ap (λ (k : ℕ). (stepped_by p k e.found o).turn) was.named,
    e.seat_is ∙ ap (λ (k : ℕ). (stepped_by p k e.found o).seat) was.named,
    number,
    refl,
    refl,
    e.did.trail,
  )

  gains : (how : How) → how_held turn ≡ Some how → Finds follows fits how S S'
  gains how is =
      let o = oldest e.did.popped in
      let by = how_enters p m.0.number e.found o how (ap how_held (sym e.turn_is) ∙ is) in
      let flat : p.depth ≡ 0 = subst (λ (x : Point). DepthAt p.depth x) by.1 e.did.deep in
      finds follows fits n n' l p p q m.0 w a b number how flat (holds_now follows fits n l p q m w a b turn (last_hold m.0) was refl e how is)

  leaves : is_release p.point ≡ true → (S'.last ≡ S.value) × (S'.found ≡ S.found) × (S'.ended ≡ S.holds_ended + 1)
  leaves is =
      let r = release_of p.point is in
      let deep : p.depth ≡ 1 = subst (λ (x : Point). DepthAt p.depth x) r.1 e.did.deep in
      let after = first_concludes follows fits p q m.0 w a b turn e r.0 r.1 in
      let ends = last_one follows fits n p q m.0 w a b turn was.named e r.0 r.1 in
      let some : 0 < p.depth = omega (arith, deep) in (
        flat_by q.depth w.last w.found after.0 ∙ (ap (λ (t : LastHold T). t.0) ends ∙ sym (deep_by p.depth None (value_in a) some)),
        flat_by q.depth w.last_found w.found after.0 ∙ (ap (λ (t : LastHold T). t.1) ends ∙ sym (deep_by p.depth m.0.last_found m.0.found some)),
        ap (λ (t : LastHold T). t.3) ends ∙ ap (λ (k : ℕ). k + 1) (sym (deep_by p.depth 0 m.0.holds_ended some)),
      )

  keeps : kind p.point ≢ None → is_release p.point ≡ false → how_held turn ≡ None → S' ≡ record S { depth = S'.depth; takes = S'.takes; asleep = S'.asleep; in_call = S'.in_call; trail = S'.trail; sends = S'.sends }
  keeps some stays none =
      let told = concludes_now follows fits n p q m.0 w a b turn was.named e some stays in
      same_but n n' p q m.0 w (value_in a) (value_in b) q.depth q.takes (is_asleep q.point) (is_in_call q.point) (sends_of w.trail) number refl refl refl refl refl
      (last_more follows fits n p m.0 p q m.0 w a b turn (ran_none n p m.0) was.named e stays) (stays_now follows fits n p q m.0 w a b turn was.named e stays told) (both p q turn told none)

  pub told : kind p.point ≢ None → Steps p S turn q S' × KeepsValue follows fits p S turn S'
  told some = (steps, record { gains = gains; leaves = leaves; keeps = keeps some })

pub steps_on : {T : Type 0} (follows : ℕ → T → T → Type 0) (fits : T → ℕ → Type 0) (k : Option Kind) (n n' : ℕ) (l : Limits) (p q : SeatState) (m m' : Me (Option (Moving T)) (View T)) (a b : Option (Moving T)) (turn : Turn) → Seated n l p m a → n' ≡ n → kind p.point ≡ k
    → StepLeadsTo k follows fits p a m turn q b m' → StepsOn follows fits k p (sight_of n p m.0 (value_in a)) turn q (sight_of n' q m'.0 (value_in b))
steps_on follows fits None n n' l p q m m' a b turn was number is event =
    (event.0, event.1, λ i. sight_of (number i) (event.1 i) (event.3 i).0 (value_in (event.2 i)))
steps_on follows fits (Some k) n n' l p q m m' a b turn was number is event =
    told follows fits n n' l p q m m'.0 a b turn was number event (λ z. let f : Some k ≡ None = sym is ∙ z in absurd (cc))

-- a step of any other kind than a store of the owner word ends no hold
pub keeps_at : (k : Kind) (q : Point) → kind q ≡ Some k → stores_owner k ≡ false → is_release q ≡ false
keeps_at k (ReleaseOwnerStore r) is keeps = let same : Kind.OwnerStore ≡ k = cc in absurd (false≢true (sym keeps ∙ ap stores_owner (sym same)))
keeps_at k _ is keeps = refl

-- that the seat may leave its value is stated about the sight, and required of the seat
pub leaves_at : {T : Type 0} (follows : ℕ → T → T → Type 0) (fits : T → ℕ → Type 0) (n : ℕ) (l : Limits) (p : SeatState) (m : Me (Option (Moving T)) (View T)) (a : Option (Moving T)) → Seated n l p m a
    → (is_release p.point ≡ true → MayLeave follows fits (sight_of n p m.0 (value_in a))) → (r : Releaser) → p.point ≡ ReleaseOwnerStore r → MayBeLeft follows fits a m.0
leaves_at follows fits n l p m a was may r at = elim (cases_eq p.depth 0) [
  | inl flat ↦ λ x is. let none : carries_value p ≡ false = rw (at, flat) refl in absurd (false≢true (sym none ∙ (sym was.moved ∙ ap is_carried is)))
  | inr some ↦ may_leave follows fits n p m.0 a was.named (omega (arith, some)) (may (ap is_release at))
]

-- the start of a call changes in the sight only the depth, the takes, and whether the seat sleeps or is in a call
pub begins_seen : {T : Type 0} (n n' : ℕ) (l : Limits) (p q : SeatState) (v v' : View T) (a a' : Option (Moving T)) → Became v.state l p → Became v.state l q → n' ≡ n → v' ≡ v → a' ≡ a
    → sight_of n' q v' (value_in a') ≡ record (sight_of n p v (value_in a)) { depth = q.depth; takes = q.takes; asleep = is_asleep q.point; in_call = is_in_call q.point }
begins_seen {T} n n' l p q v v' a a' was is number view value =
    let before = depth_seen v.state l p was in let after = depth_seen v.state l q is in
    let level : Both p.depth q.depth = elim (cases_eq p.depth 0) [
      | inl z ↦ inl (z, elim (cases_eq q.depth 0) [ inl y ↦ y | inr some ↦ absurd (let h = before.1 (after.0 (omega (arith, some))) in omega (arith, h, z)) ])
      | inr some ↦ inr (omega (arith, some), after.1 (before.0 (omega (arith, some))))
    ]
    in
    ap (λ (t : View T × Option (Moving T)). sight_of n' q t.0 (value_in t.1)) (λ i. (view i, value i))
    ∙ same_but n n' p q v v (value_in a) (value_in a) q.depth q.takes (is_asleep q.point) (is_in_call q.point) (sends_of v.trail) number refl refl refl refl refl refl (stays_none p.depth v (value_in a)) level
