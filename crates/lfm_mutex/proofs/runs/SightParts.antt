-- The parts of a seat's sight: those that depend on whether the seat holds, and those that a new seat and a load for `owner`
-- have.
use Rattle.std.proofs.Common.{◌≡◌, ◌⊎◌, ℕ, zero, suc, ◌<◌, ◌≤◌, Bool, false, Option, Some, None, List, [], ◌∷◌, ◌++◌, refl, sym, ap, subst, ◌∙◌, arith, inl, inr, append-nil}
use Rattle.std.specs.Prelude.{◌↔◌, IsSome, IfSome}
use Rattle.std.proofs.lemmas.Bool.{false≢true}
use Rattle.lfm_table.specs.Table.{Me}
use Rattle.lfm_model.specs.SeatNumbers.{max_seat_no, IsSeatNo}
use Rattle.lfm_protocol.specs.declared.limits.Limits.{Limits}
use Rattle.lfm_protocol.specs.declared.points.Point.TheVariants.{TryOwnerLoad}
use Rattle.lfm_protocol.specs.declared.seats.SeatState.{SeatState}
use Rattle.lfm_table.specs.declared.seat_view.View.{View}
use Rattle.lfm_table.specs.declared.rule.Moving.{Moving}
use Rattle.lfm_table.specs.Rule.{value_in, LastHold, last_hold, seen}
use Rattle.lfm_table.specs.Steps.{MayBeLeft}
use Rattle.lfm_mutex.specs.calls.Sight.{sight_of, by_depth, is_asleep, is_in_call, sends_of, MayLeave, Stays, new_sight, Names}
use Rattle.lfm_mutex.specs.Fresh.{Fresh}
use Rattle.lfm_mutex.proofs.runs.SendFacts.{sends_join}

pub deep_by : {A : Type 0} (d : ℕ) (x y : A) → 0 < d → by_depth d x y ≡ y
deep_by zero x y deep = absurd (omega (arith, deep))
deep_by (suc d) x y deep = refl

pub flat_by : {A : Type 0} (d : ℕ) (x y : A) → d ≡ 0 → by_depth d x y ≡ x
flat_by zero x y flat = refl
flat_by (suc d) x y flat = absurd (omega (arith, flat))

module _ {T : Type 0} (n n' : ℕ) (p p' : SeatState) (v v' : View T) (a a' : Option T) where
  abbrev Level : Type 0
  Level = ((p.depth ≡ 0) × (p'.depth ≡ 0)) ⊎ ((0 < p.depth) × (0 < p'.depth))

  -- a part of the sight that depends on whether the seat holds
  by_level : {A : Type 0} (out deep out' deep' : A) → Level → (p.depth ≡ 0 → out' ≡ out) → (0 < p.depth → deep' ≡ deep) → by_depth p'.depth out' deep' ≡ by_depth p.depth out deep
  by_level out deep out' deep' level flat held = elim level [
    | inl f ↦ flat_by p'.depth out' deep' f.1 ∙ (flat f.0 ∙ sym (flat_by p.depth out deep f.0))
    | inr f ↦ deep_by p'.depth out' deep' f.1 ∙ (held f.0 ∙ sym (deep_by p.depth out deep f.0))
  ]

  -- a call that neither acquires nor gives up the mutex
  pub same_but : (d k : ℕ) (asleep in_call : Bool) (sends : List ℕ) → n' ≡ n → p'.depth ≡ d → p'.takes ≡ k → is_asleep p'.point ≡ asleep → is_in_call p'.point ≡ in_call → sends_of v'.trail ≡ sends
      → last_hold v' ≡ last_hold v → Stays p.depth v a v' a' → Level
      → sight_of n' p' v' a' ≡ record (sight_of n p v a) { depth = d; takes = k; asleep = asleep; in_call = in_call; trail = v'.trail; sends = sends }
  same_but d k asleep in_call sends number depth takes asleep_is in_call_is sends_are last stays level =
      let lasts = by_level v.last v.found v'.last v'.found level (λ _. ap (λ (t : LastHold T). t.0) last) (λ deep. (stays deep).1) in
      let founds = by_level v.last_found v.found v'.last_found v'.found level (λ _. ap (λ (t : LastHold T). t.1) last) (λ deep. (stays deep).1) in
      let values = by_level None a None a' level (λ _. refl) (λ deep. (stays deep).0) in
      let queued = by_level 0 v.answered 0 v'.answered level (λ _. refl) (λ deep. (stays deep).2) in
      let holds = by_level 0 v.holds_ended 0 v'.holds_ended level (λ _. refl) (λ deep. (stays deep).3) in
      λ i. record { number = number i; seats = ap (λ (t : LastHold T). t.2.seats) last i; depth = depth i; takes = takes i; asleep = asleep_is i; in_call = in_call_is i; last = lasts i; found = founds i; ended = ap (λ (t : LastHold T). t.3) last i; holds_ended = holds i; value = values i; queued = queued i; trail = v'.trail; sends = sends_are i }

-- that the seat may leave its value, from what is said of its sight
pub may_leave : {T : Type 0} (follows : ℕ → T → T → Type 0) (fits : T → ℕ → Type 0) (n : ℕ) (p : SeatState) (v : View T) (a : Option (Moving T)) → v.number ≡ n → 0 < p.depth → MayLeave follows fits (sight_of n p v (value_in a)) → MayBeLeft follows fits a v
may_leave {T} follows fits n p v a named deep may x is =
    let m = may x.value (deep_by p.depth None (value_in a) deep ∙ ap value_in is) in (
      subst (λ (k : ℕ). fits x.value k) (deep_by p.depth 0 v.answered deep) m.0,
      λ y found. subst (λ (k : ℕ). follows k y x.value) (sym named) (m.1 y (deep_by p.depth v.last v.found deep ∙ found)),
    )

-- A new seat, and a load for `owner`

pub fresh_sight : {T : Type 0} (x : T) (k n : ℕ) (l : Limits) (p : SeatState) (m : Me (Option (Moving T)) (View T)) (a : Option (Moving T)) (all : Limits) → Fresh x k n l p m a all → sight_of n p m.0 (value_in a) ≡ new_sight x all.seats k
fresh_sight {T} x k n l p m a all f =
    ap (λ (t : ℕ × SeatState × Option (Moving T)). sight_of t.0 t.1 m.0 (value_in t.2)) (λ i. (f.0 i, f.2 i, f.3 i))
    ∙ (λ i. record { number = k; seats = (f.7 i).seats; depth = 0; takes = 0; asleep = false; in_call = false; last = f.5 i; found = f.6 i; ended = f.8 i; holds_ended = 0; value = None; queued = 0; trail = f.4 i; sends = sends_of (f.4 i) })

pub owner_read_sight : {T : Type 0} (n k : ℕ) (p : SeatState) (v w : View T) (a : Option T) → w ≡ record v { trail = v.trail ++ seen TryOwnerLoad k ∷ []; actions = w.actions } → sight_of n p w a ≡ record (sight_of n p v a) { trail = v.trail ++ seen TryOwnerLoad k ∷ [] }
owner_read_sight {T} n k p v w a is =
    let sends : sends_of (v.trail ++ seen TryOwnerLoad k ∷ []) ≡ sends_of v.trail = sends_join v.trail (seen TryOwnerLoad k ∷ []) ∙ append-nil (sends_of v.trail) in
    ap (λ (z : View T). sight_of n p z a) is ∙ (λ i. record (sight_of n p v a) { trail = v.trail ++ seen TryOwnerLoad k ∷ []; sends = sends i })

some_number : (k n : ℕ) → Some k ≡ Some n → k ≡ n
some_number k n e = cc

pub owner_told : (r : Option ℕ) (n number d : ℕ) → IsSome r ↔ IsSeatNo n → IfSome r (λ s. s ≡ n) → 0 < number → number ≤ max_seat_no → (n ≡ number → 0 < d) → (0 < d → n ≡ number)
    → Names r n × (r ≡ Some number → 0 < d) × (0 < d → r ≡ Some number)
owner_told None n number d valid value low high mine only =
    (λ h. false≢true (valid.1 h), λ e. absurd (cc), λ deep. let is = only deep in absurd (false≢true (valid.1 (omega (arith, is, low), omega (arith, is, high)))))
owner_told (Some k) n number d valid value low high mine only =
    (value, λ e. mine (sym value ∙ some_number k number e), λ deep. ap Some (value ∙ only deep))
