-- How the steps of a call change the seat's own state, and that they keep what the seat knows while it holds: one step, steps in a
-- row, and the store that ends a hold.
use Rattle.std.proofs.Common.{◌≡◌, ◌≢◌, ℕ, ◌+◌, ◌<◌, Bool, true, false, Option, Some, None, length, nat_eq, refl, sym, ap, subst, ◌∙◌, arith, inl, inr, if◌then◌else◌}
use Rattle.std.proofs.lemmas.Bool.{ne_eqb}
use Rattle.lfm_model.specs.declared.answers.Asked.{Asked}
use Rattle.lfm_model.specs.declared.answers.Locked.{Locked}
use Rattle.lfm_model.specs.declared.refusals.Refusal.{Refusal}
use Rattle.lfm_words.specs.declared.pop_lists.Record.{Record}
use Rattle.lfm_words.specs.Popped.{oldest}
use Rattle.lfm_protocol.specs.declared.answers.Answer.{Answer}
use Rattle.lfm_protocol.specs.declared.answers.Turn.{Turn}
use Rattle.lfm_protocol.specs.declared.answers.Turn.TheVariants.{Open, Ended, Refused}
use Rattle.lfm_protocol.specs.declared.answers.Why.{Why}
use Rattle.lfm_protocol.specs.declared.points.Point.{Point}
use Rattle.lfm_protocol.specs.declared.points.Point.TheVariants.{ReleaseOwnerStore}
use Rattle.lfm_protocol.specs.declared.points.Releaser.{Releaser}
use Rattle.lfm_protocol.specs.declared.seats.SeatState.{SeatState}
use Rattle.lfm_protocol.specs.Begin.{Stepped}
use Rattle.lfm_laws.specs.table.Carried.{carries_value}
use Rattle.lfm_laws.specs.laws.Events.{answered_by}
use Rattle.lfm_protocol.specs.Place.{carries}
use Rattle.lfm_protocol.specs.Points.{kind}
use Rattle.lfm_laws.specs.table.Words.{stepped_by}
use Rattle.lfm_table.specs.declared.seat_view.View.{View}
use Rattle.lfm_table.specs.declared.rule.Moving.{Moving}
use Rattle.lfm_table.specs.Rule.{value_in, Hands}
use Rattle.lfm_mutex.specs.calls.Runs.{is_release}
use Rattle.lfm_table.specs.Steps.{Event, ValueGoes}
use Rattle.lfm_mutex.specs.calls.Sight.{Concludes, Stays}
use Rattle.lfm_mutex.proofs.runs.StepResults.{no_leaves, concludes}
use Rattle.lfm_table.proofs.tables.StepFacts.{left_same}

-- One step

deep_after : (x p : SeatState) (turn : Turn) → Concludes x turn p → 0 < x.depth → 0 < p.depth
deep_after x p (Ended (Answer.Asked (Asked.Again d))) c deep = let e = c.1 in let f = c.2 in omega (arith, e, f)
deep_after x p (Ended (Answer.Locked (Locked.Again d))) c deep = let e = c.1 in let f = c.2 in omega (arith, e, f)
deep_after x p (Ended (Answer.Got None)) c deep = let e = c.0 in omega (arith, e, deep)
deep_after x p (Refused (Why.By Refusal.Busy)) c deep = let e = c.0 in omega (arith, e, deep)
deep_after x p (Refused (Why.By Refusal.NotWaiting)) c deep = let e = c.0 in omega (arith, e, deep)
deep_after x p (Refused _) c deep = absurd c
deep_after x p _ c deep = let e = c.0 in omega (arith, e, deep)

none_answered : (s : ℕ) (x p : SeatState) (turn : Turn) → Concludes x turn p → 0 < x.depth → length (answered_by s turn) ≡ 0
none_answered s x p (Ended (Answer.Asked (Asked.Held how))) c deep = absurd (let e = c.0 in omega (arith, e, deep))
none_answered s x p (Ended (Answer.Locked (Locked.Held how))) c deep = absurd (let e = c.0 in omega (arith, e, deep))
none_answered s x p (Ended (Answer.Got (Some how))) c deep = absurd (let e = c.0 in omega (arith, e, deep))
none_answered s x p _ c deep = refl

carries_deep : (d : ℕ) (q : Point) → 0 < d → (if nat_eq d 0 then carries q else true) ≡ true
carries_deep d q deep = let z = ne_eqb d 0 (λ e. omega (arith, e, deep)) in rw z refl

module _ {T : Type 0} (follows : ℕ → T → T → Type 0) (suits : T → ℕ → Type 0) (s : ℕ) (p q : SeatState) (v w : View T) (a b : Option (Moving T)) (turn : Turn) (named : v.number ≡ s) (e : Event follows suits p a v turn q b w) where
  pub concludes_now : kind p.point ≢ None → is_release p.point ≡ false → Concludes p turn q
  concludes_now some keeps =
      let o = oldest e.did.popped in
      subst (λ (z : Stepped). Concludes p z.turn z.seat) (λ i. record { seat = sym e.seat_is i; turn = sym e.turn_is i })
      (concludes p v.number e.found o some keeps e.did.deep e.did.owner)

  pub stays_now : is_release p.point ≡ false → Concludes p turn q → Stays p.depth v (value_in a) w (value_in b)
  stays_now keeps c deep =
      let o = oldest e.did.popped in
      let carries_p : carries_value p ≡ true = carries_deep p.depth p.point deep in
      let carries_q : carries_value q ≡ true = carries_deep q.depth q.point (deep_after p q turn c deep) in
      let goes = subst (λ (t : Bool × Bool). ValueGoes t.0 t.1 a b w) (λ i. (carries_p i, carries_q i)) e.value in
      let hands = subst (λ (t : Bool × Bool). Hands follows suits t.0 t.1 p.point e.hand e.did.popped (v, e.slots) (w, e.slots_after)) (λ i. (carries_p i, (ap carries_value (sym e.seat_is) ∙ carries_q) i)) e.did.hands in
      let more = e.did.answered carries_p in
      let none : length (answered_by v.number (stepped_by p v.number e.found o).turn) ≡ 0 = ap (λ (t : Turn). length (answered_by v.number t)) (sym e.turn_is) ∙ none_answered v.number p q turn c deep in (
        ap value_in goes.2 ∙ sym goes.1,
        hands.1 ∙ left_same p.point e.hand v.found (no_leaves p.point keeps),
        omega (arith, more, none),
        e.did.holds carries_p ∙ left_same p.point (v.holds_ended + 1) v.holds_ended (no_leaves p.point keeps),
      )

-- Two runs

pub concludes_join : (x y p : SeatState) (turn : Turn) → Concludes x Open y → Concludes y turn p → Concludes x turn p
concludes_join x y p Open c d = (d.0 ∙ c.0, d.1 ∙ c.1, λ still. d.2 (c.2 still))
concludes_join x y p (Ended (Answer.Asked (Asked.Held how))) c d = (sym c.0 ∙ d.0, d.1, d.2 ∙ c.1, d.3)
concludes_join x y p (Ended (Answer.Asked (Asked.Again k))) c d = (subst (λ (n : ℕ). 0 < n) c.0 d.0, d.1 ∙ ap (λ (n : ℕ). n + 1) c.0, d.2, d.3 ∙ c.1, d.4)
concludes_join x y p (Ended (Answer.Asked Asked.Asleep)) c d = (sym c.0 ∙ d.0, d.1, d.2 ∙ c.1, d.3, d.4)
concludes_join x y p (Ended (Answer.Locked (Locked.Held how))) c d = (sym c.0 ∙ d.0, d.1, d.2 ∙ c.1, d.3)
concludes_join x y p (Ended (Answer.Locked (Locked.Again k))) c d = (subst (λ (n : ℕ). 0 < n) c.0 d.0, d.1 ∙ ap (λ (n : ℕ). n + 1) c.0, d.2, d.3 ∙ c.1, d.4)
concludes_join x y p (Ended (Answer.Unlocked u)) c d = (d.0 ∙ c.0, d.1 ∙ c.1, d.2, d.3)
concludes_join x y p (Ended (Answer.Waiting u)) c d = (d.0 ∙ c.0, d.1 ∙ c.1, d.2, d.3, λ still. d.4 (c.2 still))
concludes_join x y p (Ended (Answer.Got (Some how))) c d = (sym c.0 ∙ d.0, d.1, d.2 ∙ c.1, d.3)
concludes_join x y p (Ended (Answer.Got None)) c d = (d.0 ∙ c.0, d.1 ∙ c.1, d.2, d.3)
concludes_join x y p (Ended Answer.Sent) c d = (d.0 ∙ c.0, d.1 ∙ c.1, d.2)
concludes_join x y p (Refused (Why.By Refusal.Busy)) c d =
    (sym c.0 ∙ d.0, d.1, elim d.2 [ inl e ↦ inl (e ∙ c.1) | inr e ↦ inr (sym c.1 ∙ e) ], d.3)
concludes_join x y p (Refused (Why.By Refusal.NotWaiting)) c d = (d.0 ∙ c.0, d.1 ∙ c.1, d.2)
concludes_join x y p (Refused _) c d = absurd d

pub stays_join : {T : Type 0} (x y : ℕ) (u v w : View T) (a b c : Option T) → y ≡ x → Stays x u a v b → Stays y v b w c → Stays x u a w c
stays_join x y u v w a b c same first second deep =
    let f = first deep in let g = second (subst (λ (n : ℕ). 0 < n) (sym same) deep) in (g.0 ∙ f.0, g.1 ∙ f.1, g.2 ∙ f.2, g.3 ∙ f.3)

pub stays_none : {T : Type 0} (x : ℕ) (v : View T) (a : Option T) → Stays x v a v a
stays_none x v a deep = (refl, refl, refl, refl)

-- The store that ends a hold

first_turn : (x : SeatState) (s n : ℕ) (o : Option Record) (r : Releaser) → x.point ≡ ReleaseOwnerStore r → (stepped_by x s n o).turn ≡ Open
first_turn x s n o r at = rw at refl

first_seat : (x : SeatState) (s n : ℕ) (o : Option Record) (r : Releaser) → x.point ≡ ReleaseOwnerStore r → Concludes (record x { depth = 0 }) Open (stepped_by x s n o).seat
first_seat x s n o r at = rw at (refl, refl, λ still. tt)

module _ {T : Type 0} (follows : ℕ → T → T → Type 0) (suits : T → ℕ → Type 0) (p q : SeatState) (v w : View T) (a b : Option (Moving T)) (turn : Turn) (e : Event follows suits p a v turn q b w) (r : Releaser) (at : p.point ≡ ReleaseOwnerStore r) where
  pub first_opens : turn ≡ Open
  first_opens = e.turn_is ∙ first_turn p v.number e.found (oldest e.did.popped) r at

  pub first_concludes : Concludes (record p { depth = 0 }) Open q
  first_concludes = subst (λ (x : SeatState). Concludes (record p { depth = 0 }) Open x) (sym e.seat_is) (first_seat p v.number e.found (oldest e.did.popped) r at)
