-- The seat's own methods at the points of the fast paths, as equations.
use Rattle.std.proofs.Common.{◌≡◌, ◌≢◌, ℕ, ◌+◌, ◌-◌, ◌<◌, ◌≤◌, nat_eq, nat_lt, sym, refl, ap, ◌∙◌, subst, arith, tests, Option}
use Rattle.std.specs.Prelude.{true, false}
use Rattle.std.proofs.lemmas.Bool.{ne_eqb, eq-eqb, false≢true, not-true, not-false}
use Rattle.lfm_table.specs.Table.{Me}
use Rattle.lfm_model.specs.declared.answers.How.{How}
use Rattle.lfm_words.specs.declared.pop_lists.Record.{Record}
use Rattle.lfm_words.specs.Words.{is_posted_word}
use Rattle.lfm_protocol.specs.declared.answers.Call.{Call}
use Rattle.lfm_protocol.specs.declared.limits.Limits.{Limits}
use Rattle.lfm_protocol.specs.declared.points.Entrant.{Entrant}
use Rattle.lfm_protocol.specs.declared.points.Point.{Point}
use Rattle.lfm_protocol.specs.declared.points.Point.TheVariants.{Rest, LockCountAdd, LockOwnerLoad, LockCountSubtract, EnterOwnerStore, PushLoad, TryCountExchange, TryOwnerLoad, TryHandoffLoad, TryHandoffExchange, ReleaseOwnerStore}
use Rattle.lfm_protocol.specs.declared.points.Pusher.{Pusher}
use Rattle.lfm_protocol.specs.declared.points.Releaser.TheVariants.{Unlocker, Waiter}
use Rattle.lfm_protocol.specs.declared.answers.Answer.{Answer}
use Rattle.lfm_protocol.specs.declared.answers.Turn.TheVariants.{Ended, Refused}
use Rattle.lfm_protocol.specs.declared.answers.Why.{Why}
use Rattle.lfm_model.specs.declared.refusals.Refusal.{Refusal}
use Rattle.lfm_model.specs.declared.answers.Locked.{Locked}
use Rattle.lfm_model.specs.declared.answers.Unlocked.{Unlocked}
use Rattle.lfm_protocol.specs.declared.seats.SeatState.{SeatState}
use Rattle.lfm_protocol.specs.Limits.{max_depth}
use Rattle.lfm_protocol.specs.Begin as Begin
use Rattle.lfm_protocol.specs.Begin.{Stepped}
use Rattle.lfm_laws.specs.table.Words.{stepped_by, handoff_of}
use Rattle.lfm_table.specs.declared.seat_view.View.{View}
use Rattle.lfm_table.specs.declared.rule.Moving.{Moving}
use Rattle.lfm_mutex.specs.calls.Runs.{opens}
use Rattle.lfm_mutex.specs.calls.Sight.{is_asleep}
use Rattle.lfm_table.specs.Steps.{Event, oldest_in}
use Rattle.lfm_table.specs.FastPath.{Fit, MadeStep}
use Rattle.lfm_table.proofs.tables.Started as Started
use Rattle.lfm_table.proofs.tables.StepFacts.{made_of}

pub awake_rests : (q : Point) → is_asleep q ≡ false → q ≡ Rest
awake_rests Rest e = refl
awake_rests _ e = absurd (false≢true (sym e))

-- Starts of calls

below : (m n : ℕ) → m < n → nat_lt m n ≡ true
below m n e = search (tests, arith, e)

pub begins_free : (p : SeatState) (l : Limits) → p.point ≡ Rest → p.depth ≡ 0 → p.takes < l.budget → Begin.begin p l Call.Lock ≡ opens (made_of 0 (p.takes + 1) p.posts LockCountAdd)
begins_free p l rests flat charged =
    let h = below p.takes l.budget charged in
    let e : Begin.begin (made_of 0 p.takes p.posts Rest) l Call.Lock ≡ opens (made_of 0 (p.takes + 1) p.posts LockCountAdd) = rw h refl in
    ap (λ (x : SeatState). Begin.begin x l Call.Lock) (λ i. record { depth = flat i; takes = p.takes; posts = p.posts; point = rests i }) ∙ e

above : (m n : ℕ) → n ≤ m → nat_lt m n ≡ false
above m n e = search (tests, arith, e)

pub begins_again : (p : SeatState) (l : Limits) → p.point ≡ Rest → 0 < p.depth → p.depth < max_depth → Begin.begin p l Call.Lock ≡ opens (made_of p.depth p.takes p.posts LockCountAdd)
begins_again p l rests held room =
    let h = above (max_depth - 1) p.depth (omega (arith, room)) in
    let k = ne_eqb p.depth 0 (λ e. omega (arith, e, held)) in
    let e : Begin.begin (made_of p.depth p.takes p.posts Rest) l Call.Lock ≡ opens (made_of p.depth p.takes p.posts LockCountAdd) = rw h (rw k refl) in
    ap (λ (x : SeatState). Begin.begin x l Call.Lock) (λ i. record { depth = p.depth; takes = p.takes; posts = p.posts; point = rests i }) ∙ e

pub begins_try_free : (p : SeatState) (l : Limits) → p.point ≡ Rest → p.depth ≡ 0 → p.takes < l.budget → Begin.begin p l Call.TryLock ≡ opens (made_of 0 (p.takes + 1) p.posts TryCountExchange)
begins_try_free p l rests flat charged =
    let h = below p.takes l.budget charged in
    let e : Begin.begin (made_of 0 p.takes p.posts Rest) l Call.TryLock ≡ opens (made_of 0 (p.takes + 1) p.posts TryCountExchange) = rw h refl in
    ap (λ (x : SeatState). Begin.begin x l Call.TryLock) (λ i. record { depth = flat i; takes = p.takes; posts = p.posts; point = rests i }) ∙ e

pub begins_try_again : (p : SeatState) (l : Limits) → p.point ≡ Rest → 0 < p.depth → p.depth < max_depth → Begin.begin p l Call.TryLock ≡ opens (made_of p.depth p.takes p.posts TryCountExchange)
begins_try_again p l rests held room =
    let h = above (max_depth - 1) p.depth (omega (arith, room)) in
    let k = ne_eqb p.depth 0 (λ e. omega (arith, e, held)) in
    let e : Begin.begin (made_of p.depth p.takes p.posts Rest) l Call.TryLock ≡ opens (made_of p.depth p.takes p.posts TryCountExchange) = rw h (rw k refl) in
    ap (λ (x : SeatState). Begin.begin x l Call.TryLock) (λ i. record { depth = p.depth; takes = p.takes; posts = p.posts; point = rests i }) ∙ e

pub begins_last : (p : SeatState) (l : Limits) → p.point ≡ Rest → p.depth ≡ 1 → Begin.begin p l Call.Unlock ≡ opens (made_of 1 p.takes p.posts (ReleaseOwnerStore Unlocker))
begins_last p l rests one = ap (λ (x : SeatState). Begin.begin x l Call.Unlock) (λ i. record { depth = one i; takes = p.takes; posts = p.posts; point = rests i })

pub begins_wait : (p : SeatState) (l : Limits) → p.point ≡ Rest → p.depth ≡ 1 → p.takes < l.budget → Begin.begin p l Call.StartWait ≡ opens (made_of 1 (p.takes + 1) p.posts (ReleaseOwnerStore Waiter))
begins_wait p l rests one charged =
    let h = below p.takes l.budget charged in
    let e : Begin.begin (made_of 1 p.takes p.posts Rest) l Call.StartWait ≡ opens (made_of 1 (p.takes + 1) p.posts (ReleaseOwnerStore Waiter)) = rw h refl in
    ap (λ (x : SeatState). Begin.begin x l Call.StartWait) (λ i. record { depth = one i; takes = p.takes; posts = p.posts; point = rests i }) ∙ e

pub begins_still : (p : SeatState) (l : Limits) → p.point ≡ Rest → 1 < p.depth → Begin.begin p l Call.Unlock ≡ record { seat = record p { depth = p.depth - 1 }; turn = Ended (Answer.Unlocked (Unlocked.Still (p.depth - 1))) }
begins_still p l rests deep =
    let h = ne_eqb p.depth 0 (λ e. omega (arith, e, deep)) in
    let k = ne_eqb p.depth 1 (λ e. omega (arith, e, deep)) in
    let e : Begin.begin (made_of p.depth p.takes p.posts Rest) l Call.Unlock ≡ record { seat = made_of (p.depth - 1) p.takes p.posts Rest; turn = Ended (Answer.Unlocked (Unlocked.Still (p.depth - 1))) } = rw h (rw k refl) in
    ap (λ (x : SeatState). Begin.begin x l Call.Unlock) (λ i. record { depth = p.depth; takes = p.takes; posts = p.posts; point = rests i })
    ∙ (e ∙ (λ i. record { seat = record { depth = p.depth - 1; takes = p.takes; posts = p.posts; point = sym rests i }; turn = Ended (Answer.Unlocked (Unlocked.Still (p.depth - 1))) }))

-- Steps

pub owned : (d t ps s n : ℕ) (o : Option Record) → n ≡ s → stepped_by (made_of d t ps LockOwnerLoad) s n o ≡ opens (made_of d t ps LockCountSubtract)
owned d t ps s n o e = let h = eq-eqb n s e in rw h refl

pub not_owned : (d t ps s n : ℕ) (o : Option Record) → n ≢ s → stepped_by (made_of d t ps LockOwnerLoad) s n o ≡ opens (made_of d t ps (PushLoad Pusher.Locker))
not_owned d t ps s n o e = let h = ne_eqb n s e in rw h refl

pub exchanged_none : (d t ps s n : ℕ) (o : Option Record) → n ≡ 0 → stepped_by (made_of d t ps TryCountExchange) s n o ≡ opens (made_of d t ps (EnterOwnerStore Entrant.Trier How.Free))
exchanged_none d t ps s n o e = rw e refl

pub exchanged_some : (d t ps s n : ℕ) (o : Option Record) → n ≢ 0 → stepped_by (made_of d t ps TryCountExchange) s n o ≡ opens (made_of d t ps TryOwnerLoad)
exchanged_some d t ps s n o e = let h = ne_eqb n 0 e in rw h refl

pub try_owned : (d t ps s n : ℕ) (o : Option Record) → n ≡ s → stepped_by (made_of d t ps TryOwnerLoad) s n o ≡ record { seat = made_of (d + 1) t ps Rest; turn = Ended (Answer.Locked (Locked.Again (d + 1))) }
try_owned d t ps s n o e = let h = eq-eqb n s e in rw h refl

pub try_not_owned : (d t ps s n : ℕ) (o : Option Record) → n ≢ s → stepped_by (made_of d t ps TryOwnerLoad) s n o ≡ opens (made_of d t ps TryHandoffLoad)
try_not_owned d t ps s n o e = let h = ne_eqb n s e in rw h refl

pub unposted : (d t ps s n : ℕ) (o : Option Record) → is_posted_word n ≡ false → stepped_by (made_of d t ps TryHandoffLoad) s n o ≡ record { seat = made_of d (t - 1) ps Rest; turn = Refused (Why.By Refusal.Busy) }
unposted d t ps s n o e = let h = not-false (nat_eq (handoff_of n).seat 0) e in rw h refl

pub posted : (d t ps s n : ℕ) (o : Option Record) → is_posted_word n ≡ true → stepped_by (made_of d t ps TryHandoffLoad) s n o ≡ opens (made_of d t ps (TryHandoffExchange (handoff_of n)))
posted d t ps s n o e = let h = not-true (nat_eq (handoff_of n).seat 0) e in rw h refl

pub added_none : (d t ps s n : ℕ) (o : Option Record) → n ≡ 0 → stepped_by (made_of d t ps LockCountAdd) s n o ≡ opens (made_of d t ps (EnterOwnerStore Entrant.Locker How.Free))
added_none d t ps s n o e = rw e refl

pub added_some : (d t ps s n : ℕ) (o : Option Record) → n ≢ 0 → stepped_by (made_of d t ps LockCountAdd) s n o ≡ opens (made_of d t ps LockOwnerLoad)
added_some d t ps s n o e = let h = ne_eqb n 0 e in rw h refl

-- What a seat keeps

module _ {T : Type 0} (number words id : ℕ) (l : Limits) (m : Me (Option (Moving T)) (View T)) (a : Option (Moving T)) where
  pub fit_begun : (p q : SeatState) (call : Call) → Fit number words id l p m a → Begin.begin p l call ≡ opens q → Fit number words id l q m a
  fit_begun p q call fit begins =
      let b = Started.begun number words id l p q m a fit.seated fit.became fit.ready fit.rooted call (ap (λ (z : Stepped). z.seat) (sym begins)) in
      record { seated = b.seated; became = b.became; ready = b.ready; rooted = fit.rooted }

module _ {T : Type 0} (follows : ℕ → T → T → Type 0) (suits : T → ℕ → Type 0) (number words id : ℕ) (l : Limits) (p : SeatState) (n : ℕ) (m : Me (Option (Moving T)) (View T)) (a : Option (Moving T)) (m' : Me (Option (Moving T)) (View T)) (a' : Option (Moving T))
    (did : MadeStep follows suits number words id l p n m a m' a') (st : Stepped) (is : stepped_by p number n (oldest_in a') ≡ st) where
  pub fit_after : Fit number words id l st.seat m' a'
  fit_after = subst (λ (z : Stepped). Fit number words id l z.seat m' a') is did.fit

  pub event_there : Event follows suits p a m.0 st.turn st.seat a' m'.0
  event_there = subst (λ (z : Stepped). Event follows suits p a m.0 z.turn z.seat a' m'.0) is did.event
