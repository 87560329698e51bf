-- How a call that made steps has changed the sight of its seat.
use Rattle.std.proofs.Common.{◌≡◌, ◌≢◌, ◌⊎◌, ℕ, ◌+◌, ◌<◌, ◌≤◌, true, false, Option, Some, None, List, [], ◌∷◌, ◌++◌, refl, sym, ap, subst, ◌∙◌, arith, inl, inr, append-nil}
use Rattle.std.proofs.lemmas.Bool.{cases_eq, false≢true}
use Rattle.lfm_model.specs.declared.answers.Asked.{Asked}
use Rattle.lfm_model.specs.declared.answers.How.{How}
use Rattle.lfm_model.specs.declared.answers.Locked.{Locked}
use Rattle.lfm_model.specs.declared.answers.Unlocked.{Unlocked}
use Rattle.lfm_model.specs.declared.refusals.Refusal.{Refusal}
use Rattle.lfm_protocol.specs.declared.answers.Answer.{Answer}
use Rattle.lfm_protocol.specs.declared.answers.Call.{Call}
use Rattle.lfm_protocol.specs.declared.answers.Turn.{Turn}
use Rattle.lfm_protocol.specs.declared.answers.Turn.TheVariants.{Open, Ended, Refused}
use Rattle.lfm_protocol.specs.declared.answers.Why.{Why}
use Rattle.lfm_protocol.specs.declared.limits.Limits.{Limits}
use Rattle.lfm_protocol.specs.declared.points.Point.{Point}
use Rattle.lfm_protocol.specs.declared.points.Point.TheVariants.{Rest, SendWakeExchange}
use Rattle.lfm_protocol.specs.declared.points.Releaser.TheVariants.{Unlocker, Waiter}
use Rattle.lfm_protocol.specs.declared.seats.SeatState.{SeatState}
use Rattle.lfm_protocol.specs.Begin as Begin
use Rattle.lfm_protocol.specs.Begin.{Stepped}
use Rattle.lfm_laws.specs.table.Words.{wake_of}
use Rattle.lfm_table.specs.declared.seat_view.View.{View}
use Rattle.lfm_table.specs.declared.rule.Moving.{Moving}
use Rattle.lfm_table.specs.declared.seat_view.Seen.{Seen}
use Rattle.lfm_table.specs.Rule.{value_in, LastHold, last_hold, seen}
use Rattle.lfm_mutex.specs.calls.Runs.{Errand, locking, trying, releasing, sending, receiving, refuses_for, errand, Ends, Ran, opens, trail_of, Counts, Holds, how_held, errand_of, is_releasing}
use Rattle.lfm_mutex.specs.calls.Sight.{Sight, sight_of, is_asleep, is_in_call, sends_of, Concludes, RefusedBy, StillAt, IsLeft, Suits, Finds, Gains, Deepens, LeavesOff, Turned, claimed, Stays, BusySeen}
use Rattle.lfm_mutex.proofs.runs.StepResults.{is_send}
use Rattle.lfm_mutex.proofs.runs.CallStarts.{begun_open}
use Rattle.lfm_mutex.proofs.runs.SendFacts.{no_sends, sends_join, sent_path, refused_path}
use Rattle.lfm_mutex.proofs.runs.BusyFacts.{busy_path}
use Rattle.lfm_mutex.proofs.runs.SightParts.{deep_by, flat_by, same_but}
use Rattle.lfm_mutex.proofs.runs.StartSights.{BegunEntry, Begun}

pub called_ends : (l : Limits) (call : Call) (p q : SeatState) (turn : Turn) → Open ≡ (Begin.begin p l call).turn → q ≡ (Begin.begin p l call).seat → Ends (errand q.point) turn → Ends (errand_of call) turn
called_ends l call p q turn is seat_is ends = subst (λ (e : Errand). Ends e turn) (ap (λ (x : SeatState). errand x.point) seat_is ∙ begun_open p l call (sym is)) ends

-- only a try and a send are refused after steps
no_refusal : (e : Errand) (why : Why) → e ≢ trying → e ≢ sending → refuses_for why ≡ e → (x p : SeatState) → RefusedBy x p why → ⊥
no_refusal e (Why.By Refusal.Busy) try send told x p by = try (sym told)
no_refusal e (Why.By Refusal.NotWaiting) try send told x p by = send (sym told)
no_refusal e _ try send told x p by = by

module _ {T : Type 0} (follows : ℕ → T → T → Type 0) (fits : T → ℕ → Type 0) (n n' : ℕ) (l : Limits) (p q p' : SeatState) (v v' : View T) (a a' : Option (Moving T)) (number : n' ≡ n) where
  abbrev S : Sight T
  S = sight_of n p v (value_in a)

  abbrev S' : Sight T
  S' = sight_of n' p' v' (value_in a')

  suits_of : (how : How) (w : T) (k j : ℕ) → Counts how k j → fits w k → Suits follows fits how w j
  suits_of How.Free w k j counts is = subst (λ (i : ℕ). fits w i) counts is
  suits_of (How.Queued stamp) w k j counts is = (k, sym counts.0, counts.1, is)

  -- what a seat that has acquired the mutex finds
  pub finds : (how : How) → p.depth ≡ 0 → Holds follows fits n (last_hold v) how p' a' v' → Finds follows fits how S S'
  finds how flat h =
      let deep : 0 < p'.depth = let e = h.depth in omega (arith, e) in (
        h.moving.value,
        deep_by p'.depth None (value_in a') deep ∙ ap value_in h.in_hand,
        deep_by p'.depth v'.last v'.found deep ∙ h.found,
        λ y is. h.reached y (sym (flat_by p.depth v.last v.found flat) ∙ is),
        subst (λ (k : ℕ). Suits follows fits how h.moving.value k) (sym (deep_by p'.depth 0 v'.answered deep)) (suits_of how h.moving.value h.count v'.answered h.counts h.fits),
        deep_by p'.depth v'.last_found v'.found deep ∙ h.found,
        h.ended,
        subst (λ (m : ℕ). v.ended ≤ m) (sym (deep_by p'.depth 0 v'.holds_ended deep)) h.within,
        λ own. flat_by p.depth v.last v.found flat ∙ h.own (own ∙ deep_by p'.depth 0 v'.holds_ended deep),
      )

  unsent : (turn : Turn) → Ran n (opens q) v turn p' v' → is_send q.point ≡ false → sends_of v'.trail ≡ sends_of v.trail
  unsent turn ran other =
      ap sends_of ran.trail ∙ (sends_join v.trail (trail_of n q ran.finds) ∙ (ap (λ (xs : List ℕ). sends_of v.trail ++ xs) (no_sends n q ran.finds other) ∙ append-nil (sends_of v.trail)))

  awake : (x : Point) → x ≡ Rest → is_asleep x ≡ false
  awake x at = ap is_asleep at

  idle : (x : Point) → x ≡ Rest → is_in_call x ≡ false
  idle x at = ap is_in_call at

  -- an acquisition by a lock or a try_lock, which both charge at the start
  gains : (budget : ℕ) (how : How) → BegunEntry budget p q → q.depth ≡ 0 → p'.depth ≡ 1 → p'.takes ≡ q.takes → p'.point ≡ Rest → sends_of v'.trail ≡ sends_of v.trail → Holds follows fits n (last_hold v) how p' a' v' → Gains follows fits budget how S S'
  gains budget how b flat deep takes rests sends h =
      let flat_p : p.depth ≡ 0 = sym b.2 ∙ flat in
      let charged : (p.takes < budget) × (q.takes ≡ p.takes + 1) = elim b.3 [ inl c ↦ (c.1, c.2) | inr c ↦ absurd (let z = c.0 in omega (arith, z, flat_p)) ] in
      (awake p.point b.0, flat_p, charged.0, number, deep, takes ∙ charged.1, awake p'.point rests, sends, finds how flat_p h)

  deepens_now : (budget d : ℕ) → BegunEntry budget p q → 0 < q.depth → d ≡ q.depth + 1 → p'.depth ≡ d → p'.takes ≡ q.takes → p'.point ≡ Rest → sends_of v'.trail ≡ sends_of v.trail → last_hold v' ≡ last_hold v
      → Stays q.depth v (value_in a) v' (value_in a') → Deepens S S' d
  deepens_now budget d b deep is depth takes rests sends last stays =
      let deep_p : 0 < p.depth = subst (λ (k : ℕ). 0 < k) b.2 deep in
      let kept : q.takes ≡ p.takes = elim b.3 [ inl c ↦ absurd (let z = c.0 in omega (arith, z, deep_p)) | inr c ↦ c.1 ] in
      let same = b.2 in (
        awake p.point b.0,
        deep_p,
        b.1,
        is ∙ ap (λ (k : ℕ). k + 1) b.2,
        same_but n n' p p' v v' (value_in a) (value_in a') d p.takes (is_asleep p.point) (is_in_call p.point) (sends_of v.trail) number depth (takes ∙ kept) (awake p'.point rests ∙ sym (awake p.point b.0))
            (idle p'.point rests ∙ sym (idle p.point b.0)) sends last (subst (λ (k : ℕ). Stays k v (value_in a) v' (value_in a')) b.2 stays) (inr (deep_p, omega (arith, is, depth))),
      )

  lock_turned : (turn : Turn) → Begun l Call.Lock p q → Ends locking turn → Concludes q turn p' → ((how : How) → how_held turn ≡ Some how → Holds follows fits n (last_hold v) how p' a' v') → Stays q.depth v (value_in a) v' (value_in a') → last_hold v' ≡ last_hold v
      → sends_of v'.trail ≡ sends_of v.trail → Turned follows fits l Call.Lock S S' turn
  lock_turned (Ended (Answer.Asked (Asked.Held how))) b ends c held stays last sends = gains l.budget how b.0 c.0 c.1 c.2 c.3 sends (held how refl)
  lock_turned (Ended (Answer.Asked (Asked.Again d))) b ends c held stays last sends = deepens_now l.budget d b.0 c.0 c.1 c.2 c.3 c.4 sends last stays
  lock_turned (Ended (Answer.Asked Asked.Asleep)) b ends c held stays last sends =
      let flat_p : p.depth ≡ 0 = sym b.0.2 ∙ c.0 in
      let charged : (p.takes < l.budget) × (q.takes ≡ p.takes + 1) = elim b.0.3 [ inl k ↦ (k.1, k.2) | inr k ↦ absurd (let z = k.0 in omega (arith, z, flat_p)) ] in (
        awake p.point b.0.0,
        flat_p,
        charged.0,
        same_but n n' p p' v v' (value_in a) (value_in a') p.depth (p.takes + 1) true false (sends_of v.trail) number (c.1 ∙ sym flat_p) (c.2 ∙ charged.1) c.3 c.4 sends last
            (λ deep. absurd (omega (arith, deep, flat_p))) (inl (flat_p, c.1)),
      )
  lock_turned (Refused why) b ends c held stays last sends = absurd (no_refusal locking why (λ e. cc) (λ e. cc) ends q p' c)
  lock_turned (Ended _) b ends c held stays last sends = tt
  lock_turned Open b ends c held stays last sends = tt

  not_waiting_tries : sending ≡ trying → ⊥
  not_waiting_tries e = cc

  try_turned : (turn : Turn) → Begun l Call.TryLock p q → Ends trying turn → Concludes q turn p' → ((how : How) → how_held turn ≡ Some how → Holds follows fits n (last_hold v) how p' a' v') → Stays q.depth v (value_in a) v' (value_in a') → last_hold v' ≡ last_hold v
      → sends_of v'.trail ≡ sends_of v.trail → (turn ≡ Refused (Why.By Refusal.Busy) → (new : List Seen) × (v'.trail ≡ v.trail ++ new) × BusySeen n new) → Turned follows fits l Call.TryLock S S' turn
  try_turned (Ended (Answer.Locked (Locked.Held how))) b ends c held stays last sends busy = gains l.budget how b.0 c.0 c.1 c.2 c.3 sends (held how refl)
  try_turned (Ended (Answer.Locked (Locked.Again d))) b ends c held stays last sends busy = deepens_now l.budget d b.0 c.0 c.1 c.2 c.3 c.4 sends last stays
  try_turned (Refused (Why.By Refusal.Busy)) b ends c held stays last sends busy =
      let flat_p : p.depth ≡ 0 = sym b.0.2 ∙ c.0 in
      let charged : (p.takes < l.budget) × (q.takes ≡ p.takes + 1) = elim b.0.3 [ inl k ↦ (k.1, k.2) | inr k ↦ absurd (let z = k.0 in omega (arith, z, flat_p)) ] in
      let back : p'.takes ≡ p.takes = let more = charged.1 in elim c.2 [ inl z ↦ omega (arith, z, more) | inr z ↦ absurd (omega (arith, z, more)) ] in (
        awake p.point b.0.0,
        flat_p,
        charged.0,
        same_but n n' p p' v v' (value_in a) (value_in a') p.depth p.takes (is_asleep p.point) (is_in_call p.point) (sends_of v.trail) number (c.1 ∙ sym flat_p) back (awake p'.point c.3 ∙ sym (awake p.point b.0.0))
            (idle p'.point c.3 ∙ sym (idle p.point b.0.0)) sends last (λ deep. absurd (omega (arith, deep, flat_p))) (inl (flat_p, c.1)),
        busy refl,
      )
  try_turned (Refused (Why.By Refusal.NotWaiting)) b ends c held stays last sends busy = absurd (not_waiting_tries ends)
  try_turned (Refused _) b ends c held stays last sends busy = absurd c
  try_turned (Ended _) b ends c held stays last sends busy = tt
  try_turned Open b ends c held stays last sends busy = tt

  receive_turned : (turn : Turn) → Begun l Call.Receive p q → Ends receiving turn → Concludes q turn p' → ((how : How) → how_held turn ≡ Some how → Holds follows fits n (last_hold v) how p' a' v') → Stays q.depth v (value_in a) v' (value_in a') → last_hold v' ≡ last_hold v
      → sends_of v'.trail ≡ sends_of v.trail → Turned follows fits l Call.Receive S S' turn
  receive_turned (Ended (Answer.Got (Some how))) b ends c held stays last sends =
      (b.0, b.1, awake p'.point c.3, number, c.1, c.2 ∙ b.3, sends, finds how (sym b.2 ∙ c.0) (held how refl))
  receive_turned (Ended (Answer.Got None)) b ends c held stays last sends =
      let level : ((p.depth ≡ 0) × (p'.depth ≡ 0)) ⊎ ((0 < p.depth) × (0 < p'.depth)) =
      let one = c.0 in let two = b.2 in elim (cases_eq p.depth 0) [ inl z ↦ inl (z, omega (arith, one, two, z)) | inr some ↦ inr (omega (arith, some), omega (arith, some, one, two)) ]
      in (
        b.0,
        b.1,
        same_but n n' p p' v v' (value_in a) (value_in a') p.depth p.takes (is_asleep p.point) (is_in_call p.point) (sends_of v.trail) number (c.0 ∙ b.2) (c.1 ∙ b.3) (c.2 ∙ sym b.0) (c.3 ∙ sym b.1) sends last
            (subst (λ (k : ℕ). Stays k v (value_in a) v' (value_in a')) b.2 stays) level,
      )
  receive_turned (Refused why) b ends c held stays last sends = absurd (no_refusal receiving why (λ e. cc) (λ e. cc) ends q p' c)
  receive_turned (Ended _) b ends c held stays last sends = tt
  receive_turned Open b ends c held stays last sends = tt

  -- a release, from the store that ends the hold on
  leaves_off : p.point ≡ Rest → p.depth ≡ 1 → p'.depth ≡ 0 → last_hold v' ≡ (value_in a, v.found, v.limits, v.holds_ended + 1) → sends_of v'.trail ≡ sends_of v.trail → LeavesOff S S'
  leaves_off rests deep flat last sends =
      let some : 0 < p.depth = omega (arith, deep) in (
        awake p.point rests,
        deep,
        number,
        flat,
        flat_by p'.depth None (value_in a') flat,
        λ x is. flat_by p'.depth v'.last v'.found flat ∙ (ap (λ (t : LastHold T). t.0) last ∙ (sym (deep_by p.depth None (value_in a) some) ∙ is)),
        sends,
        flat_by p'.depth v'.last_found v'.found flat ∙ (ap (λ (t : LastHold T). t.1) last ∙ sym (deep_by p.depth v.last_found v.found some)),
        ap (λ (t : LastHold T). t.3) last ∙ ap (λ (m : ℕ). m + 1) (sym (deep_by p.depth 0 v.holds_ended some)),
      )

  unlocked : (u : Unlocked) → IsLeft u → LeavesOff S S' → S'.takes ≡ S.takes → S'.asleep ≡ false → Turned follows fits l Call.Unlock S S' (Ended (Answer.Unlocked u))
  unlocked (Unlocked.Still d) is off takes awake_now = absurd is
  unlocked _ is off takes awake_now = (off, takes, awake_now)

  unlock_turned : (turn : Turn) → Begun l Call.Unlock p q → Ends (releasing Unlocker) turn → Concludes (record q { depth = 0 }) turn p' → last_hold v' ≡ (value_in a, v.found, v.limits, v.holds_ended + 1) → sends_of v'.trail ≡ sends_of v.trail → Turned follows fits l Call.Unlock S S' turn
  unlock_turned (Ended (Answer.Unlocked u)) b ends c last sends = unlocked u c.3 (leaves_off b.0 b.1 c.0 last sends) (c.1 ∙ b.2) (awake p'.point c.2)
  unlock_turned (Refused why) b ends c last sends = absurd (no_refusal (releasing Unlocker) why (λ e. cc) (λ e. cc) ends (record q { depth = 0 }) p' c)
  unlock_turned (Ended _) b ends c last sends = tt
  unlock_turned Open b ends c last sends = tt

  wait_turned : (turn : Turn) → Begun l Call.StartWait p q → Ends (releasing Waiter) turn → Concludes (record q { depth = 0 }) turn p' → last_hold v' ≡ (value_in a, v.found, v.limits, v.holds_ended + 1) → sends_of v'.trail ≡ sends_of v.trail → Turned follows fits l Call.StartWait S S' turn
  wait_turned (Ended (Answer.Waiting u)) b ends c last sends = (c.4 (subst (λ (x : Point). StillAt x) (sym b.4) tt), leaves_off b.0 b.1 c.0 last sends, b.2, c.1 ∙ b.3, c.2, c.3)
  wait_turned (Refused why) b ends c last sends = absurd (no_refusal (releasing Waiter) why (λ e. cc) (λ e. cc) ends (record q { depth = 0 }) p' c)
  wait_turned (Ended _) b ends c last sends = tt
  wait_turned Open b ends c last sends = tt

  not_trying_sends : trying ≡ sending → ⊥
  not_trying_sends e = cc

  send_level : (u : ℕ) → Begun l (Call.SendLock u) p q → p'.depth ≡ q.depth → ((p.depth ≡ 0) × (p'.depth ≡ 0)) ⊎ ((0 < p.depth) × (0 < p'.depth))
  send_level u b one = let two = b.3 in elim (cases_eq p.depth 0) [ inl z ↦ inl (z, omega (arith, one, two, z)) | inr some ↦ inr (omega (arith, some), omega (arith, some, one, two)) ]

  send_turned : (u : ℕ) (turn : Turn) → Begun l (Call.SendLock u) p q → Ends sending turn → Concludes q turn p' → Stays q.depth v (value_in a) v' (value_in a') → last_hold v' ≡ last_hold v → Ran n (opens q) v turn p' v'
      → Turned follows fits l (Call.SendLock u) S S' turn
  send_turned u (Ended Answer.Sent) b ends c stays last ran =
      let sent = sent_path n q u ran.finds b.5 (ap (λ (z : Stepped). z.turn) ran.ends) in
      let sends : sends_of v'.trail ≡ sends_of v.trail ++ u ∷ [] = ap sends_of ran.trail ∙ (sends_join v.trail (trail_of n q ran.finds) ∙ ap (λ (xs : List ℕ). sends_of v.trail ++ xs) sent) in (
        awake p.point b.0,
        b.1,
        b.2,
        same_but n n' p p' v v' (value_in a) (value_in a') p.depth p.takes (is_asleep p.point) (is_in_call p.point) (sends_of v.trail ++ u ∷ []) number (c.0 ∙ b.3) (c.1 ∙ b.4) (awake p'.point c.2 ∙ sym (awake p.point b.0))
            (idle p'.point c.2 ∙ sym (idle p.point b.0)) sends last (subst (λ (k : ℕ). Stays k v (value_in a) v' (value_in a')) b.3 stays) (send_level u b c.0),
      )
  send_turned u (Refused (Why.By Refusal.NotWaiting)) b ends c stays last ran =
      let refused = refused_path n q u ran.finds b.5 (ap (λ (z : Stepped). z.turn) ran.ends) in
      let trail : v'.trail ≡ v.trail ++ seen (SendWakeExchange u) refused.0 ∷ [] = ran.trail ∙ ap (λ (xs : List Seen). v.trail ++ xs) refused.2 in
      let none : sends_of (seen (SendWakeExchange u) refused.0 ∷ []) ≡ [] = append-nil (claimed u (wake_of refused.0)) ∙ refused.1 in
      let sends : sends_of v'.trail ≡ sends_of v.trail = ap sends_of trail ∙ (sends_join v.trail (seen (SendWakeExchange u) refused.0 ∷ []) ∙ (ap (λ (xs : List ℕ). sends_of v.trail ++ xs) none ∙ append-nil (sends_of v.trail))) in (
        awake p.point b.0,
        b.1,
        b.2,
        same_but n n' p p' v v' (value_in a) (value_in a') p.depth p.takes (is_asleep p.point) (is_in_call p.point) (sends_of v.trail) number (c.0 ∙ b.3) (c.1 ∙ b.4) (awake p'.point c.2 ∙ sym (awake p.point b.0))
            (idle p'.point c.2 ∙ sym (idle p.point b.0)) sends last (subst (λ (k : ℕ). Stays k v (value_in a) v' (value_in a')) b.3 stays) (send_level u b c.0),
        (refused.0, refused.1, trail),
      )
  send_turned u (Refused (Why.By Refusal.Busy)) b ends c stays last ran = absurd (not_trying_sends ends)
  send_turned u (Refused _) b ends c stays last ran = absurd c
  send_turned u (Ended _) b ends c stays last ran = tt
  send_turned u Open b ends c stays last ran = tt

  -- the contract of a call that makes steps and releases nothing, from its course
  pub turned_by_steps : (call : Call) (turn : Turn) → is_releasing (errand_of call) ≡ false → Begun l call p q → Ends (errand_of call) turn → Concludes q turn p'
      → ((how : How) → how_held turn ≡ Some how → Holds follows fits n (last_hold v) how p' a' v') → Stays q.depth v (value_in a) v' (value_in a') → last_hold v' ≡ last_hold v → Ran n (opens q) v turn p' v' → Turned follows fits l call S S' turn
  turned_by_steps Call.Lock turn keeps b ends c held stays last ran = lock_turned turn b ends c held stays last (unsent turn ran (ap is_send b.1))
  turned_by_steps Call.TryLock turn keeps b ends c held stays last ran =
      try_turned turn b ends c held stays last (unsent turn ran (ap is_send b.1)) (λ is. (trail_of n q ran.finds, ran.trail, busy_path n q ran.finds b.1 (ap (λ (z : Stepped). z.turn) ran.ends ∙ is)))
  turned_by_steps Call.Receive turn keeps b ends c held stays last ran = receive_turned turn b ends c held stays last (unsent turn ran (ap is_send b.4.1))
  turned_by_steps (Call.SendLock t) turn keeps b ends c held stays last ran = send_turned t turn b ends c stays last ran
  turned_by_steps _ turn keeps b ends c held stays last ran = absurd (false≢true (sym keeps))

  pub turned_by_release : (call : Call) (turn : Turn) → is_releasing (errand_of call) ≡ true → Begun l call p q → Ends (errand_of call) turn → Concludes (record q { depth = 0 }) turn p' → last_hold v' ≡ (value_in a, v.found, v.limits, v.holds_ended + 1) → Ran n (opens q) v turn p' v' → Turned follows fits l call S S' turn
  turned_by_release Call.Unlock turn gives b ends c last ran = unlock_turned turn b ends c last (unsent turn ran (ap is_send b.3))
  turned_by_release Call.StartWait turn gives b ends c last ran = wait_turned turn b ends c last (unsent turn ran (ap is_send b.4))
  turned_by_release _ turn gives b ends c last ran = absurd (false≢true gives)

pub release_once : (l : Limits) (call : Call) (p q : SeatState) → is_releasing (errand_of call) ≡ true → Begun l call p q → p.depth ≡ 1
release_once l Call.Unlock p q gives b = b.1
release_once l Call.StartWait p q gives b = b.1
release_once l _ p q gives b = absurd (false≢true gives)
