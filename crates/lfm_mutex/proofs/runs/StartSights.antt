-- How the start of a call changes the sight of its seat.
use Rattle.std.proofs.Common.{◌≡◌, ◌≢◌, ◌⊎◌, ℕ, ◌+◌, ◌-◌, ◌<◌, ◌≤◌, true, false, Option, nat_eq, nat_lt, ◌&&◌, refl, sym, subst, arith, tests, inl, inr, if◌then◌else◌}
use Rattle.lfm_model.specs.declared.answers.Unlocked.{Unlocked}
use Rattle.lfm_model.specs.declared.refusals.Refusal.{Refusal}
use Rattle.lfm_protocol.specs.declared.answers.Answer.{Answer}
use Rattle.lfm_protocol.specs.declared.answers.Call.{Call}
use Rattle.lfm_protocol.specs.declared.answers.Turn.{Turn}
use Rattle.lfm_protocol.specs.declared.answers.Turn.TheVariants.{Open, Ended, Refused}
use Rattle.lfm_protocol.specs.declared.answers.Why.{Why}
use Rattle.lfm_protocol.specs.declared.limits.Limits.{Limits}
use Rattle.lfm_protocol.specs.declared.points.Point.{Point}
use Rattle.lfm_protocol.specs.declared.points.Point.TheVariants.{Rest, Asleep, LockCountAdd, TryCountExchange, SendWakeExchange, ReleaseOwnerStore, ReceiveWakeLoad}
use Rattle.lfm_protocol.specs.declared.points.Releaser.TheVariants.{Unlocker, Waiter}
use Rattle.lfm_protocol.specs.declared.points.Sleeper.{Sleeper}
use Rattle.lfm_protocol.specs.declared.seats.SeatState.{SeatState}
use Rattle.lfm_protocol.specs.Limits.{max_depth}
use Rattle.lfm_protocol.specs.Begin as Begin
use Rattle.lfm_protocol.specs.Begin.{Stepped, goes_on, refuses, charges}
use Rattle.lfm_table.specs.declared.seat_view.View.{View}
use Rattle.lfm_mutex.specs.calls.Sight.{sight_of, is_asleep, is_in_call, sends_of, Turned}
use Rattle.lfm_mutex.proofs.runs.Tests.{if_known}
use Rattle.lfm_table.proofs.tables.StepFacts.{made_of}
use Rattle.lfm_mutex.proofs.runs.Conclusions.{stays_none}
use Rattle.lfm_mutex.proofs.runs.SightParts.{same_but}

abbrev pub BegunEntry : ℕ → SeatState → SeatState → Type 0
BegunEntry budget p q =
    (p.point ≡ Rest) × (p.depth < max_depth) × (q.depth ≡ p.depth) × (((p.depth ≡ 0) × (p.takes < budget) × (q.takes ≡ p.takes + 1)) ⊎ ((0 < p.depth) × (q.takes ≡ p.takes)))

-- the state after the start of a call that is open then
abbrev pub Begun : Limits → Call → SeatState → SeatState → Type 0
Begun l Call.Lock p q = BegunEntry l.budget p q × (q.point ≡ LockCountAdd)
Begun l Call.TryLock p q = BegunEntry l.budget p q × (q.point ≡ TryCountExchange)
Begun l Call.Unlock p q = (p.point ≡ Rest) × (p.depth ≡ 1) × (q.takes ≡ p.takes) × (q.point ≡ ReleaseOwnerStore Unlocker)
Begun l Call.StartWait p q = (p.point ≡ Rest) × (p.depth ≡ 1) × (p.takes < l.budget) × (q.takes ≡ p.takes + 1) × (q.point ≡ ReleaseOwnerStore Waiter)
Begun l (Call.SendLock t) p q = (p.point ≡ Rest) × (0 < t) × (t ≤ l.seats) × (q.depth ≡ p.depth) × (q.takes ≡ p.takes) × (q.point ≡ SendWakeExchange t)
Begun l Call.Receive p q = (is_asleep p.point ≡ true) × (is_in_call p.point ≡ false) × (q.depth ≡ p.depth) × (q.takes ≡ p.takes) × ((sleeper : Sleeper) × (q.point ≡ ReceiveWakeLoad sleeper))

module _ {T : Type 0} (follows : ℕ → T → T → Type 0) (fits : T → ℕ → Type 0) (n : ℕ) (l : Limits) (v : View T) (a : Option T) where
  abbrev StartsBy : Call → SeatState → SeatState → Turn → Type 0
  StartsBy call p q Open = Begun l call p q
  StartsBy call p q turn = Turned follows fits l call (sight_of n p v a) (sight_of n q v a) turn

  abbrev Starts : Call → SeatState → Stepped → Type 0
  Starts call p st = StartsBy call p st.seat st.turn

  starts_lock : (d t ps : ℕ) → Starts Call.Lock (made_of d t ps Rest) (Begin.begin_entry (made_of d t ps Rest) l.budget LockCountAdd)
  starts_lock d t ps = let x = made_of d t ps Rest in
      if_known (Starts Call.Lock x) (nat_lt (max_depth - 1) d) (refuses x Refusal.DepthFull) (if nat_eq d 0 then charges x l.budget LockCountAdd else goes_on x LockCountAdd) (λ e. ((refl, search (tests, arith, e)), refl))
      (λ e. if_known (Starts Call.Lock x) (nat_eq d 0) (charges x l.budget LockCountAdd) (goes_on x LockCountAdd)
      (λ f. if_known (Starts Call.Lock x) (nat_lt t l.budget) (record { seat = record x { point = LockCountAdd; takes = t + 1 }; turn = Open }) (refuses x Refusal.Spent)
      (λ h. ((refl, search (tests, arith, e), refl, inl (search (tests, arith, f), search (tests, arith, h), refl)), refl))
      (λ h. ((refl, search (tests, arith, f), search (tests, arith, h)), refl)))
      (λ f. ((refl, search (tests, arith, e), refl, inr (search (tests, arith, f), refl)), refl)))

  starts_try : (d t ps : ℕ) → Starts Call.TryLock (made_of d t ps Rest) (Begin.begin_entry (made_of d t ps Rest) l.budget TryCountExchange)
  starts_try d t ps = let x = made_of d t ps Rest in
      if_known (Starts Call.TryLock x) (nat_lt (max_depth - 1) d) (refuses x Refusal.DepthFull) (if nat_eq d 0 then charges x l.budget TryCountExchange else goes_on x TryCountExchange) (λ e. ((refl, search (tests, arith, e)), refl))
      (λ e. if_known (Starts Call.TryLock x) (nat_eq d 0) (charges x l.budget TryCountExchange) (goes_on x TryCountExchange)
      (λ f. if_known (Starts Call.TryLock x) (nat_lt t l.budget) (record { seat = record x { point = TryCountExchange; takes = t + 1 }; turn = Open }) (refuses x Refusal.Spent)
      (λ h. ((refl, search (tests, arith, e), refl, inl (search (tests, arith, f), search (tests, arith, h), refl)), refl))
      (λ h. ((refl, search (tests, arith, f), search (tests, arith, h)), refl)))
      (λ f. ((refl, search (tests, arith, e), refl, inr (search (tests, arith, f), refl)), refl)))

  starts_unlock : (d t ps : ℕ) → Starts Call.Unlock (made_of d t ps Rest) (Begin.begin_unlock (made_of d t ps Rest))
  starts_unlock d t ps = let x = made_of d t ps Rest in
      if_known (Starts Call.Unlock x) (nat_eq d 0) (refuses x Refusal.NotOwner) _ (λ e. ((refl, search (tests, arith, e)), refl))
      (λ e. if_known (Starts Call.Unlock x) (nat_eq d 1) (goes_on x (ReleaseOwnerStore Unlocker)) (record { seat = record x { depth = d - 1 }; turn = Ended (Answer.Unlocked (Unlocked.Still (d - 1))) })
      (λ f. (refl, search (tests, arith, f), refl, refl))
      (λ f. let more : 0 < d - 1 = search (tests, arith, e, f) in let one : d ≡ (d - 1) + 1 = omega (arith, more) in
      (refl, more, one, same_but n n x (made_of (d - 1) t ps Rest) v v a a (d - 1) t false false (sends_of v.trail) refl refl refl refl refl refl refl (stays_none d v a) (inr (omega (arith, more), more)))))

  starts_wait : (d t ps : ℕ) → Starts Call.StartWait (made_of d t ps Rest) (Begin.begin_wait (made_of d t ps Rest) l.budget)
  starts_wait d t ps = let x = made_of d t ps Rest in
      if_known (Starts Call.StartWait x) (nat_eq d 0) (refuses x Refusal.NotOwner) _ (λ e. ((refl, search (tests, arith, e)), refl))
      (λ e. if_known (Starts Call.StartWait x) (nat_lt 1 d) (refuses x Refusal.Nested) _ (λ f. ((refl, search (tests, arith, f)), refl))
      (λ f. let one : d ≡ 1 = search (tests, arith, e, f) in
      if_known (Starts Call.StartWait x) (nat_lt t l.budget) (record { seat = record x { point = ReleaseOwnerStore Waiter; takes = t + 1 }; turn = Open }) (refuses x Refusal.Spent)
      (λ h. (refl, one, search (tests, arith, h), refl, refl))
      (λ h. ((refl, one, search (tests, arith, h)), refl))))

  starts_send : (d t ps u : ℕ) → Starts (Call.SendLock u) (made_of d t ps Rest) (Begin.begin_send (made_of d t ps Rest) l.seats u)
  starts_send d t ps u = let x = made_of d t ps Rest in
      if_known (Starts (Call.SendLock u) x) (nat_lt 0 u && nat_lt u (l.seats + 1)) (goes_on x (SendWakeExchange u)) (refuses x Refusal.NoSuchSeat)
      (λ e. (refl, search (tests, arith, e), search (tests, arith, e), refl, refl, refl))
      (λ e. ((refl, λ some. search (tests, arith, e, some)), refl))

  starts_asleep : (d t ps : ℕ) (sleeper : Sleeper) (call : Call) → Starts call (made_of d t ps (Asleep sleeper)) (Begin.begin_asleep (made_of d t ps (Asleep sleeper)) sleeper call)
  starts_asleep d t ps sleeper Call.Receive = (refl, refl, refl, refl, (sleeper, refl))
  starts_asleep d t ps sleeper _ = (refl, refl)

  starts_awake : (d t ps : ℕ) (call : Call) → Starts call (made_of d t ps Rest) (Begin.begin_awake (made_of d t ps Rest) l call)
  starts_awake d t ps Call.Lock = starts_lock d t ps
  starts_awake d t ps Call.TryLock = starts_try d t ps
  starts_awake d t ps Call.Unlock = starts_unlock d t ps
  starts_awake d t ps Call.StartWait = starts_wait d t ps
  starts_awake d t ps (Call.SendLock u) = starts_send d t ps u
  starts_awake d t ps Call.Receive = (inl refl, refl)

  -- a call that starts while another call of the seat is open
  starts_busy : (x : SeatState) (call : Call) → is_asleep x.point ≡ true → is_in_call x.point ≡ true → Starts call x (record { seat = x; turn = Refused Why.InCall })
  starts_busy x Call.Receive asleep busy = (inr busy, refl)
  starts_busy x _ asleep busy = (asleep, refl)

  starts_at : (d t ps : ℕ) (q : Point) (call : Call) → Starts call (made_of d t ps q) (Begin.begin_at (made_of d t ps q) l call q)
  starts_at d t ps Rest call = starts_awake d t ps call
  starts_at d t ps (Asleep sleeper) call = starts_asleep d t ps sleeper call
  starts_at d t ps q call = starts_busy (made_of d t ps q) call refl refl

  starts : (p : SeatState) (call : Call) → Starts call p (Begin.begin p l call)
  starts p call = starts_at p.depth p.takes p.posts p.point call

  pub begun : (p q : SeatState) (call : Call) → Open ≡ (Begin.begin p l call).turn → q ≡ (Begin.begin p l call).seat → Begun l call p q
  begun p q call is seat_is = subst (λ (z : Stepped). StartsBy call p z.seat z.turn) (λ i. record { seat = sym seat_is i; turn = sym is i }) (starts p call)

  told_turn : (p q : SeatState) (call : Call) (turn : Turn) → turn ≢ Open → StartsBy call p q turn → Turned follows fits l call (sight_of n p v a) (sight_of n q v a) turn
  told_turn p q call Open some is = absurd (some refl)
  told_turn p q call (Ended answer) some is = is
  told_turn p q call (Refused why) some is = is

  -- a call that ends at its start
  pub turned_at_once : (p q : SeatState) (call : Call) (turn : Turn) → turn ≢ Open → turn ≡ (Begin.begin p l call).turn → q ≡ (Begin.begin p l call).seat → Turned follows fits l call (sight_of n p v a) (sight_of n q v a) turn
  turned_at_once p q call turn some is seat_is = told_turn p q call turn some (subst (λ (z : Stepped). StartsBy call p z.seat z.turn) (λ i. record { seat = sym seat_is i; turn = sym is i }) (starts p call))
