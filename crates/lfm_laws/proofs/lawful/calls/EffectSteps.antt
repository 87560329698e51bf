-- How many effects the open call of a seat has had at each point, and what a step adds to them. By cases on the point.
use Rattle.std.proofs.Common.{◌≡◌, ◌≢◌, ℕ, Bool, true, false, ◌+◌, ◌-◌, ◌&&◌, ◌≤◌, nat_eq, nat_lt, refl, sym, ◌∙◌, inl, inr, arith, if◌then◌else◌}
use Rattle.std.proofs.lemmas.Bool.{cases_eq, eq-eqb, ne_eqb, false≢true}
use Rattle.std.specs.Prelude.{Option, Some, None}
use Rattle.lfm_model.specs.AbstractRuns.{Case}
use Rattle.lfm_model.specs.AbstractRuns as Runs
use Rattle.lfm_model.specs.declared.answers.Asked.TheVariants as Asked
use Rattle.lfm_model.specs.declared.answers.How.{How}
use Rattle.lfm_model.specs.declared.answers.Locked.TheVariants as Locked
use Rattle.lfm_model.specs.declared.answers.Unlocked.{Unlocked}
use Rattle.lfm_model.specs.declared.refusals.Refusal.{Refusal}
use Rattle.lfm_protocol.specs.declared.answers.Answer.{Answer}
use Rattle.lfm_protocol.specs.declared.answers.Call.{Call}
use Rattle.lfm_protocol.specs.declared.answers.Call.TheVariants.{Lock, TryLock, Unlock, StartWait, SendLock, Receive}
use Rattle.lfm_protocol.specs.declared.answers.Turn.{Turn}
use Rattle.lfm_protocol.specs.declared.answers.Turn.TheVariants.{Open, Ended, Refused}
use Rattle.lfm_protocol.specs.declared.limits.Limits.{Limits}
use Rattle.lfm_protocol.specs.declared.points.Carrier.{Carrier}
use Rattle.lfm_protocol.specs.declared.points.Entrant.{Entrant}
use Rattle.lfm_protocol.specs.declared.points.Point.{Point}
use Rattle.lfm_protocol.specs.declared.points.Point.TheVariants.{Rest, Asleep, LockCountAdd, LockOwnerLoad, LockCountSubtract, TryCountExchange, TryOwnerLoad, TryHandoffLoad, TryHandoffExchange, TryCountAdd, SendWakeExchange, SendCountAdd, SendPushRecheck, SendWakeStore, PushLoad, LinkStore, PushExchange, PushedHandoffLoad, PushedHandoffExchange, ReleaseOwnerStore, ReleaseCountSubtract, ReleaseHandoffStore, ReleasePushRecheck, ReleaseHandoffExchange, WaitWakeStore, TakeClearHead, TakeLinkLoad, GrantWakeStore, EnterOwnerStore, ReceiveWakeLoad, ReceiveWakeStore}
use Rattle.lfm_protocol.specs.declared.points.Pusher.{Pusher}
use Rattle.lfm_protocol.specs.declared.points.Releaser.{Releaser}
use Rattle.lfm_protocol.specs.declared.points.Releaser.TheVariants.{Unlocker, Waiter}
use Rattle.lfm_protocol.specs.declared.points.Sleeper.{Sleeper}
use Rattle.lfm_protocol.specs.declared.seats.SeatState.{SeatState}
use Rattle.lfm_words.specs.declared.handoffs.Handoff.{Handoff}
use Rattle.lfm_words.specs.declared.pop_lists.Record.{Record}
use Rattle.lfm_words.specs.declared.wakes.Wake.{Wake}
use Rattle.lfm_words.specs.Popped.{oldest}
use Rattle.lfm_protocol.specs.After.{same_link, same_handoff, busy, releases, pushed, granted, found_posted, carrier_of, serves, take, once_cleared, held, receives, claims, loaded}
use Rattle.lfm_protocol.specs.Begin as Begin
use Rattle.lfm_protocol.specs.Begin.{Stepped, goes_on, ends, refuses, charges, begin_entry, begin_unlock, begin_wait, begin_awake, begin_asleep}
use Rattle.lfm_protocol.specs.Core.{Core}
use Rattle.lfm_protocol.specs.Seats.{seat, link, wake}
use Rattle.lfm_laws.specs.laws.Effects.{effects_of_case, TurnsEffects}
use Rattle.lfm_laws.specs.laws.Events.{enters_by, takes_up, case_at}
use Rattle.lfm_laws.specs.laws.Schedules.{is_call}
use Rattle.lfm_laws.specs.steady.Ghost.{Ghost}
use Rattle.lfm_laws.specs.steady.Steady.{Fits}
use Rattle.lfm_laws.proofs.lawful.bounds.Leaving.{stepped, seat_of_call}
use Rattle.lfm_laws.proofs.lawful.calls.RecursiveCalls.{owner_of_claim}
use Rattle.lfm_laws.proofs.steady.frames.Quiet.{owner_of-held}

-- The effects of a call so far

-- how many effects the open call of a seat of this depth has had before the step at this point
abbrev pub effects_before : ℕ → Point → ℕ
effects_before depth LockCountAdd = 0
effects_before depth LockOwnerLoad = if nat_eq depth 0 then 1 else 0
effects_before depth LockCountSubtract = 0
effects_before depth TryCountExchange = 0
effects_before depth TryOwnerLoad = 0
effects_before depth TryHandoffLoad = 0
effects_before depth (TryHandoffExchange seen) = 0
effects_before depth (SendWakeExchange t) = 0
effects_before depth (SendCountAdd t) = 0
effects_before depth (ReleaseOwnerStore releaser) = 0
effects_before depth (ReceiveWakeLoad sleeper) = 0
effects_before depth _ = 1

one_at_most : (b : Bool) → (if b then 1 else 0) ≤ 1
one_at_most true = omega arith
one_at_most false = omega arith

pub effects_before-le : (depth : ℕ) (p : Point) → effects_before depth p ≤ 1
effects_before-le depth LockCountAdd = omega arith
effects_before-le depth LockOwnerLoad = one_at_most (nat_eq depth 0)
effects_before-le depth LockCountSubtract = omega arith
effects_before-le depth TryCountExchange = omega arith
effects_before-le depth TryOwnerLoad = omega arith
effects_before-le depth TryHandoffLoad = omega arith
effects_before-le depth (TryHandoffExchange seen) = omega arith
effects_before-le depth (SendWakeExchange t) = omega arith
effects_before-le depth (SendCountAdd t) = omega arith
effects_before-le depth (ReleaseOwnerStore releaser) = omega arith
effects_before-le depth (ReceiveWakeLoad sleeper) = omega arith
effects_before-le depth _ = omega arith

-- 1 for a turn that answers one hold more, or one hold less of several
abbrev pub effects_told : Turn → ℕ
effects_told (Ended (Answer.Asked (Asked.Again n))) = 1
effects_told (Ended (Answer.Locked (Locked.Again n))) = 1
effects_told (Ended (Answer.Unlocked (Unlocked.Still n))) = 1
effects_told _ = 0

-- an open call has had as many effects as its point gives, and one that has ended as many as its turn gives
abbrev pub LeadsToEffects : Turn → SeatState → ℕ → Type 0
LeadsToEffects Open x n = n ≡ effects_before x.depth x.point
LeadsToEffects (Ended answer) x n = TurnsEffects (Ended answer) n
LeadsToEffects (Refused why) x n = TurnsEffects (Refused why) n

-- the number of effects is right after a step of this case, if the call had this number of effects before
pub record HasEffects (before : ℕ) (case : Option Case) (m : Stepped) : Type 0 where
  pub leads : LeadsToEffects m.turn m.seat (before + effects_of_case case + effects_told m.turn)

-- Steps with branches

turns_if : (before : ℕ) (case : Option Case) (b : Bool) (m n : Stepped) → HasEffects before case m → HasEffects before case n → HasEffects before case (if b then m else n)
turns_if before case true m n first second = first
turns_if before case false m n first second = second

points_if : (before : ℕ) (case : Option Case) (x : SeatState) (b : Bool) (p q : Point) → HasEffects before case (goes_on x p) → HasEffects before case (goes_on x q)
    → HasEffects before case (goes_on x (if b then p else q))
points_if before case x true p q first second = first
points_if before case x false p q first second = second

cases_turns_if : (before : ℕ) (b : Bool) (k l : Option Case) (m n : Stepped) → HasEffects before k m → HasEffects before l n
    → HasEffects before (if b then k else l) (if b then m else n)
cases_turns_if before true k l m n first second = first
cases_turns_if before false k l m n first second = second

cases_points_if : (before : ℕ) (x : SeatState) (b : Bool) (k l : Option Case) (p q : Point) → HasEffects before k (goes_on x p) → HasEffects before l (goes_on x q)
    → HasEffects before (if b then k else l) (goes_on x (if b then p else q))
cases_points_if before x true k l p q first second = first
cases_points_if before x false k l p q first second = second

-- Calls after their effect

-- the case is no effect
abbrev IsNoEffect : Option Case → Type 0
IsNoEffect case = effects_of_case case ≡ 0

-- a point after the effect
abbrev IsPastEffect : ℕ → Point → Type 0
IsPastEffect depth p = effects_before depth p ≡ 1

past : (x : SeatState) (case : Option Case) (p : Point) → IsNoEffect case → IsPastEffect x.depth p → HasEffects 1 case (goes_on x p)
past x case p none here = record { leads = omega (arith, none, here) }

past_released : (x : SeatState) (case : Option Case) (releaser : Releaser) (answer : Unlocked) → IsNoEffect case → ((n : ℕ) → answer ≢ Unlocked.Still n)
    → HasEffects 1 case (releases x releaser answer)
past_released x case Unlocker (Unlocked.Still n) none released = absurd (released n refl)
past_released x case Unlocker _ none released = record { leads = omega (arith, none) }
past_released x case Waiter answer none released = record { leads = omega (arith, none) }

past_pushed : (x : SeatState) (case : Option Case) (pusher : Pusher) → IsNoEffect case → HasEffects 1 case (pushed x pusher)
past_pushed x case Pusher.Locker none = record { leads = omega (arith, none) }
past_pushed x case (Pusher.Sender t) none = record { leads = omega (arith, none) }

past_granted : (x : SeatState) (carrier : Carrier) (r : Record) → HasEffects 1 (Some Runs.serve) (granted x carrier r)
past_granted x Carrier.Locker r = record { leads = refl }
past_granted x (Carrier.Releaser releaser) r = past_released x (Some Runs.serve) releaser (Unlocked.Granted r.seat) refl (λ n e. cc)
past_granted x (Carrier.Reclaimer releaser) r = past_released x (Some Runs.serve) releaser (Unlocked.Granted r.seat) refl (λ n e. cc)
past_granted x Carrier.Sender r = record { leads = refl }

past_entered : (x : SeatState) (entrant : Entrant) (how : How) → HasEffects 1 (Some (enters_by entrant how)) (record { seat = record x { point = Rest; depth = 1 }; turn = Ended (held entrant how) })
past_entered x Entrant.Locker How.Free = record { leads = refl }
past_entered x Entrant.Locker (How.Queued stamp) = record { leads = refl }
past_entered x Entrant.Trier how = record { leads = refl }
past_entered x Entrant.Receiver how = record { leads = refl }

past_found_posted : (depth : ℕ) (pusher : Pusher) (found : Handoff) → IsPastEffect depth (found_posted pusher found)
past_found_posted depth Pusher.Locker found = refl
past_found_posted depth (Pusher.Sender t) found = refl

past_if : (depth : ℕ) (b : Bool) (p q : Point) → IsPastEffect depth p → IsPastEffect depth q → IsPastEffect depth (if b then p else q)
past_if depth true p q first second = first
past_if depth false p q first second = second

past_serves : (depth : ℕ) (carrier : Carrier) (s : ℕ) (r : Record) → IsPastEffect depth (serves carrier s r)
past_serves depth Carrier.Locker s r = past_if depth (nat_eq r.seat s) (EnterOwnerStore Entrant.Locker (How.Queued r.stamp)) (GrantWakeStore Carrier.Locker r) refl refl
past_serves depth (Carrier.Releaser releaser) s r = refl
past_serves depth (Carrier.Reclaimer releaser) s r = refl
past_serves depth Carrier.Sender s r = refl

past_take : (depth : ℕ) (carrier : Carrier) (s : ℕ) (first : Option Record) → IsPastEffect depth (take carrier s first)
past_take depth carrier s None = refl
past_take depth carrier s (Some r) = past_serves depth carrier s r

past_cleared : (depth : ℕ) (carrier : Carrier) (head : ℕ) → IsPastEffect depth (once_cleared carrier head)
past_cleared depth Carrier.Locker head = refl
past_cleared depth (Carrier.Releaser releaser) head =
    past_if depth (nat_eq head 0) (ReleaseHandoffStore releaser) (TakeLinkLoad (Carrier.Releaser releaser) head) refl refl
past_cleared depth (Carrier.Reclaimer releaser) head = refl
past_cleared depth Carrier.Sender head = refl

-- Calls before their effect

asks_if : (x : SeatState) (b : Bool) → b ≡ nat_eq x.depth 0 → HasEffects 0 (if b then Some Runs.ask else None) (goes_on x LockOwnerLoad)
asks_if x true deep = record { leads = rw (sym deep) refl }
asks_if x false deep = record { leads = rw (sym deep) refl }

claims_target : (x : SeatState) (t : ℕ) (w : Wake) → HasEffects 0 None (claims x t w)
claims_target x t Wake.Waiting = record { leads = refl }
claims_target x t _ = record { leads = refl }

loads_grant : (x : SeatState) (sleeper : Sleeper) (w : Wake) → HasEffects 0 (takes_up w) (receives x sleeper w)
loads_grant x sleeper (Wake.Grant stamp) = record { leads = refl }
loads_grant x sleeper _ = record { leads = refl }

-- when it loads the owner word, a lock has already asked exactly if its seat does not hold; exactly in that case the load does
-- not find its number
loads_owner : (c : Core) (g : Ghost) (s : ℕ) → Fits c g → (seat c.seats s).point ≡ LockOwnerLoad
    → HasEffects (effects_before (seat c.seats s).depth LockOwnerLoad) None (stepped c s)
loads_owner c g s fits at =
    let is = seat_of_call c s (rw at refl) in
    elim (cases_eq (seat c.seats s).depth 0) [
      | inl none ↦
          let claims = rw (at, eq-eqb (seat c.seats s).depth 0 none) at (fits.each s).claims in
          let other : c.owner ≢ s = λ own. owner_of-held g.place s is.above (sym fits.words.owner ∙ own) (sym claims) in
          rw (at, at, ne_eqb c.owner s other, eq-eqb (seat c.seats s).depth 0 none) (record { leads = refl })
      | inr some ↦
          let claims = rw (at, ne_eqb (seat c.seats s).depth 0 some) at (fits.each s).claims in
          let own = owner_of_claim c g s true fits claims in
          rw (at, at, eq-eqb c.owner s own, ne_eqb (seat c.seats s).depth 0 some) (record { leads = refl })
    ]

-- All points

pub step_effects : (c : Core) (g : Ghost) (s : ℕ) (p : Point) → Fits c g → (seat c.seats s).point ≡ p → is_call p ≡ true
    → HasEffects (effects_before (seat c.seats s).depth p) (case_at c s (seat c.seats s) p) (stepped c s)
step_effects c g s Rest fits at inside = absurd (false≢true inside)
step_effects c g s (Asleep sleeper) fits at inside = absurd (false≢true inside)
step_effects c g s LockCountAdd fits at inside =
    rw (at, at)
    (cases_points_if 0 (seat c.seats s) (nat_eq c.count 0) (Some Runs.ask) (if nat_eq (seat c.seats s).depth 0 then Some Runs.ask else None)
    (EnterOwnerStore Entrant.Locker How.Free) LockOwnerLoad (record { leads = refl }) (asks_if (seat c.seats s) (nat_eq (seat c.seats s).depth 0) refl))
step_effects c g s LockOwnerLoad fits at inside = loads_owner c g s fits at
step_effects c g s LockCountSubtract fits at inside = rw (at, at) (record { leads = refl })
step_effects c g s TryCountExchange fits at inside =
    rw (at, at) (cases_points_if 0 (seat c.seats s) (nat_eq c.count 0) (Some Runs.ask) None (EnterOwnerStore Entrant.Trier How.Free) TryOwnerLoad
    (record { leads = refl }) (record { leads = refl }))
step_effects c g s TryOwnerLoad fits at inside =
    rw (at, at) (turns_if 0 None (nat_eq c.owner s) _ _ (record { leads = refl }) (record { leads = refl }))
step_effects c g s TryHandoffLoad fits at inside =
    rw (at, at) (turns_if 0 None (nat_eq c.handoff.seat 0) _ _ (record { leads = refl }) (record { leads = refl }))
step_effects c g s (TryHandoffExchange seen) fits at inside =
    rw (at, at) (cases_turns_if 0 (same_handoff c.handoff seen) (Some Runs.accept) None (goes_on (seat c.seats s) TryCountAdd) (busy (seat c.seats s))
    (record { leads = refl }) (record { leads = refl }))
step_effects c g s TryCountAdd fits at inside = rw (at, at) (record { leads = refl })
step_effects c g s (SendWakeExchange t) fits at inside = rw (at, at) (claims_target (seat c.seats s) t (wake c.wakes t))
step_effects c g s (SendCountAdd t) fits at inside =
    rw (at, at) (points_if 0 (Some Runs.ask) (seat c.seats s) (nat_eq c.count 0) (SendWakeStore t) (PushLoad (Pusher.Sender t)) (record { leads = refl }) (record { leads = refl }))
step_effects c g s (SendPushRecheck t seen) fits at inside =
    rw (at, at) (turns_if 1 None (nat_eq c.push.next 0) _ _ (record { leads = refl }) (record { leads = refl }))
step_effects c g s (SendWakeStore t) fits at inside = rw (at, at) (record { leads = refl })
step_effects c g s (PushLoad pusher) fits at inside = rw (at, at) (record { leads = refl })
step_effects c g s (LinkStore pusher seen) fits at inside = rw (at, at) (record { leads = refl })
step_effects c g s (PushExchange pusher seen) fits at inside =
    rw (at, at) (cases_points_if 1 (seat c.seats s) (same_link c.push seen) (Some Runs.queue) None (PushedHandoffLoad pusher) (LinkStore pusher c.push)
    (record { leads = refl }) (record { leads = refl }))
step_effects c g s (PushedHandoffLoad pusher) fits at inside =
    rw (at, at) (turns_if 1 None (nat_eq c.handoff.seat 0) (pushed (seat c.seats s) pusher) (goes_on (seat c.seats s) (found_posted pusher c.handoff))
    (past_pushed (seat c.seats s) None pusher refl) (past (seat c.seats s) None (found_posted pusher c.handoff) refl (past_found_posted _ pusher c.handoff)))
step_effects c g s (PushedHandoffExchange pusher seen) fits at inside =
    let next : Point = take (carrier_of pusher) s (oldest c.popped) in
    rw (at, at) (cases_turns_if 1 (same_handoff c.handoff seen) (Some Runs.take) None (goes_on (seat c.seats s) next) (pushed (seat c.seats s) pusher)
    (past (seat c.seats s) (Some Runs.take) next refl (past_take _ (carrier_of pusher) s (oldest c.popped))) (past_pushed (seat c.seats s) None pusher refl))
step_effects c g s (ReleaseOwnerStore releaser) fits at inside = rw (at, at) (record { leads = refl })
step_effects c g s (ReleaseCountSubtract releaser) fits at inside =
    let next : Point = take (Carrier.Releaser releaser) s (oldest c.popped) in
    rw (at, at) (turns_if 1 (Some Runs.leave) (nat_eq c.count 1) (releases (seat c.seats s) releaser Unlocked.Free) (goes_on (seat c.seats s) next)
    (past_released (seat c.seats s) (Some Runs.leave) releaser Unlocked.Free refl (λ n e. cc))
    (past (seat c.seats s) (Some Runs.leave) next refl (past_take _ (Carrier.Releaser releaser) s (oldest c.popped))))
step_effects c g s (ReleaseHandoffStore releaser) fits at inside = rw (at, at) (record { leads = refl })
step_effects c g s (ReleasePushRecheck releaser) fits at inside =
    rw (at, at) (turns_if 1 None (nat_eq c.push.next 0) (releases (seat c.seats s) releaser Unlocked.Posted) (goes_on (seat c.seats s) (ReleaseHandoffExchange releaser))
    (past_released (seat c.seats s) None releaser Unlocked.Posted refl (λ n e. cc)) (record { leads = refl }))
step_effects c g s (ReleaseHandoffExchange releaser) fits at inside =
    let next : Point = take (Carrier.Reclaimer releaser) s (oldest c.popped) in
    rw (at, at) (cases_turns_if 1 (same_handoff c.handoff (record { seat = s; post = (seat c.seats s).posts })) (Some Runs.take) None (goes_on (seat c.seats s) next)
    (releases (seat c.seats s) releaser Unlocked.TakenOver)
    (past (seat c.seats s) (Some Runs.take) next refl (past_take _ (Carrier.Reclaimer releaser) s (oldest c.popped)))
    (past_released (seat c.seats s) None releaser Unlocked.TakenOver refl (λ n e. cc)))
step_effects c g s (WaitWakeStore answer) fits at inside = rw (at, at) (record { leads = refl })
step_effects c g s (TakeClearHead carrier) fits at inside =
    rw (at, at) (past (seat c.seats s) None (once_cleared carrier c.push.next) refl (past_cleared _ carrier c.push.next))
step_effects c g s (TakeLinkLoad carrier next) fits at inside =
    let found = link c.links next in
    rw (at, at) (points_if 1 None (seat c.seats s) (nat_eq found.next 0) (serves carrier s (loaded next found)) (TakeLinkLoad carrier found.next)
    (past (seat c.seats s) None (serves carrier s (loaded next found)) refl (past_serves _ carrier s (loaded next found))) (record { leads = refl }))
step_effects c g s (GrantWakeStore carrier r) fits at inside = rw (at, at) (past_granted (seat c.seats s) carrier r)
step_effects c g s (EnterOwnerStore entrant how) fits at inside = rw (at, at) (past_entered (seat c.seats s) entrant how)
step_effects c g s (ReceiveWakeLoad sleeper) fits at inside = rw (at, at) (loads_grant (seat c.seats s) sleeper (wake c.wakes s))
step_effects c g s (ReceiveWakeStore stamp) fits at inside = rw (at, at) (record { leads = refl })

-- Starts of calls

-- a call that opens has had no effect yet, and one that ends at once as many as its turn gives
refused : (x : SeatState) (refusal : Refusal) → HasEffects 0 None (refuses x refusal)
refused x refusal = record { leads = refl }

charged : (x : SeatState) (budget : ℕ) (p : Point) → effects_before x.depth p ≡ 0 → HasEffects 0 None (charges x budget p)
charged x budget p here =
    turns_if 0 None (nat_lt x.takes budget) (record { seat = record x { point = p; takes = x.takes + 1 }; turn = Open }) (refuses x Refusal.Spent)
    (record { leads = sym here }) (refused x Refusal.Spent)

entered : (x : SeatState) (budget : ℕ) (p : Point) → effects_before x.depth p ≡ 0 → HasEffects 0 None (begin_entry x budget p)
entered x budget p here =
    turns_if 0 None (nat_lt 65534 x.depth) (refuses x Refusal.DepthFull) (if nat_eq x.depth 0 then charges x budget p else goes_on x p) (refused x Refusal.DepthFull)
    (turns_if 0 None (nat_eq x.depth 0) (charges x budget p) (goes_on x p) (charged x budget p here) (record { leads = sym here }))

unlocks : (x : SeatState) → HasEffects 0 None (begin_unlock x)
unlocks x =
    let p : Point = ReleaseOwnerStore Unlocker in
    let lowered : Stepped = record { seat = record x { depth = x.depth - 1 }; turn = Ended (Answer.Unlocked (Unlocked.Still (x.depth - 1))) } in
    turns_if 0 None (nat_eq x.depth 0) (refuses x Refusal.NotOwner) (if nat_eq x.depth 1 then goes_on x p else lowered) (refused x Refusal.NotOwner)
    (turns_if 0 None (nat_eq x.depth 1) (goes_on x p) lowered (record { leads = refl }) (record { leads = refl }))

waits : (x : SeatState) (budget : ℕ) → HasEffects 0 None (begin_wait x budget)
waits x budget =
    let p : Point = ReleaseOwnerStore Waiter in
    turns_if 0 None (nat_eq x.depth 0) (refuses x Refusal.NotOwner) (if nat_lt 1 x.depth then refuses x Refusal.Nested else charges x budget p) (refused x Refusal.NotOwner)
    (turns_if 0 None (nat_lt 1 x.depth) (refuses x Refusal.Nested) (charges x budget p) (refused x Refusal.Nested) (charged x budget p refl))

awake : (x : SeatState) (bounds : Limits) (call : Call) → HasEffects 0 None (begin_awake x bounds call)
awake x bounds Lock = entered x bounds.budget LockCountAdd refl
awake x bounds TryLock = entered x bounds.budget TryCountExchange refl
awake x bounds Unlock = unlocks x
awake x bounds StartWait = waits x bounds.budget
awake x bounds (SendLock t) =
    turns_if 0 None (nat_lt 0 t && nat_lt t (bounds.seats + 1)) (goes_on x (SendWakeExchange t)) (refuses x Refusal.NoSuchSeat)
    (record { leads = refl }) (refused x Refusal.NoSuchSeat)
awake x bounds Receive = refused x Refusal.NotWaiting

asleep : (x : SeatState) (sleeper : Sleeper) (call : Call) → HasEffects 0 None (begin_asleep x sleeper call)
asleep x sleeper Receive = record { leads = refl }
asleep x sleeper call = refused x Refusal.Asleep

pub begin_effects : (x : SeatState) (bounds : Limits) (call : Call) (p : Point) → HasEffects 0 None (Begin.begin_at x bounds call p)
begin_effects x bounds call Rest = awake x bounds call
begin_effects x bounds call (Asleep sleeper) = asleep x sleeper call
begin_effects x bounds call _ = record { leads = refl }
