-- Each own step of an open call lowers what it has yet to do: its steps by at least one, and its changes of the push word by at
-- least one if it makes one.
use Rattle.std.proofs.Common.{◌≡◌, ℕ, Bool, true, false, ◌+◌, ◌-◌, ◌≤◌, ◌<◌, Option, Some, None, ◌∷◌, length, nat_eq, refl, sym, arith, inl, inr, if◌then◌else◌}
use Rattle.std.proofs.lemmas.Bool.{cases_Bool, cases_eq, eq-eqb, ne_eqb, false≢true}
use Rattle.lfm_model.specs.declared.answers.How.{How}
use Rattle.lfm_model.specs.declared.answers.Locked.TheVariants as Locked
use Rattle.lfm_model.specs.declared.answers.Unlocked.{Unlocked}
use Rattle.lfm_model.specs.declared.answers.Unlocked.TheVariants.{Free, Granted, Posted, TakenOver}
use Rattle.lfm_protocol.specs.declared.answers.Answer.TheVariants as Answer
use Rattle.lfm_protocol.specs.declared.answers.Answer.TheVariants.{Sent}
use Rattle.lfm_protocol.specs.declared.answers.Turn.TheVariants.{Ended}
use Rattle.lfm_protocol.specs.declared.points.Carrier.{Carrier}
use Rattle.lfm_protocol.specs.declared.points.Entrant.{Entrant}
use Rattle.lfm_protocol.specs.declared.points.Point.{Point}
use Rattle.lfm_protocol.specs.declared.points.Point.TheVariants.{Rest, Asleep, LockCountAdd, LockOwnerLoad, LockCountSubtract, TryCountExchange, TryOwnerLoad, TryHandoffLoad, TryHandoffExchange, TryCountAdd, SendWakeExchange, SendCountAdd, SendPushRecheck, SendWakeStore, PushLoad, LinkStore, PushExchange, PushedHandoffLoad, PushedHandoffExchange, ReleaseOwnerStore, ReleaseCountSubtract, ReleaseHandoffStore, ReleasePushRecheck, ReleaseHandoffExchange, WaitWakeStore, TakeClearHead, TakeLinkLoad, GrantWakeStore, EnterOwnerStore, ReceiveWakeLoad, ReceiveWakeStore}
use Rattle.lfm_protocol.specs.declared.points.Pusher.{Pusher}
use Rattle.lfm_protocol.specs.declared.points.Releaser.{Releaser}
use Rattle.lfm_protocol.specs.declared.points.Releaser.TheVariants.{Unlocker, Waiter}
use Rattle.lfm_protocol.specs.declared.points.Sleeper.{Sleeper}
use Rattle.lfm_protocol.specs.declared.seats.SeatState.{SeatState}
use Rattle.lfm_words.specs.declared.handoffs.Handoff.{Handoff}
use Rattle.lfm_words.specs.declared.links.Link.{Link}
use Rattle.lfm_words.specs.declared.pop_lists.Record.{Record}
use Rattle.lfm_words.specs.declared.wakes.Wake.{Wake}
use Rattle.lfm_words.specs.declared.wakes.Wake.TheVariants.{Grant}
use Rattle.lfm_words.specs.Popped.{oldest}
use Rattle.lfm_protocol.specs.After.{same_link, same_handoff, busy, deepens, how_granted, loaded, releases, pushed, granted, serves, take, once_cleared, carrier_of, receives, claims, found_posted}
use Rattle.lfm_protocol.specs.Begin.{Stepped, goes_on, ends}
use Rattle.lfm_protocol.specs.Core.{Core}
use Rattle.lfm_protocol.specs.Points.{kind}
use Rattle.lfm_protocol.specs.Room.{PopFits}
use Rattle.lfm_protocol.specs.Seats.{seat, link, wake, IsSeat}
use Rattle.lfm_protocol.specs.Step.{made, claims_word}
use Rattle.lfm_laws.specs.laws.Progress.{changed_push}
use Rattle.lfm_laws.specs.laws.Schedules.{is_call}
use Rattle.lfm_laws.specs.steady.Ghost.{Ghost}
use Rattle.lfm_laws.specs.steady.Steady.{StandsAsCarrier, Fits}
use Rattle.lfm_laws.specs.steady.Views.{waits_on}
use Rattle.lfm_laws.proofs.lawful.bounds.CallWeights.{is_walking, room_left}
use Rattle.lfm_laws.proofs.lawful.bounds.Leaving.{stepped, seat_of_call}
use Rattle.lfm_laws.proofs.lawful.bounds.ReleaseFalls.{wait_of, walk_room}
use Rattle.lfm_laws.proofs.lawful.bounds.StepsFall.{same_link_self}
use Rattle.lfm_laws.proofs.steady.Room.{pops_of_fits}
use Rattle.lfm_laws.proofs.lawful.bounds.DueAtPoints.{again_unless, due_to_walk, due_to_clear, due_to_exchange, due_at, changes_at, changed_push-le, changed_push_same}

-- The point after a step that leaves the push word unchanged

-- a point at which at most this number of steps and changes are due
abbrev pub Within : Link → ℕ → ℕ → ℕ → ℕ → Point → Type 0
Within push seats room steps changes q = (due_at push seats room q ≤ steps) × (changes_at q ≤ changes)

-- the own step from p to q, which takes the push word from the first to the second
abbrev pub Spends : Link → Link → ℕ → ℕ → ℕ → Point → Point → Type 0
Spends push after seats room room' p q =
    (1 + due_at after seats room' q ≤ due_at push seats room p) × (changes_at q + changed_push push after ≤ changes_at p)

of_points : (push : Link) (seats room steps changes : ℕ) (b : Bool) (p q : Point) → Within push seats room steps changes p → Within push seats room steps changes q
    → Within push seats room steps changes (if b then p else q)
of_points push seats room steps changes true p q first second = first
of_points push seats room steps changes false p q first second = second

of_turns : (push : Link) (seats room steps changes : ℕ) (b : Bool) (x y : Stepped) → Within push seats room steps changes x.seat.point
    → Within push seats room steps changes y.seat.point → Within push seats room steps changes (if b then x else y).seat.point
of_turns push seats room steps changes true x y first second = first
of_turns push seats room steps changes false x y first second = second

spends : (push : Link) (seats room room' steps changes : ℕ) (p q : Point) → Within push seats room' steps changes q → 1 + steps ≤ due_at push seats room p
    → changes ≤ changes_at p → Spends push push seats room room' p q
spends push seats room room' steps changes p q within most few =
    let due = within.0 in
    let left = within.1 in
    let same = changed_push_same push in
    (omega (arith, due, most), omega (arith, left, same, few))

of_release : (push : Link) (seats room steps changes : ℕ) (x : SeatState) (releaser : Releaser) (answer : Unlocked) → waits_on releaser ≤ steps
    → Within push seats room steps changes (releases x releaser answer).seat.point
of_release push seats room steps changes x Unlocker answer most = (omega arith, omega arith)
of_release push seats room steps changes x Waiter answer most = (omega (arith, most), omega arith)

of_pushed : (push : Link) (seats room steps changes : ℕ) (x : SeatState) (pusher : Pusher) → Within push seats room steps changes (pushed x pusher).seat.point
of_pushed push seats room steps changes x Pusher.Locker = (omega arith, omega arith)
of_pushed push seats room steps changes x (Pusher.Sender t) = (omega arith, omega arith)

of_granted : (push : Link) (seats room changes : ℕ) (x : SeatState) (carrier : Carrier) (r : Record)
    → Within push seats room (wait_of carrier) changes (granted x carrier r).seat.point
of_granted push seats room changes x Carrier.Locker r = (omega arith, omega arith)
of_granted push seats room changes x (Carrier.Releaser releaser) r = of_release push seats room (waits_on releaser) changes x releaser (Granted r.seat) (omega arith)
of_granted push seats room changes x (Carrier.Reclaimer releaser) r = of_release push seats room (waits_on releaser) changes x releaser (Granted r.seat) (omega arith)
of_granted push seats room changes x Carrier.Sender r = (omega arith, omega arith)

of_serves : (push : Link) (seats room changes : ℕ) (carrier : Carrier) (s : ℕ) (r : Record)
    → Within push seats room (1 + wait_of carrier) changes (serves carrier s r)
of_serves push seats room changes Carrier.Locker s r =
    of_points push seats room 1 changes (nat_eq r.seat s) _ _ (omega arith, omega arith) (omega arith, omega arith)
of_serves push seats room changes (Carrier.Releaser releaser) s r = (omega arith, omega arith)
of_serves push seats room changes (Carrier.Reclaimer releaser) s r = (omega arith, omega arith)
of_serves push seats room changes Carrier.Sender s r = (omega arith, omega arith)

few_to_serve : (seats : ℕ) (carrier : Carrier) → 1 + wait_of carrier ≤ due_to_clear seats carrier
few_to_serve seats Carrier.Locker = omega arith
few_to_serve seats (Carrier.Releaser releaser) = omega arith
few_to_serve seats (Carrier.Reclaimer releaser) = omega arith
few_to_serve seats Carrier.Sender = omega arith

of_take : (push : Link) (seats room : ℕ) (carrier : Carrier) (s : ℕ) (r : Option Record) → Within push seats room (due_to_clear seats carrier) 1 (take carrier s r)
of_take push seats room carrier s None = (omega arith, omega arith)
of_take push seats room carrier s (Some r) =
    let few = of_serves push seats room 1 carrier s r in
    let due = few.0 in
    (omega (arith, due, few_to_serve seats carrier), few.1)

of_found_posted : (push : Link) (seats room : ℕ) (pusher : Pusher) (n : Handoff) → Within push seats room (seats + 3) 1 (found_posted pusher n)
of_found_posted push seats room Pusher.Locker n = (omega arith, omega arith)
of_found_posted push seats room (Pusher.Sender t) n = (omega arith, omega arith)

of_tried : (push : Link) (seats room : ℕ) (x : SeatState) (succeeded : Bool)
    → Within push seats room 2 0 (if succeeded then goes_on x TryCountAdd else busy x).seat.point
of_tried push seats room x true = (omega arith, omega arith)
of_tried push seats room x false = (omega arith, omega arith)

of_received : (push : Link) (seats room : ℕ) (x : SeatState) (sleeper : Sleeper) (w : Wake) → Within push seats room 2 0 (receives x sleeper w).seat.point
of_received push seats room x sleeper (Grant stamp) = (omega arith, omega arith)
of_received push seats room x sleeper _ = (omega arith, omega arith)

of_claims : (push : Link) (seats room : ℕ) (x : SeatState) (t : ℕ) (w : Wake) → Within push seats room (seats + 8) 2 (claims x t w).seat.point
of_claims push seats room x t Wake.Waiting = (omega arith, omega arith)
of_claims push seats room x t _ = (omega arith, omega arith)

exchange_due : (seats : ℕ) (pusher : Pusher) → 1 + due_to_clear seats (carrier_of pusher) ≤ due_to_exchange seats pusher
exchange_due seats Pusher.Locker = omega arith
exchange_due seats (Pusher.Sender t) = omega arith

-- The point after a step that may change the push word

link_store_due : (push : Link) (seats room : ℕ) (pusher : Pusher) → Within push seats room (seats + 6) 2 (LinkStore pusher push)
link_store_due push seats room pusher = rw (same_link_self push) (omega arith, omega arith)

-- an exchange that fails leaves the push word unchanged, and the link is then stored for that word
exchange_spends : (push other : Link) (seats room room' : ℕ) (pusher : Pusher) (seen : Link) (same : Bool) → same_link push seen ≡ same
    → Spends push (if same then other else push) seats room room' (PushExchange pusher seen) (if same then PushedHandoffLoad pusher else LinkStore pusher push)
exchange_spends push other seats room room' pusher seen true found =
    rw found (omega arith, let one = changed_push-le push other in omega (arith, one))
exchange_spends push other seats room room' pusher seen false found =
    let due = link_store_due push seats room' pusher in
    let none = changed_push_same push in
    let steps = due.0 in
    rw found (omega (arith, steps), omega (arith, none))

-- a clear-head that finds no record leaves the push word unchanged
changed_by_clear : (push : Link) → push.next ≡ 0 → changed_push push (record { stamp = push.stamp; next = 0 }) ≡ 0
changed_by_clear push none = rw (eq-eqb push.stamp push.stamp refl, eq-eqb 0 push.next (sym none)) refl

clear_spends : (push : Link) (seats room room' : ℕ) (carrier : Carrier) → room' ≤ seats
    → Spends push (record { stamp = push.stamp; next = 0 }) seats room room' (TakeClearHead carrier) (once_cleared carrier push.next)
clear_spends push seats room room' Carrier.Locker few =
    let one = changed_push-le push (record { stamp = push.stamp; next = 0 }) in (omega (arith, few), omega (arith, one))
clear_spends push seats room room' (Carrier.Releaser releaser) few =
    let one = changed_push-le push (record { stamp = push.stamp; next = 0 }) in
    elim (cases_eq push.next 0) [
      | inl none ↦ let same = changed_by_clear push none in rw (eq-eqb push.next 0 none) (omega arith, omega (arith, same))
      | inr some ↦ rw (ne_eqb push.next 0 some) (omega (arith, few), omega (arith, one))
    ]
clear_spends push seats room room' (Carrier.Reclaimer releaser) few =
    let one = changed_push-le push (record { stamp = push.stamp; next = 0 }) in (omega (arith, few), omega (arith, one))
clear_spends push seats room room' Carrier.Sender few =
    let one = changed_push-le push (record { stamp = push.stamp; next = 0 }) in (omega (arith, few), omega (arith, one))

-- Collecting

-- after a link load the pop list has room for one record fewer
walk_spends : (push : Link) (seats room room' : ℕ) (carrier : Carrier) (s : ℕ) (next at : ℕ) (r : Record) → 1 + room' ≡ room
    → 2 + wait_of carrier ≤ due_to_walk room carrier → 1 + due_to_walk room' carrier ≤ due_to_walk room carrier
    → Spends push push seats room room' (TakeLinkLoad carrier at) (if nat_eq next 0 then serves carrier s r else TakeLinkLoad carrier next)
walk_spends push seats room room' carrier s next at r less serve walk =
    elim (cases_Bool (nat_eq next 0)) [
      | inl last ↦
          rw last (let within = of_serves push seats room' 0 carrier s r in
          spends push seats room room' (1 + wait_of carrier) 0 (TakeLinkLoad carrier at) (serves carrier s r) within (omega (arith, serve)) (omega arith))
      | inr more ↦ rw more (let same = changed_push_same push in (omega (arith, walk), omega (arith, same)))
    ]

-- At each point

claims_push : (c : Core) (t : ℕ) (w : Wake) → (claims_word c t w).push ≡ c.push
claims_push c t Wake.Waiting = refl
claims_push c t _ = refl

-- every step except a link load, whatever the room of the pop list before it
at_point : (c : Core) (s room before : ℕ) (p : Point) → (seat c.seats s).point ≡ p → is_call p ≡ true → is_walking p ≡ false → room ≤ length c.seats
    → Spends c.push (made c s).core.push (length c.seats) before room p (stepped c s).seat.point
at_point c s room before Rest at inside stands few = absurd (false≢true inside)
at_point c s room before (Asleep sleeper) at inside stands few = absurd (false≢true inside)
at_point c s room before (TakeLinkLoad carrier next) at inside stands few = absurd (false≢true (sym stands))
at_point c s room before LockCountAdd at inside stands few =
    rw (at, at)
    (spends c.push (length c.seats) before room (length c.seats + 8) 2 LockCountAdd _
    (of_points c.push (length c.seats) room (length c.seats + 8) 2 (nat_eq c.count 0) (EnterOwnerStore Entrant.Locker How.Free) LockOwnerLoad
    (omega arith, omega arith) (omega arith, omega arith)) (omega arith) (omega arith))
at_point c s room before LockOwnerLoad at inside stands few =
    rw (at, at)
    (spends c.push (length c.seats) before room (length c.seats + 7) 2 LockOwnerLoad _
    (of_points c.push (length c.seats) room (length c.seats + 7) 2 (nat_eq c.owner s) LockCountSubtract (PushLoad Pusher.Locker)
    (omega arith, omega arith) (omega arith, omega arith)) (omega arith) (omega arith))
at_point c s room before LockCountSubtract at inside stands few =
    rw (at, at) (spends c.push (length c.seats) before room 0 0 LockCountSubtract Rest (omega arith, omega arith) (omega arith) (omega arith))
at_point c s room before TryCountExchange at inside stands few =
    rw (at, at)
    (spends c.push (length c.seats) before room 5 0 TryCountExchange _
    (of_points c.push (length c.seats) room 5 0 (nat_eq c.count 0) (EnterOwnerStore Entrant.Trier How.Free) TryOwnerLoad
    (omega arith, omega arith) (omega arith, omega arith)) (omega arith) (omega arith))
at_point c s room before TryOwnerLoad at inside stands few =
    rw (at, at)
    (spends c.push (length c.seats) before room 4 0 TryOwnerLoad _
    (of_turns c.push (length c.seats) room 4 0 (nat_eq c.owner s) (record { seat = deepens (seat c.seats s); turn = Ended (Answer.Locked (Locked.Again ((seat c.seats s).depth + 1))) })
    (goes_on (seat c.seats s) TryHandoffLoad)
    (omega arith, omega arith) (omega arith, omega arith)) (omega arith) (omega arith))
at_point c s room before TryHandoffLoad at inside stands few =
    rw (at, at)
    (spends c.push (length c.seats) before room 3 0 TryHandoffLoad _
    (of_turns c.push (length c.seats) room 3 0 (nat_eq c.handoff.seat 0) (busy (seat c.seats s)) (goes_on (seat c.seats s) (TryHandoffExchange c.handoff))
    (omega arith, omega arith) (omega arith, omega arith)) (omega arith) (omega arith))
at_point c s room before (TryHandoffExchange seen) at inside stands few =
    rw (at, at)
    (spends c.push (length c.seats) before room 2 0 (TryHandoffExchange seen) _
    (of_tried c.push (length c.seats) room (seat c.seats s) (same_handoff c.handoff seen)) (omega arith) (omega arith))
at_point c s room before TryCountAdd at inside stands few =
    rw (at, at) (spends c.push (length c.seats) before room 1 0 TryCountAdd (EnterOwnerStore Entrant.Trier How.Free) (omega arith, omega arith) (omega arith) (omega arith))
at_point c s room before (SendWakeExchange t) at inside stands few =
    rw (at, at, claims_push c t (wake c.wakes t))
    (spends c.push (length c.seats) before room (length c.seats + 8) 2 (SendWakeExchange t) _
    (of_claims c.push (length c.seats) room (seat c.seats s) t (wake c.wakes t)) (omega arith) (omega arith))
at_point c s room before (SendCountAdd t) at inside stands few =
    rw (at, at)
    (spends c.push (length c.seats) before room (length c.seats + 7) 2 (SendCountAdd t) _
    (of_points c.push (length c.seats) room (length c.seats + 7) 2 (nat_eq c.count 0) (SendWakeStore t) (PushLoad (Pusher.Sender t))
    (omega arith, omega arith) (omega arith, omega arith)) (omega arith) (omega arith))
at_point c s room before (SendPushRecheck t seen) at inside stands few =
    rw (at, at)
    (spends c.push (length c.seats) before room (length c.seats + 2) 1 (SendPushRecheck t seen) _
    (of_turns c.push (length c.seats) room (length c.seats + 2) 1 (nat_eq c.push.next 0) (ends (seat c.seats s) Sent)
    (goes_on (seat c.seats s) (PushedHandoffExchange (Pusher.Sender t) seen))
    (omega arith, omega arith) (omega arith, omega arith)) (omega arith) (omega arith))
at_point c s room before (SendWakeStore t) at inside stands few =
    rw (at, at) (spends c.push (length c.seats) before room 0 0 (SendWakeStore t) Rest (omega arith, omega arith) (omega arith) (omega arith))
at_point c s room before (PushLoad pusher) at inside stands few =
    rw (at, at)
    (spends c.push (length c.seats) before room (length c.seats + 6) 2 (PushLoad pusher) (LinkStore pusher c.push)
    (link_store_due c.push (length c.seats) room pusher) (omega arith) (omega arith))
at_point c s room before (LinkStore pusher seen) at inside stands few =
    rw (at, at)
    (spends c.push (length c.seats) before room (length c.seats + 5 + again_unless (same_link c.push seen)) 2 (LinkStore pusher seen) (PushExchange pusher seen)
    (omega arith, omega arith) (omega arith) (omega arith))
at_point c s room before (PushExchange pusher seen) at inside stands few =
    rw (at, at) (exchange_spends c.push _ (length c.seats) before room pusher seen (same_link c.push seen) refl)
at_point c s room before (PushedHandoffLoad pusher) at inside stands few =
    rw (at, at)
    (spends c.push (length c.seats) before room (length c.seats + 3) 1 (PushedHandoffLoad pusher) _
    (of_turns c.push (length c.seats) room (length c.seats + 3) 1 (nat_eq c.handoff.seat 0) (pushed (seat c.seats s) pusher)
    (goes_on (seat c.seats s) (found_posted pusher c.handoff))
    (of_pushed c.push (length c.seats) room (length c.seats + 3) 1 (seat c.seats s) pusher) (of_found_posted c.push (length c.seats) room pusher c.handoff)) (omega arith) (omega arith))
at_point c s room before (PushedHandoffExchange pusher seen) at inside stands few =
    rw (at, at)
    (spends c.push (length c.seats) before room (due_to_clear (length c.seats) (carrier_of pusher)) 1 (PushedHandoffExchange pusher seen) _
    (of_turns c.push (length c.seats) room (due_to_clear (length c.seats) (carrier_of pusher)) 1 (same_handoff c.handoff seen)
    (goes_on (seat c.seats s) (take (carrier_of pusher) s (oldest c.popped))) (pushed (seat c.seats s) pusher)
    (of_take c.push (length c.seats) room (carrier_of pusher) s (oldest c.popped))
    (of_pushed c.push (length c.seats) room (due_to_clear (length c.seats) (carrier_of pusher)) 1 (seat c.seats s) pusher)) (exchange_due (length c.seats) pusher) (omega arith))
at_point c s room before (ReleaseOwnerStore releaser) at inside stands few =
    rw (at, at)
    (spends c.push (length c.seats) before room (length c.seats + 6 + waits_on releaser) 1 (ReleaseOwnerStore releaser) (ReleaseCountSubtract releaser)
    (omega arith, omega arith) (omega arith) (omega arith))
at_point c s room before (ReleaseCountSubtract releaser) at inside stands few =
    rw (at, at)
    (spends c.push (length c.seats) before room (length c.seats + 5 + waits_on releaser) 1 (ReleaseCountSubtract releaser) _
    (of_turns c.push (length c.seats) room (length c.seats + 5 + waits_on releaser) 1 (nat_eq c.count 1) (releases (seat c.seats s) releaser Free)
    (goes_on (seat c.seats s) (take (Carrier.Releaser releaser) s (oldest c.popped)))
    (of_release c.push (length c.seats) room (length c.seats + 5 + waits_on releaser) 1 (seat c.seats s) releaser Free (omega arith))
    (of_take c.push (length c.seats) room (Carrier.Releaser releaser) s (oldest c.popped))) (omega arith) (omega arith))
at_point c s room before (ReleaseHandoffStore releaser) at inside stands few =
    rw (at, at)
    (spends c.push (length c.seats) before room (length c.seats + 3 + waits_on releaser) 1 (ReleaseHandoffStore releaser) (ReleasePushRecheck releaser)
    (omega arith, omega arith) (omega arith) (omega arith))
at_point c s room before (ReleasePushRecheck releaser) at inside stands few =
    rw (at, at)
    (spends c.push (length c.seats) before room (length c.seats + 2 + waits_on releaser) 1 (ReleasePushRecheck releaser) _
    (of_turns c.push (length c.seats) room (length c.seats + 2 + waits_on releaser) 1 (nat_eq c.push.next 0) (releases (seat c.seats s) releaser Posted)
    (goes_on (seat c.seats s) (ReleaseHandoffExchange releaser))
    (of_release c.push (length c.seats) room (length c.seats + 2 + waits_on releaser) 1 (seat c.seats s) releaser Posted (omega arith))
    (omega arith, omega arith)) (omega arith) (omega arith))
at_point c s room before (ReleaseHandoffExchange releaser) at inside stands few =
    rw (at, at)
    (spends c.push (length c.seats) before room (length c.seats + 1 + waits_on releaser) 1 (ReleaseHandoffExchange releaser) _
    (of_turns c.push (length c.seats) room (length c.seats + 1 + waits_on releaser) 1 (same_handoff c.handoff (record { seat = s; post = (seat c.seats s).posts }))
    (goes_on (seat c.seats s) (take (Carrier.Reclaimer releaser) s (oldest c.popped))) (releases (seat c.seats s) releaser TakenOver)
    (of_take c.push (length c.seats) room (Carrier.Reclaimer releaser) s (oldest c.popped))
    (of_release c.push (length c.seats) room (length c.seats + 1 + waits_on releaser) 1 (seat c.seats s) releaser TakenOver (omega arith))) (omega arith) (omega arith))
at_point c s room before (WaitWakeStore released) at inside stands few =
    rw (at, at) (spends c.push (length c.seats) before room 0 0 (WaitWakeStore released) (Asleep Sleeper.Waiter) (omega arith, omega arith) (omega arith) (omega arith))
at_point c s room before (TakeClearHead carrier) at inside stands few =
    rw (at, at) (clear_spends c.push (length c.seats) before room carrier few)
at_point c s room before (GrantWakeStore carrier r) at inside stands few =
    rw (at, at)
    (spends c.push (length c.seats) before room (wait_of carrier) 0 (GrantWakeStore carrier r) _
    (of_granted c.push (length c.seats) room 0 (seat c.seats s) carrier r) (omega arith) (omega arith))
at_point c s room before (EnterOwnerStore entrant how) at inside stands few =
    rw (at, at) (spends c.push (length c.seats) before room 0 0 (EnterOwnerStore entrant how) Rest (omega arith, omega arith) (omega arith) (omega arith))
at_point c s room before (ReceiveWakeLoad sleeper) at inside stands few =
    rw (at, at)
    (spends c.push (length c.seats) before room 2 0 (ReceiveWakeLoad sleeper) _
    (of_received c.push (length c.seats) room (seat c.seats s) sleeper (wake c.wakes s)) (omega arith) (omega arith))
at_point c s room before (ReceiveWakeStore stamp) at inside stands few =
    rw (at, at)
    (spends c.push (length c.seats) before room 1 0 (ReceiveWakeStore stamp) (EnterOwnerStore Entrant.Receiver (how_granted stamp)) (omega arith, omega arith) (omega arith) (omega arith))

-- the room that collecting needs: a carrier other than a locker is apart from the queue, so the pop list has at most two
-- records fewer than there are seats
serve_fits : (c : Core) (g : Ghost) (s : ℕ) (carrier : Carrier) → Fits c g → IsSeat c.seats s → StandsAsCarrier (g.standing s) carrier → 0 < g.walk
    → 1 ≤ room_left c → 2 + wait_of carrier ≤ due_to_walk (room_left c) carrier
serve_fits c g s Carrier.Locker fits is stands some room = omega (arith, room)
serve_fits c g s (Carrier.Releaser releaser) fits is stands some room = let few = walk_room c g s fits is stands some in omega (arith, few)
serve_fits c g s (Carrier.Reclaimer releaser) fits is stands some room = let few = walk_room c g s fits is stands some in omega (arith, few)
serve_fits c g s Carrier.Sender fits is stands some room = let few = walk_room c g s fits is stands some in omega (arith, few)

walk_fits : (room room' : ℕ) (carrier : Carrier) → 1 + room' ≡ room → 1 + due_to_walk room' carrier ≤ due_to_walk room carrier
walk_fits room room' Carrier.Locker less = omega (arith, less)
walk_fits room room' (Carrier.Releaser releaser) less = omega (arith, less)
walk_fits room room' (Carrier.Reclaimer releaser) less = omega (arith, less)
walk_fits room room' Carrier.Sender less = omega (arith, less)

at_walk : (c : Core) (g : Ghost) (s : ℕ) (p : Point) → (seat c.seats s).point ≡ p → Fits c g → is_walking p ≡ true → PopFits (length c.popped) (length c.seats) (kind p)
    → Spends c.push (made c s).core.push (length c.seats) (room_left c) (length c.seats - length (made c s).core.popped) p (stepped c s).seat.point
at_walk c g s (TakeLinkLoad carrier next) at fits walks pops =
    let here = fits.each s in
    let some : 0 < g.walk = (rw at at here.knows).0 in
    let stands = rw at at here.stands in
    let is = seat_of_call c s (rw at refl) in
    let r = loaded next (link c.links next) in
    let less : 1 + (length c.seats - length (r ∷ c.popped)) ≡ room_left c = omega (arith, pops) in
    rw (at, at)
    (walk_spends c.push (length c.seats) (room_left c) (length c.seats - length (r ∷ c.popped)) carrier s (link c.links next).next next r less
    (serve_fits c g s carrier fits is stands some (omega (arith, pops))) (walk_fits _ _ carrier less))
at_walk c g s _ at fits walks pops = absurd (false≢true walks)

-- an own step of an open call
pub own_spends : (c : Core) (g : Ghost) (s : ℕ) → Fits c g → is_call (seat c.seats s).point ≡ true
    → Spends c.push (made c s).core.push (length c.seats) (room_left c) (length c.seats - length (made c s).core.popped) (seat c.seats s).point (stepped c s).seat.point
own_spends c g s fits inside =
    elim (cases_Bool (is_walking (seat c.seats s).point)) [
      | inl walks ↦
          at_walk c g s (seat c.seats s).point refl fits walks (pops_of_fits c g s fits)
      | inr stands ↦ at_point c s (length c.seats - length (made c s).core.popped) (room_left c) (seat c.seats s).point refl inside stands (omega arith)
    ]
