-- A queued seat whose `lock` has not ended, one event at a time: its call ends within two rounds, or carries. So a record that
-- leaves later leaves its seat at most four rounds from the hold.
use Rattle.std.proofs.Common.{◌≡◌, ℕ, zero, suc, Bool, true, false, ◌+◌, ◌-◌, ◌≤◌, ◌<◌, ◌++◌, Option, Some, None, List, [], ◌∷◌, length, nat_eq, refl, sym, ap, subst, ◌∙◌, inl, inr, arith}
use Rattle.std.specs.Prelude.{◌⊎◌, if◌then◌else◌}
use Rattle.std.proofs.lemmas.Bool.{cases_Bool, cases_eq, false≢true}
use Rattle.lfm_protocol.specs.declared.answers.Call.{Call}
use Rattle.lfm_protocol.specs.declared.answers.Call.TheVariants.{Lock, TryLock, Unlock, StartWait, SendLock, Receive}
use Rattle.lfm_protocol.specs.declared.points.Carrier.{Carrier}
use Rattle.lfm_protocol.specs.declared.points.Point.{Point}
use Rattle.lfm_protocol.specs.declared.points.Point.TheVariants.{Rest, Asleep, LockOwnerLoad, PushLoad, LinkStore, PushExchange, PushedHandoffLoad, PushedHandoffExchange, TakeClearHead, TakeLinkLoad, GrantWakeStore, EnterOwnerStore, ReceiveWakeLoad}
use Rattle.lfm_protocol.specs.declared.points.Pusher.{Pusher}
use Rattle.lfm_protocol.specs.declared.points.Releaser.{Releaser}
use Rattle.lfm_protocol.specs.declared.points.Sleeper.{Sleeper}
use Rattle.lfm_protocol.specs.declared.seats.SeatState.{SeatState}
use Rattle.lfm_words.specs.declared.pop_lists.Record.{Record}
use Rattle.lfm_words.specs.declared.wakes.Wake.{Wake}
use Rattle.lfm_words.specs.Popped.{oldest}
use Rattle.lfm_protocol.specs.After.{same_handoff, serves, take, once_cleared, granted, loaded, receives}
use Rattle.lfm_protocol.specs.Core.{Core, limits}
use Rattle.lfm_protocol.specs.Queue.{queue_of}
use Rattle.lfm_protocol.specs.Seats.{seat, link, wake, is_seat, IsSeat}
use Rattle.lfm_protocol.specs.Step.{made, begin}
use Rattle.lfm_laws.specs.laws.Rounds.{GoesOnBy}
use Rattle.lfm_laws.specs.laws.Schedules.{Event, begins, makes, happens, is_call}
use Rattle.lfm_laws.specs.steady.Ghost.{apart, asks, queued, Ghost}
use Rattle.lfm_laws.specs.steady.Numbered.{records}
use Rattle.lfm_laws.specs.steady.Steady.{Fits}
use Rattle.lfm_laws.proofs.lawful.bounds.Leaving.{own_made, other_made, begun_other, begin_leaves}
use Rattle.lfm_laws.proofs.lawful.bounds.LockFree.{idle_made}
use Rattle.lfm_laws.proofs.lawful.bounds.Served.{begun_view}
use Rattle.lfm_laws.proofs.lawful.read.QueueRead.{queue_read}
use Rattle.lfm_laws.proofs.lawful.runs.Reached.{absent_tested}
use Rattle.lfm_laws.proofs.steady.frames.Seated.{seat_of_point, seat_of_test, test_of_seat}
use Rattle.lfm_laws.proofs.lawful.rounds.Events.{no_start, is_receive, refused_asleep}

-- the rounds until a queued seat at this point has ended its `lock`, unless it takes a post over
abbrev pub awake_weight : Point → ℕ
awake_weight (PushedHandoffLoad Pusher.Locker) = 2
awake_weight (PushedHandoffExchange Pusher.Locker seen) = 1
awake_weight _ = 0

-- The standing of a queued seat

records_at : (f : ℕ → ℕ) (last n : ℕ) (first behind : List Record) (x : Record) → records f last n ≡ first ++ (x ∷ behind)
    → (x.seat ≡ f (last + length first + 1)) × (length first < n)
records_at f last zero [] behind x e = absurd (cc)
records_at f last zero (z ∷ first) behind x e = absurd (cc)
records_at f last (suc n) [] behind x e =
    let same : record { seat = f (last + 1); stamp = last + 1 } ≡ x = cc in
    let none : last + 0 + 1 ≡ last + 1 = omega arith in
    (sym (ap (λ (r : Record). r.seat) same) ∙ ap f (sym none), omega arith)
records_at f last (suc n) (z ∷ first) behind x e =
    let later = records_at f (last + 1) n first behind x (cc) in
    let sum : (last + 1) + length first + 1 ≡ last + length (z ∷ first) + 1 = omega arith in
    (later.0 ∙ ap f sum, omega (arith, later.1))

pub queued_stands : (c : Core) (g : Ghost) (first behind : List Record) (x : Record) → Fits c g → queue_of c ≡ first ++ (x ∷ behind)
    → (stamp : ℕ) × (g.standing x.seat ≡ queued stamp)
queued_stands c g first behind x fits queue =
    let there = records_at g.pushed_at g.popped (g.pushed - g.popped) first behind x (sym (queue_read c g fits) ∙ queue) in
    let few = there.1 in
    let stands = (fits.stamps (g.popped + length first + 1) (omega arith) (omega (arith, few))).stands in
    (g.popped + length first + 1, ap g.standing there.0 ∙ stands)

-- Its own step

weight_if : (b : Bool) (p q : Point) → awake_weight p ≡ 0 → awake_weight q ≡ 0 → awake_weight (if b then p else q) ≡ 0
weight_if true p q first second = first
weight_if false p q first second = second

serves_weight : (carrier : Carrier) (s : ℕ) (r : Record) → awake_weight (serves carrier s r) ≡ 0
serves_weight Carrier.Locker s r = weight_if (nat_eq r.seat s) _ (GrantWakeStore Carrier.Locker r) refl refl
serves_weight (Carrier.Releaser releaser) s r = refl
serves_weight (Carrier.Reclaimer releaser) s r = refl
serves_weight Carrier.Sender s r = refl

take_weight : (s : ℕ) (o : Option Record) → awake_weight (take Carrier.Locker s o) ≡ 0
take_weight s None = refl
take_weight s (Some r) = serves_weight Carrier.Locker s r

cleared_weight : (carrier : Carrier) (head : ℕ) → awake_weight (once_cleared carrier head) ≡ 0
cleared_weight Carrier.Locker head = refl
cleared_weight (Carrier.Releaser releaser) head = weight_if (nat_eq head 0) _ _ refl refl
cleared_weight (Carrier.Reclaimer releaser) head = refl
cleared_weight Carrier.Sender head = refl

granted_weight : (x : SeatState) (carrier : Carrier) (r : Record) → awake_weight (granted x carrier r).seat.point ≡ 0
granted_weight x Carrier.Locker r = refl
granted_weight x (Carrier.Releaser Releaser.Unlocker) r = refl
granted_weight x (Carrier.Releaser Releaser.Waiter) r = refl
granted_weight x (Carrier.Reclaimer Releaser.Unlocker) r = refl
granted_weight x (Carrier.Reclaimer Releaser.Waiter) r = refl
granted_weight x Carrier.Sender r = refl

received_weight : (x : SeatState) (sleeper : Sleeper) (w : Wake) → awake_weight (receives x sleeper w).seat.point ≡ 0
received_weight x sleeper (Wake.Grant stamp) = refl
received_weight x sleeper _ = refl

to_none : (c : Core) (u n : ℕ) (x : SeatState) → seat (made c u).core.seats u ≡ x → awake_weight x.point ≡ 0 → awake_weight (seat (made c u).core.seats u).point ≤ n
to_none c u n x view none = rw view (omega (arith, none))

own_awake : (c : Core) (g : Ghost) (u j : ℕ) (p : Point) → (seat c.seats u).point ≡ p → Fits c g → IsSeat c.seats u → g.standing u ≡ queued j
    → awake_weight (seat (made c u).core.seats u).point ≤ awake_weight p - 1
own_awake c g u j (Asleep since) at fits is stands = rw (idle_made c u (Asleep since) at refl) (rw at (omega arith))
own_awake c g u j (ReceiveWakeLoad sleeper) at fits is stands =
    to_none c u 0 (receives (seat c.seats u) sleeper (wake c.wakes u)).seat (own_made c u is ∙ rw (at, at) refl) (received_weight (seat c.seats u) sleeper (wake c.wakes u))
own_awake c g u j (PushedHandoffLoad Pusher.Locker) at fits is stands =
    elim (cases_Bool (nat_eq c.handoff.seat 0)) [
      | inl none ↦ to_none c u 1 (record (seat c.seats u) { point = Asleep Sleeper.Locker }) (own_made c u is ∙ rw (at, at, none) refl) refl
      | inr some ↦
          let view : seat (made c u).core.seats u ≡ record (seat c.seats u) { point = PushedHandoffExchange Pusher.Locker c.handoff } = own_made c u is ∙ rw (at, at, some) refl in
          rw view (omega arith)
    ]
own_awake c g u j (PushedHandoffExchange Pusher.Locker seen) at fits is stands =
    elim (cases_Bool (same_handoff c.handoff seen)) [
      | inl won ↦
          to_none c u 0 (record (seat c.seats u) { point = take Carrier.Locker u (oldest c.popped) }) (own_made c u is ∙ rw (at, at, won) refl) (take_weight u (oldest c.popped))
      | inr lost ↦ to_none c u 0 (record (seat c.seats u) { point = Asleep Sleeper.Locker }) (own_made c u is ∙ rw (at, at, lost) refl) refl
    ]
own_awake c g u j (TakeClearHead carrier) at fits is stands =
    to_none c u 0 (record (seat c.seats u) { point = once_cleared carrier c.push.next }) (own_made c u is ∙ rw (at, at) refl) (cleared_weight carrier c.push.next)
own_awake c g u j (TakeLinkLoad carrier next) at fits is stands =
    to_none c u 0 (record (seat c.seats u) { point = if nat_eq (link c.links next).next 0 then serves carrier u (loaded next (link c.links next)) else TakeLinkLoad carrier (link c.links next).next })
    (own_made c u is ∙ rw (at, at) refl) (weight_if (nat_eq (link c.links next).next 0) _ _ (serves_weight carrier u (loaded next (link c.links next))) refl)
own_awake c g u j (GrantWakeStore carrier r) at fits is stands =
    to_none c u 0 (granted (seat c.seats u) carrier r).seat (own_made c u is ∙ rw (at, at) refl) (granted_weight (seat c.seats u) carrier r)
own_awake c g u j (EnterOwnerStore entrant how) at fits is stands =
    to_none c u 0 (record (seat c.seats u) { point = Rest; depth = 1 }) (own_made c u is ∙ rw (at, at) refl) refl
own_awake c g u j (PushLoad Pusher.Locker) at fits is stands = absurd (let e : queued j ≡ asks u = rw (at, stands) at (fits.each u).stands in cc)
own_awake c g u j (PushLoad (Pusher.Sender t)) at fits is stands = absurd (let e : queued j ≡ apart = rw (at, stands) at (fits.each u).stands in cc)
own_awake c g u j (LinkStore Pusher.Locker seen) at fits is stands = absurd (let e : queued j ≡ asks u = rw (at, stands) at (fits.each u).stands in cc)
own_awake c g u j (LinkStore (Pusher.Sender t) seen) at fits is stands = absurd (let e : queued j ≡ apart = rw (at, stands) at (fits.each u).stands in cc)
own_awake c g u j (PushExchange Pusher.Locker seen) at fits is stands = absurd (let e : queued j ≡ asks u = rw (at, stands) at (fits.each u).stands in cc)
own_awake c g u j (PushExchange (Pusher.Sender t) seen) at fits is stands = absurd (let e : queued j ≡ apart = rw (at, stands) at (fits.each u).stands in cc)
own_awake c g u j (PushedHandoffLoad (Pusher.Sender t)) at fits is stands = absurd (let e : queued j ≡ apart = rw (at, stands) at (fits.each u).stands in cc)
own_awake c g u j (PushedHandoffExchange (Pusher.Sender t) seen) at fits is stands = absurd (let e : queued j ≡ apart = rw (at, stands) at (fits.each u).stands in cc)
own_awake c g u j LockOwnerLoad at fits is stands = absurd (asks_or_apart (nat_eq (seat c.seats u).depth 0) (rw (at, stands) at (fits.each u).stands))
  where
    asks_or_apart : (b : Bool) → queued j ≡ (if b then asks u else apart) → ⊥
    asks_or_apart true e = cc
    asks_or_apart false e = cc
own_awake c g u j _ at fits is stands = absurd (let e : queued j ≡ apart = rw (at, stands) at (fits.each u).stands in cc)

-- Any event

-- a queued seat has a call open, or sleeps
busy_or_asleep : (c : Core) (g : Ghost) (u j : ℕ) (p : Point) → (seat c.seats u).point ≡ p → Fits c g → g.standing u ≡ queued j
    → (is_call p ≡ true) ⊎ ((since : Sleeper) × (p ≡ Asleep since))
busy_or_asleep c g u j Rest at fits stands = absurd (let e : queued j ≡ apart = rw (at, stands) at (fits.each u).stands in cc)
busy_or_asleep c g u j (Asleep since) at fits stands = inr (since, refl)
busy_or_asleep c g u j _ at fits stands = inl refl

asleep_begins : (c : Core) (u : ℕ) (call : Call) (since : Sleeper) → (seat c.seats u).point ≡ Asleep since → awake_weight (seat (begin c u call).core.seats u).point ≡ 0
asleep_begins c u call since at =
    let is = seat_of_point c.seats u (λ rests. let e = sym at ∙ rests in cc) in
    let known = test_of_seat c.seats u is in
    by_call is known call
  where
    refused : IsSeat c.seats u → is_seat c.seats u ≡ true → (call : Call) → is_receive call ≡ false → awake_weight (seat (begin c u call).core.seats u).point ≡ 0
    refused is known call other = rw (begun_view c u call is known ∙ refused_asleep (seat c.seats u) (limits c) call (seat c.seats u).point since at other) (rw at refl)

    by_call : IsSeat c.seats u → is_seat c.seats u ≡ true → (call : Call) → awake_weight (seat (begin c u call).core.seats u).point ≡ 0
    by_call is known Receive = rw (begun_view c u Receive is known) (rw at refl)
    by_call is known Lock = refused is known Lock refl
    by_call is known TryLock = refused is known TryLock refl
    by_call is known Unlock = refused is known Unlock refl
    by_call is known StartWait = refused is known StartWait refl
    by_call is known (SendLock t) = refused is known (SendLock t) refl

begun_awake : (c : Core) (g : Ghost) (t u j : ℕ) (call : Call) → Fits c g → g.standing u ≡ queued j
    → awake_weight (seat (begin c t call).core.seats u).point ≤ awake_weight (seat c.seats u).point
begun_awake c g t u j call fits stands =
    elim (busy_or_asleep c g u j (seat c.seats u).point refl fits stands) [
      | inl inside ↦ rw (begin_leaves c t u call inside).view (omega arith)
      | inr sleeps ↦ elim (cases_eq u t) [
        | inl own ↦
            let none = asleep_begins c u call sleeps.0 sleeps.1 in
            subst (λ (y : ℕ). awake_weight (seat (begin c y call).core.seats u).point ≤ awake_weight (seat c.seats u).point) own (omega (arith, none))
        | inr other ↦ rw (begun_other c t u call other) (omega arith)
      ]
    ]

-- no event raises the weight of a queued seat
pub awake_stays : (c : Core) (g : Ghost) (u j : ℕ) (e : Event) → Fits c g → g.standing u ≡ queued j
    → awake_weight (seat (happens c e).core.seats u).point ≤ awake_weight (seat c.seats u).point
awake_stays c g u j (begins t call) fits stands = begun_awake c g t u j call fits stands
awake_stays c g u j (makes t) fits stands =
    elim (cases_Bool (is_seat c.seats t)) [
      | inr none ↦ rw none (omega arith)
      | inl known ↦ rw known (elim (cases_eq u t) [
        | inl own ↦
            let is : IsSeat c.seats u = rw (sym own) at (seat_of_test c.seats t known) in
            let less = own_awake c g u j (seat c.seats u).point refl fits is stands in
            subst (λ (y : ℕ). awake_weight (seat (made c y).core.seats u).point ≤ awake_weight (seat c.seats u).point) own (omega (arith, less))
        | inr other ↦ rw (other_made c t u other) (omega arith)
      ])
    ]

-- an event by which the seat goes on lowers it, if it is above 0
pub awake_falls : (c : Core) (g : Ghost) (u j : ℕ) (e : Event) → Fits c g → g.standing u ≡ queued j → GoesOnBy c u e
    → awake_weight (seat (happens c e).core.seats u).point ≤ awake_weight (seat c.seats u).point - 1
awake_falls c g u j (begins t call) fits stands going =
    elim (busy_or_asleep c g u j (seat c.seats u).point refl fits stands) [
      | inl inside ↦ absurd (no_start c t u call inside going)
      | inr sleeps ↦
          let less = begun_awake c g t u j call fits stands in
          let none : awake_weight (seat c.seats u).point ≡ 0 = rw sleeps.1 refl in
          omega (arith, less, none)
    ]
awake_falls c g u j (makes t) fits stands going =
    elim (cases_Bool (is_seat c.seats u)) [
      | inl known ↦
          let less = own_awake c g u j (seat c.seats u).point refl fits (seat_of_test c.seats u known) stands in
          subst (λ (y : ℕ). awake_weight (seat (happens c (makes y)).core.seats u).point ≤ awake_weight (seat c.seats u).point - 1) (sym going.0) (rw known less)
      | inr none ↦ absurd (false≢true (rw (absent_tested c.seats u none) at going.1))
    ]
