-- From the grant, and from the queue, to the hold: each round brings a seat that has its grant nearer, so it owns within five,
-- and within four once its `lock` has ended. A queued record leaves within N + 8k + 7 rounds, and the step by which it leaves
-- grants its seat or makes it the owner. If it leaves after the first two of them, the `lock` of its seat has ended.
use Rattle.std.proofs.Common.{◌≡◌, ℕ, zero, suc, ◌+◌, ◌*◌, ◌≤◌, ◌<◌, ◌++◌, Option, Some, None, List, [], ◌∷◌, length, refl, sym, ap, ◌∙◌, append_assoc, inl, inr, arith}
use Rattle.std.specs.Prelude.{◌⊎◌, Bool, true, false, ◌&&◌, if◌then◌else◌}
use Rattle.std.proofs.lemmas.Bool.{cases_Bool, eq-eqb, false≢true}
use Rattle.std.proofs.lemmas.List.{length-append}
use Rattle.lfm_model.specs.declared.answers.How.{How}
use Rattle.lfm_protocol.specs.declared.points.Entrant.{Entrant}
use Rattle.lfm_protocol.specs.declared.points.Point.{Point}
use Rattle.lfm_protocol.specs.declared.points.Point.TheVariants.{Asleep, EnterOwnerStore, GrantWakeStore, PushedHandoffExchange, PushedHandoffLoad, ReceiveWakeLoad, ReceiveWakeStore, Rest}
use Rattle.lfm_protocol.specs.declared.points.Pusher.{Pusher}
use Rattle.lfm_protocol.specs.declared.points.Sleeper.{Sleeper}
use Rattle.lfm_words.specs.declared.pop_lists.Record.{Record}
use Rattle.lfm_words.specs.declared.wakes.Wake.TheVariants.{Quiet, Waiting, Claimed, Grant}
use Rattle.lfm_protocol.specs.Core.{Core}
use Rattle.lfm_protocol.specs.Queue.{queue_of}
use Rattle.lfm_protocol.specs.Seats.{seat, wake, is_seat}
use Rattle.lfm_protocol.specs.Step.{made}
use Rattle.lfm_laws.specs.laws.Events.{popped_at_point}
use Rattle.lfm_laws.specs.laws.HoldingInRounds.{OwnsIn, GrantedSeatsHoldInRounds, QueuedSeatsHoldInRounds}
use Rattle.lfm_laws.specs.laws.Laws.{IsReached}
use Rattle.lfm_laws.specs.laws.Rounds.{CanGoOn, GoesOnBy, GoesOnIn, IsRound, HasRounds, HasUnownedRounds}
use Rattle.lfm_laws.specs.laws.Schedules.{Event, begins, makes, happens, run_of, push_record, popped_in, popped_record, is_call}
use Rattle.lfm_laws.specs.steady.Ghost.{Responsibility, Standing, Ghost}
use Rattle.lfm_laws.specs.steady.EventOutcome.{abstract_place}
use Rattle.lfm_laws.specs.steady.Steady.{Fits, awaits_grant}
use Rattle.lfm_laws.specs.steady.Views.{grant_at, is_apart, is_entered, wake_at, wake_by}
use Rattle.lfm_laws.proofs.lawful.bounds.DueCalls.{granted_word, passed_place}
use Rattle.lfm_laws.proofs.lawful.runs.PushOrder.{queue_goes}
use Rattle.lfm_laws.proofs.lawful.runs.Reached.{absent_tested, event_goes, steady_reached}
use Rattle.lfm_laws.proofs.steady.frames.Entries.{entry-with_same}
use Rattle.lfm_laws.proofs.steady.frames.Seated.{seat_of_queued}
use Rattle.lfm_laws.proofs.steady.grant.Wakings.{place_of_grant}
use Rattle.lfm_laws.proofs.steady.queue.Popping.{first_of}
use Rattle.lfm_laws.proofs.lawful.rounds.GrantedSeats.{rounds_to_hold, has_gained, Comes, awaits, gained, Nearer, owns, nearer, stays, can_come, comes_event}
use Rattle.lfm_laws.proofs.lawful.rounds.QueuedSeats.{awake_weight, awake_stays, awake_falls, queued_stands}
use Rattle.lfm_laws.proofs.lawful.rounds.Runs.{popped_append, queued_seats_are_served_in_rounds}

-- Moments of a run

owns_first : (c : Core) (s : ℕ) (first later : List Event) → OwnsIn c s first → OwnsIn c s (first ++ later)
owns_first c s [] [] own = own
owns_first c s [] (e ∷ later) own = inl own
owns_first c s (e ∷ first) later (inl own) = inl own
owns_first c s (e ∷ first) later (inr soon) = inr (owns_first (happens c e).core s first later soon)

owns_later : (c : Core) (s : ℕ) (first later : List Event) → OwnsIn (run_of c first) s later → OwnsIn c s (first ++ later)
owns_later c s [] later own = own
owns_later c s (e ∷ first) later own = inr (owns_later (happens c e).core s first later own)

owns_now : (c : Core) (s : ℕ) (events : List Event) → c.owner ≡ s → OwnsIn c s events
owns_now c s [] own = own
owns_now c s (e ∷ later) own = inl own

-- Runs

-- a seat that owns within m rounds
pub record WillHold (c : Core) (s m : ℕ) : Type 0 where
  pub ghost_state : Ghost
  pub fits : Fits c ghost_state
  pub comes : Comes c ghost_state s m

more_rounds : (c : Core) (g : Ghost) (s n m : ℕ) → n ≤ m → Comes c g s n → Comes c g s m
more_rounds c g s n m less (awaits place few) = awaits place (omega (arith, less, few))
more_rounds c g s n m less (gained has few) = gained has (omega (arith, less, few))

up_to : (c : Core) (s n m : ℕ) → n ≤ m → WillHold c s n → WillHold c s m
up_to c s n m less here = record { ghost_state = here.ghost_state; fits = here.fits; comes = more_rounds c here.ghost_state s n m less here.comes }

-- what an event does
outcome : (d : Core) (h : Ghost) (s m : ℕ) (going : Type 0) → Fits d h → Nearer d h s m going
    → (d.owner ≡ s) ⊎ (((n : ℕ) × (n < m) × WillHold d s n) ⊎ (WillHold d s m × (going → ⊥)))
outcome d h s m going fits (owns own) = inl own
outcome d h s m going fits (nearer n less comes) = inr (inl (n, less, record { ghost_state = h; fits = fits; comes = comes }))
outcome d h s m going fits (stays comes none) = inr (inr (record { ghost_state = h; fits = fits; comes = comes }, none))

-- what holds after the first event holds of the run
or_later : (c : Core) (s m : ℕ) (e : Event) (later : List Event) → OwnsIn (happens c e).core s later ⊎ WillHold (run_of (happens c e).core later) s m
    → OwnsIn c s (e ∷ later) ⊎ WillHold (run_of c (e ∷ later)) s m
or_later c s m e later (inl own) = inl (inr own)
or_later c s m e later (inr still) = inr still

hold_run : (c : Core) (s m : ℕ) (events : List Event) → WillHold c s m → OwnsIn c s events ⊎ WillHold (run_of c events) s m
hold_run c s m [] here = inr here
hold_run c s m (e ∷ later) here =
    let one = comes_event c here.ghost_state s m e here.fits here.comes in
    elim (outcome (happens c e).core one.to s m (GoesOnBy c s e) one.fits one.outcome) [
      | inl own ↦ inl (inr (owns_now (happens c e).core s later own))
      | inr soon ↦ elim soon [
        | inl less ↦
            let few = less.1 in
            or_later c s m e later (hold_run (happens c e).core s m later (up_to (happens c e).core s less.0 m (omega (arith, few)) less.2))
        | inr same ↦ or_later c s m e later (hold_run (happens c e).core s m later same.0)
      ]
    ]

-- the seat goes on
round_run : (c : Core) (s m : ℕ) (events : List Event) → WillHold c s (suc m) → GoesOnIn c s events → OwnsIn c s events ⊎ WillHold (run_of c events) s m
round_run c s m [] here going = absurd going
round_run c s m (e ∷ later) here going =
    let one = comes_event c here.ghost_state s (suc m) e here.fits here.comes in
    elim (outcome (happens c e).core one.to s (suc m) (GoesOnBy c s e) one.fits one.outcome) [
      | inl own ↦ inl (inr (owns_now (happens c e).core s later own))
      | inr soon ↦ elim soon [
        | inl less ↦
            let few = less.1 in
            or_later c s m e later (hold_run (happens c e).core s m later (up_to (happens c e).core s less.0 m (omega (arith, few)) less.2))
        | inr same ↦ elim going [
          | inl now ↦ absurd (same.1 now)
          | inr next ↦ or_later c s m e later (round_run (happens c e).core s m later same.0 next)
        ]
      ]
    ]

can_go_on : (c : Core) (s m : ℕ) → WillHold c s m → CanGoOn c s
can_go_on c s m here =
    elim (can_come c here.ghost_state s m here.fits here.comes) [
      | inl inside ↦ inl inside
      | inr sleeps ↦
          let place = passed_place here.ghost_state.place s sleeps.0 in
          inr (record {
            since = sleeps.1.0;
            stamp = place.0;
            sleeps = sleeps.1.1;
            word = granted_word c here.ghost_state s place.0 here.fits place.1;
          })
    ]

some_point : (p : Point) → 1 ≤ rounds_to_hold p
some_point (EnterOwnerStore entrant how) = omega arith
some_point (ReceiveWakeStore stamp) = omega arith
some_point (ReceiveWakeLoad sleeper) = omega arith
some_point (Asleep sleeper) = omega arith
some_point _ = omega arith

some_left : (c : Core) (s : ℕ) → WillHold c s 0 → ⊥
some_left c s here = none (seat c.seats s).point here.comes
  where
    none : (p : Point) → Comes c here.ghost_state s 0 → ⊥
    none p (awaits place few) = let some = some_point (seat c.seats s).point in omega (arith, some, few)
    none p (gained has few) = let some = some_point (seat c.seats s).point in omega (arith, some, few)

hold_within : (n : ℕ) (c : Core) (s : ℕ) (events : List Event) → WillHold c s n → HasRounds n c events → OwnsIn c s events
hold_within zero c s events here has = absurd (some_left c s here)
hold_within (suc n) c s events here has =
    let before : List Event = has.0 in
    let round : List Event = has.1 in
    let later : List Event = has.2 in
    rw has.3 (
    elim (hold_run c s (suc n) before here) [
      | inl own ↦ owns_first c s before (round ++ later) own
      | inr at ↦ owns_later c s before (round ++ later) (
          elim (round_run (run_of c before) s n round at (has.4 s (can_go_on (run_of c before) s (suc n) at))) [
            | inl own ↦ owns_first (run_of c before) s round later own
            | inr next ↦ owns_later (run_of c before) s round later (hold_within n (run_of (run_of c before) round) s later next has.5)
          ])
    ])

-- A grant

few_at : (p : Point) → rounds_to_hold p ≤ 5
few_at (EnterOwnerStore entrant how) = omega arith
few_at (ReceiveWakeStore stamp) = omega arith
few_at (ReceiveWakeLoad sleeper) = omega arith
few_at (Asleep sleeper) = omega arith
few_at _ = omega arith

no_grant : (b : Bool) (stamp : ℕ) → (if b then Waiting else Claimed) ≡ Grant stamp → ⊥
no_grant true stamp e = cc
no_grant false stamp e = cc

loaded_at : (place : Responsibility) (standing : Standing) (s stamp : ℕ) (p : Point) → wake_at place standing s p ≡ Grant stamp → has_gained p ≡ true
loaded_at place standing s stamp (ReceiveWakeStore x) e = refl
loaded_at place standing s stamp (Asleep Sleeper.Waiter) e = absurd (no_grant (is_apart standing && (if is_entered place s then false else true)) stamp e)
loaded_at place standing s stamp (ReceiveWakeLoad Sleeper.Waiter) e = absurd (no_grant (is_apart standing && (if is_entered place s then false else true)) stamp e)
loaded_at place standing s stamp _ e = absurd (cc)

comes_by : (c : Core) (g : Ghost) (s stamp : ℕ) (o : Option ℕ) → grant_at g.place s ≡ o → wake_by o g.place (g.standing s) s (seat c.seats s).point ≡ Grant stamp → Comes c g s 5
comes_by c g s stamp (Some k) grant word =
    awaits (ap abstract_place (place_of_grant g.place s k grant)) (few_at (seat c.seats s).point)
comes_by c g s stamp None grant word = gained (loaded_at g.place (g.standing s) s stamp (seat c.seats s).point word) (few_at (seat c.seats s).point)

granted_will_hold : (c : Core) (g : Ghost) (s stamp : ℕ) → Fits c g → wake c.wakes s ≡ Grant stamp → WillHold c s 5
granted_will_hold c g s stamp fits word =
    record { ghost_state = g; fits = fits; comes = comes_by c g s stamp (grant_at g.place s) refl (sym (fits.each s).woken ∙ word) }

-- five rounds, or four if the seat's `lock` has ended
abbrev after_grant : ℕ → ℕ
after_grant zero = 4
after_grant (suc m) = 5

four_at : (p : Point) → awaits_grant p ≡ true → awake_weight p ≤ 0 → rounds_to_hold p ≤ 4
four_at (Asleep sleeper) waits ended = omega arith
four_at (ReceiveWakeLoad sleeper) waits ended = omega arith
four_at (PushedHandoffLoad Pusher.Locker) waits ended = absurd (omega (arith, ended))
four_at (PushedHandoffExchange Pusher.Locker seen) waits ended = absurd (omega (arith, ended))
four_at _ waits ended = absurd (false≢true waits)

four_gained : (p : Point) → has_gained p ≡ true → rounds_to_hold p ≤ 4
four_gained (ReceiveWakeStore stamp) has = omega arith
four_gained (EnterOwnerStore entrant how) has = omega arith
four_gained _ has = absurd (false≢true has)

four_comes : (c : Core) (g : Ghost) (s : ℕ) → Fits c g → awake_weight (seat c.seats s).point ≤ 0 → Comes c g s 5 → Comes c g s 4
four_comes c g s fits ended (awaits place few) =
    let here = passed_place g.place s place in
    let waits = ((fits.each s).granted (rw (here.1, eq-eqb s s refl) refl)).0 in
    awaits place (four_at (seat c.seats s).point waits ended)
four_comes c g s fits ended (gained has few) = gained has (four_gained (seat c.seats s).point has)

granted_within : (m : ℕ) (c : Core) (g : Ghost) (s stamp : ℕ) → Fits c g → wake c.wakes s ≡ Grant stamp → awake_weight (seat c.seats s).point ≤ m
    → WillHold c s (after_grant m)
granted_within zero c g s stamp fits word ended =
    let five = granted_will_hold c g s stamp fits word in
    record { ghost_state = five.ghost_state; fits = five.fits; comes = four_comes c five.ghost_state s five.fits ended five.comes }
granted_within (suc m) c g s stamp fits word ended = granted_will_hold c g s stamp fits word

pub granted_seats_hold_in_rounds : GrantedSeatsHoldInRounds
granted_seats_hold_in_rounds c events s stamp steady word has =
    hold_within 5 c s events (granted_will_hold c steady.ghost_state s stamp steady.fits word) has

-- A record that leaves

-- the step by which a record leaves stores its grant, or makes its seat the owner
abbrev IsServed : Core → Record → Type 0
IsServed d y = (d.owner ≡ y.seat) ⊎ (wake d.wakes y.seat ≡ Grant y.stamp)

pop_at : (c : Core) (g : Ghost) (s : ℕ) (p : Point) (y : Record) → (seat c.seats s).point ≡ p → Fits c g → popped_at_point s p ≡ y ∷ [] → IsServed (made c s).core y
pop_at c g s (GrantWakeStore carrier oldest) y at fits pops =
    let knows = rw at at (fits.each s).knows in
    let first = first_of c g oldest knows.1.0 fits knows.0 knows.1.1 in
    let is = seat_of_queued c g oldest.seat (g.popped + 1) fits first.stands in
    let same : oldest ≡ y = cc in
    let stored : wake (made c s).core.wakes oldest.seat ≡ Grant oldest.stamp =
    rw (at, at) (entry-with_same Quiet c.wakes oldest.seat (Grant oldest.stamp) is.above (rw fits.sizes.wakes is.within)) in
    inr (rw same at stored)
pop_at c g s (EnterOwnerStore Entrant.Locker (How.Queued stamp)) y at fits pops =
    let same : record { seat = s; stamp = stamp } ≡ y = cc in
    let own : s ≡ y.seat = ap (λ (x : Record). x.seat) same in
    inl (rw (at, at) own)
pop_at c g s (EnterOwnerStore Entrant.Locker How.Free) y at fits pops = absurd (cc)
pop_at c g s (EnterOwnerStore Entrant.Trier how) y at fits pops = absurd (cc)
pop_at c g s (EnterOwnerStore Entrant.Receiver how) y at fits pops = absurd (cc)
pop_at c g s _ y at fits pops = absurd (cc)

pop_event : (c : Core) (g : Ghost) (e : Event) (y : Record) → Fits c g → popped_in c e ≡ y ∷ [] → IsServed (happens c e).core y
pop_event c g (begins s call) y fits pops = absurd (cc)
pop_event c g (makes s) y fits pops =
    elim (cases_Bool (is_seat c.seats s)) [
      | inl known ↦ rw known (pop_at c g s (seat c.seats s).point y refl fits pops)
      | inr none ↦ absurd (let e : [] ≡ y ∷ [] = rw (absent_tested c.seats s none) at pops in cc)
    ]

one_or_none : (s : ℕ) (p : Point) → (popped_at_point s p ≡ []) ⊎ ((y : Record) × (popped_at_point s p ≡ y ∷ []))
one_or_none s (GrantWakeStore carrier oldest) = inr (oldest, refl)
one_or_none s (EnterOwnerStore Entrant.Locker (How.Queued stamp)) = inr (record { seat = s; stamp = stamp }, refl)
one_or_none s (EnterOwnerStore Entrant.Locker How.Free) = inl refl
one_or_none s (EnterOwnerStore Entrant.Trier how) = inl refl
one_or_none s (EnterOwnerStore Entrant.Receiver how) = inl refl
one_or_none s _ = inl refl

pops_of : (c : Core) (e : Event) → (popped_in c e ≡ []) ⊎ ((y : Record) × (popped_in c e ≡ y ∷ []))
pops_of c (begins s call) = inl refl
pops_of c (makes s) = one_or_none s (seat c.seats s).point

-- A queued record

-- record x is queued with these before it, and its seat ends its `lock` within m rounds, unless it takes a post over
record Sits (c : Core) (x : Record) (first : List Record) (m : ℕ) : Type 0 where
  ghost_state : Ghost
  fits : Fits c ghost_state
  behind : List Record
  queue : queue_of c ≡ first ++ (x ∷ behind)
  awake : awake_weight (seat c.seats x.seat).point ≤ m

-- after some events: the seat has owned or will, or the record is still queued
abbrev Served : Core → Record → ℕ → Type 0
Served d x m = (d.owner ≡ x.seat) ⊎ WillHold d x.seat (after_grant m)

record Still (d : Core) (x : Record) (first : List Record) (m pops : ℕ) : Type 0 where
  rest : List Record
  size : length rest + pops ≡ length first
  sits : Sits d x rest m

queue_after : (c : Core) (g : Ghost) (e : Event) (first behind : List Record) (x : Record) → Fits c g → queue_of c ≡ first ++ (x ∷ behind)
    → first ++ (x ∷ (behind ++ push_record c (e ∷ []))) ≡ popped_record c (e ∷ []) ++ queue_of (happens c e).core
queue_after c g e first behind x fits queue =
    sym (append_assoc first (x ∷ behind) (push_record c (e ∷ []))) ∙ ap (λ l. l ++ push_record c (e ∷ [])) (sym queue) ∙ queue_goes c g (e ∷ []) fits

one_pop : (c : Core) (g : Ghost) (e : Event) (first more : List Record) (x y : Record) (m : ℕ) (d : Core) (h : Ghost) → Fits d h → IsServed d y
    → first ++ (x ∷ more) ≡ y ∷ queue_of d → awake_weight (seat d.seats x.seat).point ≤ m → Served d x m ⊎ Still d x first m 1
one_pop c g e [] more x y m d h fits served order awake =
    let same : x ≡ y = cc in
    let served : IsServed d x = rw (sym same) at served in
    elim served [
      | inl own ↦ inl (inl own)
      | inr word ↦ inl (inr (granted_within m d h x.seat x.stamp fits word awake))
    ]
one_pop c g e (z ∷ first) more x y m d h fits served order awake =
    inr (record {
      rest = first;
      size = omega arith;
      sits = record { ghost_state = h; fits = fits; behind = more; queue = sym (tail_of first more x z y (queue_of d) order); awake = awake };
    })
  where
    tail_of : (first more : List Record) (x z y : Record) (rest : List Record) → z ∷ (first ++ (x ∷ more)) ≡ y ∷ rest → first ++ (x ∷ more) ≡ rest
    tail_of first more x z y rest e = cc

sits_event : (c : Core) (x : Record) (first : List Record) (k m : ℕ) (e : Event) → Sits c x first k → awake_weight (seat (happens c e).core.seats x.seat).point ≤ m
    → Served (happens c e).core x m ⊎ Still (happens c e).core x first m (length (popped_in c e))
sits_event c x first k m e here awake =
    let goes = event_goes c here.ghost_state e here.fits in
    let order = queue_after c here.ghost_state e first here.behind x here.fits here.queue in
    elim (pops_of c e) [
      | inl none ↦
          let same : first ++ (x ∷ (here.behind ++ push_record c (e ∷ []))) ≡ queue_of (happens c e).core = rw none at order in
          rw none (inr (record {
            rest = first;
            size = omega arith;
            sits = record { ghost_state = goes.to; fits = goes.fits; behind = here.behind ++ push_record c (e ∷ []); queue = sym same; awake = awake };
          }))
      | inr one ↦
          let next : first ++ (x ∷ (here.behind ++ push_record c (e ∷ []))) ≡ one.0 ∷ queue_of (happens c e).core = rw one.1 at order in
          rw one.1 (one_pop c here.ghost_state e first (here.behind ++ push_record c (e ∷ [])) x one.0 m (happens c e).core goes.to goes.fits
          (pop_event c here.ghost_state e one.0 here.fits one.1) next awake)
    ]

-- what a run does
abbrev SitsAfter : Core → List Event → Record → List Record → ℕ → ℕ → Type 0
SitsAfter c events x first k m = (OwnsIn c x.seat events ⊎ WillHold (run_of c events) x.seat (after_grant k)) ⊎ Still (run_of c events) x first m (length (popped_record c events))

served_run : (c : Core) (e : Event) (later : List Event) (x : Record) (first : List Record) (k m : ℕ) → Served (happens c e).core x k → SitsAfter c (e ∷ later) x first k m
served_run c e later x first k m (inl own) = inl (inl (inr (owns_now (happens c e).core x.seat later own)))
served_run c e later x first k m (inr will) = inl (or_later c x.seat (after_grant k) e later (hold_run (happens c e).core x.seat (after_grant k) later will))

still_run : (c : Core) (e : Event) (later : List Event) (x : Record) (first rest : List Record) (k m : ℕ) → length rest + length (popped_in c e) ≡ length first
    → SitsAfter (happens c e).core later x rest k m → SitsAfter c (e ∷ later) x first k m
still_run c e later x first rest k m size (inl left) = inl (or_later c x.seat (after_grant k) e later left)
still_run c e later x first rest k m size (inr still) =
    let sum = length-append (popped_in c e) (popped_record (happens c e).core later) in
    let before = still.size in
    inr (record { rest = still.rest; size = omega (arith, size, sum, before); sits = still.sits })

sits_stays : (c : Core) (x : Record) (first : List Record) (k : ℕ) (e : Event) → Sits c x first k → awake_weight (seat (happens c e).core.seats x.seat).point ≤ k
sits_stays c x first k e here =
    let stands = queued_stands c here.ghost_state first here.behind x here.fits here.queue in
    let less = awake_stays c here.ghost_state x.seat stands.0 e here.fits stands.1 in
    let few = here.awake in
    omega (arith, less, few)

sits_falls : (c : Core) (x : Record) (first : List Record) (k : ℕ) (e : Event) → Sits c x first (suc k) → GoesOnBy c x.seat e
    → awake_weight (seat (happens c e).core.seats x.seat).point ≤ k
sits_falls c x first k e here going =
    let stands = queued_stands c here.ghost_state first here.behind x here.fits here.queue in
    let less = awake_falls c here.ghost_state x.seat stands.0 e here.fits stands.1 going in
    let few = here.awake in
    omega (arith, less, few)

sits_run : (c : Core) (x : Record) (first : List Record) (k : ℕ) (events : List Event) → Sits c x first k → SitsAfter c events x first k k
sits_run c x first k [] here = inr (record { rest = first; size = omega arith; sits = here })
sits_run c x first k (e ∷ later) here =
    elim (sits_event c x first k k e here (sits_stays c x first k e here)) [
      | inl served ↦ served_run c e later x first k k served
      | inr still ↦ still_run c e later x first still.rest k k still.size (sits_run (happens c e).core x still.rest k later still.sits)
    ]

-- a bound of one round more
more_after : (c : Core) (events : List Event) (x : Record) (first : List Record) (k : ℕ) → SitsAfter c events x first k k → SitsAfter c events x first (suc k) k
more_after c events x first zero (inl (inl own)) = inl (inl own)
more_after c events x first zero (inl (inr will)) = inl (inr (up_to (run_of c events) x.seat 4 5 (omega arith) will))
more_after c events x first (suc k) (inl left) = inl left
more_after c events x first k (inr still) = inr still

sits_round : (c : Core) (x : Record) (first : List Record) (k : ℕ) (events : List Event) → Sits c x first (suc k) → GoesOnIn c x.seat events → SitsAfter c events x first (suc k) k
sits_round c x first k [] here going = absurd going
sits_round c x first k (e ∷ later) here (inl now) =
    more_after c (e ∷ later) x first k
    (elim (sits_event c x first (suc k) k e here (sits_falls c x first k e here now)) [
      | inl served ↦ served_run c e later x first k k served
      | inr still ↦ still_run c e later x first still.rest k k still.size (sits_run (happens c e).core x still.rest k later still.sits)
    ])
sits_round c x first k (e ∷ later) here (inr soon) =
    elim (sits_event c x first (suc k) (suc k) e here (sits_stays c x first (suc k) e here)) [
      | inl served ↦ served_run c e later x first (suc k) k served
      | inr still ↦ still_run c e later x first still.rest (suc k) k still.size (sits_round (happens c e).core x still.rest k later still.sits soon)
    ]

-- Parts of a run

pub any_rounds : (n : ℕ) (c : Core) (events : List Event) → HasUnownedRounds n c events → HasRounds n c events
any_rounds zero c events has = tt
any_rounds (suc n) c events has =
    (has.0, has.1, has.2, has.3, has.5, any_rounds n (run_of (run_of c has.0) has.1) has.2 has.6)

run_append : (c : Core) (first later : List Event) → run_of c (first ++ later) ≡ run_of (run_of c first) later
run_append c [] later = refl
run_append c (e ∷ first) later = run_append (happens c e).core first later

regroup : (first second third fourth : List Event) → first ++ (second ++ (third ++ fourth)) ≡ (first ++ (second ++ third)) ++ fourth
regroup first second third fourth =
    ap (λ l. first ++ l) (sym (append_assoc second third fourth)) ∙ sym (append_assoc first (second ++ third) fourth)

record Parts (m n : ℕ) (c : Core) (events : List Event) : Type 0 where
  early : List Event
  late : List Event
  whole : events ≡ early ++ late
  first : HasUnownedRounds m c early
  last : HasUnownedRounds n (run_of c early) late

one_more : (m n : ℕ) (c : Core) (events before round later : List Event) → events ≡ before ++ (round ++ later) → (run_of c before).owner ≡ 0
    → IsRound (run_of c before) round → Parts m n (run_of (run_of c before) round) later → Parts (suc m) n c events
one_more m n c events before round later whole none is rest =
    let there : run_of c (before ++ (round ++ rest.early)) ≡ run_of (run_of (run_of c before) round) rest.early =
    run_append c before (round ++ rest.early) ∙ run_append (run_of c before) round rest.early in
    record {
      early = before ++ (round ++ rest.early);
      late = rest.late;
      whole = whole ∙ ap (λ l. before ++ (round ++ l)) rest.whole ∙ regroup before round rest.early rest.late;
      first = (before, round, rest.early, refl, none, is, rest.first);
      last = rw there rest.last;
    }

parts : (m n : ℕ) (c : Core) (events : List Event) → HasUnownedRounds (m + n) c events → Parts m n c events
parts zero n c events has =
    let none : zero + n ≡ n = omega arith in
    record { early = []; late = events; whole = refl; first = tt; last = rw none at has }
parts (suc m) n c events has =
    let sum : suc m + n ≡ suc (m + n) = omega arith in
    let has : HasUnownedRounds (suc (m + n)) c events = rw sum at has in
    one_more m n c events has.0 has.1 has.2 has.3 has.4 has.5 (parts m n (run_of (run_of c has.0) has.1) has.2 has.6)

-- The law

-- a seat whose `lock` has not ended can go on
awake_calls : (p : Point) (k : ℕ) → (awake_weight p ≤ k → ⊥) → is_call p ≡ true
awake_calls Rest k awake = absurd (awake (omega arith))
awake_calls (Asleep sleeper) k awake = absurd (awake (omega arith))
awake_calls _ k awake = refl

one_round : (c : Core) (x : Record) (first : List Record) (k : ℕ) (round : List Event) → Sits c x first (suc k) → IsRound c round → SitsAfter c round x first (suc k) k
one_round c x first k round here is =
    elim (few_or_more (awake_weight (seat c.seats x.seat).point) k) [
      | inl few ↦
          more_after c round x first k
          (sits_run c x first k round (record { ghost_state = here.ghost_state; fits = here.fits; behind = here.behind; queue = here.queue; awake = few }))
      | inr more ↦ sits_round c x first k round here (is x.seat (inl (awake_calls (seat c.seats x.seat).point k more)))
    ]
  where
    few_or_more : (a k : ℕ) → (a ≤ k) ⊎ (a ≤ k → ⊥)
    few_or_more zero k = inl (omega arith)
    few_or_more (suc a) zero = inr (λ few. omega (arith, few))
    few_or_more (suc a) (suc k) = elim (few_or_more a k) [
      | inl few ↦ inl (omega (arith, few))
      | inr more ↦ inr (λ few. more (omega (arith, few)))
    ]

-- One run after another

left_append : (c : Core) (s m : ℕ) (first later : List Event) → OwnsIn c s first ⊎ WillHold (run_of c first) s m
    → OwnsIn c s (first ++ later) ⊎ WillHold (run_of c (first ++ later)) s m
left_append c s m first later (inl own) = inl (owns_first c s first later own)
left_append c s m first later (inr will) =
    elim (hold_run (run_of c first) s m later will) [
      | inl own ↦ inl (owns_later c s first later own)
      | inr still ↦ inr (rw (run_append c first later) still)
    ]

left_later : (c : Core) (s m : ℕ) (first later : List Event) → OwnsIn (run_of c first) s later ⊎ WillHold (run_of (run_of c first) later) s m
    → OwnsIn c s (first ++ later) ⊎ WillHold (run_of c (first ++ later)) s m
left_later c s m first later (inl own) = inl (owns_later c s first later own)
left_later c s m first later (inr will) = inr (rw (run_append c first later) will)

after_both : (c : Core) (x : Record) (before rest : List Record) (k m n : ℕ) (first later : List Event) → length rest + length (popped_record c first) ≡ length before
    → SitsAfter (run_of c first) later x rest k n → SitsAfter c (first ++ later) x before k n
after_both c x before rest k m n first later size (inl left) = inl (left_later c x.seat (after_grant k) first later left)
after_both c x before rest k m n first later size (inr still) =
    let sum = popped_append c first later in
    let more = still.size in
    inr (record { rest = still.rest; size = omega (arith, size, sum, more); sits = rw (run_append c first later) still.sits })

at_most_five : (k : ℕ) → after_grant k ≤ 5
at_most_five zero = omega arith
at_most_five (suc k) = omega arith

raise : (c : Core) (events : List Event) (x : Record) (first : List Record) (k j m : ℕ) → SitsAfter c events x first k m → SitsAfter c events x first (suc j) m
raise c events x first k j m (inl (inl own)) = inl (inl own)
raise c events x first k j m (inl (inr will)) = inl (inr (up_to (run_of c events) x.seat (after_grant k) 5 (at_most_five k) will))
raise c events x first k j m (inr still) = inr still

-- within n rounds its `lock` ends
awake_rounds : (n : ℕ) (c : Core) (x : Record) (first : List Record) (events : List Event) → Sits c x first n → HasUnownedRounds n c events → SitsAfter c events x first n 0
awake_rounds zero c x first events here has = sits_run c x first 0 events here
awake_rounds (suc n) c x first events here has =
    let before : List Event = has.0 in
    let round : List Event = has.1 in
    let later : List Event = has.2 in
    rw has.3 (
    elim (sits_run c x first (suc n) before here) [
      | inl left ↦ inl (left_append c x.seat 5 before (round ++ later) left)
      | inr start ↦ after_both c x first start.rest (suc n) 0 0 before (round ++ later) start.size (
          elim (one_round (run_of c before) x start.rest n round start.sits has.5) [
            | inl left ↦ inl (left_append (run_of c before) x.seat 5 round later left)
            | inr still ↦ after_both (run_of c before) x start.rest still.rest (suc n) 0 0 round later still.size
                (raise (run_of (run_of c before) round) later x still.rest n n 0 (awake_rounds n (run_of (run_of c before) round) x still.rest later still.sits has.6))
          ])
    ])

fewer : (m n : ℕ) (c : Core) (events : List Event) → HasUnownedRounds (m + n) c events → HasUnownedRounds m c events
fewer zero n c events has = tt
fewer (suc m) n c events has =
    let sum : suc m + n ≡ suc (m + n) = omega arith in
    let has : HasUnownedRounds (suc (m + n)) c events = rw sum at has in
    (has.0, has.1, has.2, has.3, has.4, has.5, fewer m n (run_of (run_of c has.0) has.1) has.2 has.6)

-- The record leaves in the first part, and its seat owns in it, or is at most four rounds from that at its end

light_at : (p : Point) → awake_weight p ≤ 2
light_at (PushedHandoffLoad Pusher.Locker) = omega arith
light_at (PushedHandoffExchange Pusher.Locker seen) = omega arith
light_at _ = omega arith

-- after the two rounds
after_two : (c : Core) (x : Record) (first : List Record) (k : ℕ) (events : List Event) → length first < length (popped_record c events) → (split : Parts 2 (k + 5) c events)
    → SitsAfter c split.early x first 2 0 → OwnsIn c x.seat (split.early ++ split.late) ⊎ WillHold (run_of c (split.early ++ split.late)) x.seat 4
after_two c x first k events left split (inl (inl own)) = inl (owns_first c x.seat split.early split.late own)
after_two c x first k events left split (inl (inr will)) =
    let sum : k + 5 ≡ 5 + k = omega arith in
    let rounds = fewer 5 k (run_of c split.early) split.late (rw sum at split.last) in
    inl (owns_later c x.seat split.early split.late (hold_within 5 (run_of c split.early) x.seat split.late will (any_rounds 5 (run_of c split.early) split.late rounds)))
after_two c x first k events left split (inr still) =
    elim (sits_run (run_of c split.early) x still.rest 0 split.late still.sits) [
      | inl left ↦ left_later c x.seat 4 split.early split.late left
      | inr queued ↦
          let whole = ap (λ l. length (popped_record c l)) split.whole in
          let both = popped_append c split.early split.late in
          let here = still.size in
          let there = queued.size in
          absurd (omega (arith, left, whole, both, here, there))
    ]

left_early : (c : Core) (events : List Event) (first behind : List Record) (x : Record) → IsReached c → queue_of c ≡ first ++ (x ∷ behind)
    → HasUnownedRounds (length c.seats + 8 * length first + 7) c events → OwnsIn c x.seat events ⊎ WillHold (run_of c events) x.seat 4
left_early c events first behind x reached queue has =
    let steady = steady_reached c reached in
    let k : ℕ = length c.seats + 8 * length first in
    let size : length (queue_of c) ≡ length first + length (x ∷ behind) = ap length queue ∙ length-append first (x ∷ behind) in
    let left = queued_seats_are_served_in_rounds c events (length first) reached (omega (arith, size)) has in
    let sum : length c.seats + 8 * length first + 7 ≡ 2 + (k + 5) = omega arith in
    let split = parts 2 (k + 5) c events (rw sum at has) in
    let start : Sits c x first 2 = record {
      ghost_state = steady.ghost_state;
      fits = steady.fits;
      behind = behind;
      queue = queue;
      awake = light_at (seat c.seats x.seat).point;
    } in
    by_whole c x events split.early split.late split.whole (after_two c x first k events left split (awake_rounds 2 c x first split.early start split.first))
  where
    by_whole : (c : Core) (x : Record) (events early late : List Event) → events ≡ early ++ late → OwnsIn c x.seat (early ++ late) ⊎ WillHold (run_of c (early ++ late)) x.seat 4
        → OwnsIn c x.seat events ⊎ WillHold (run_of c events) x.seat 4
    by_whole c x events early late whole left = rw whole left

by_parts : (c : Core) (m : ℕ) (events : List Event) (s : ℕ) → (split : Parts m 4 c events) → OwnsIn c s split.early ⊎ WillHold (run_of c split.early) s 4
    → OwnsIn c s events
by_parts c m events s split (inl own) = rw split.whole (owns_first c s split.early split.late own)
by_parts c m events s split (inr will) =
    rw split.whole (owns_later c s split.early split.late
    (hold_within 4 (run_of c split.early) s split.late will (any_rounds 4 (run_of c split.early) split.late split.last)))

pub queued_seats_hold_in_rounds : QueuedSeatsHoldInRounds
queued_seats_hold_in_rounds c events first behind x reached queue has =
    let enough : ℕ = length c.seats + 8 * length first + 7 in
    let sum : length c.seats + 8 * length first + 11 ≡ enough + 4 = omega arith in
    let split = parts enough 4 c events (rw sum at has) in
    by_parts c enough events x.seat split (left_early c split.early first behind x reached queue split.first)
