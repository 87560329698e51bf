-- From each state that a run reaches a round can be made: one seat after another makes a step, or begins its receive if it
-- sleeps outside of calls on condvars. No other seat changes its point or its stage, so each seat that can go on at the start
-- still can when its event comes.
use Rattle.std.proofs.Common.{◌≡◌, ◌≢◌, ◌⊎◌, ℕ, zero, suc, Bool, true, false, ◌≤◌, ◌<◌, ◌&&◌, List, [], ◌∷◌, length, refl, sym, subst, ◌∙◌, inl, inr, arith, if◌then◌else◌}
use Rattle.std.proofs.lemmas.Bool.{cases_Bool, cases_eq, false≢true}
use Rattle.lfm_protocol.specs.declared.answers.Call.TheVariants.{StartWait, Receive}
use Rattle.lfm_protocol.specs.declared.points.Point.{Point}
use Rattle.lfm_protocol.specs.declared.points.Point.TheVariants.{Rest, Asleep}
use Rattle.lfm_protocol.specs.declared.points.Sleeper.{Sleeper}
use Rattle.lfm_protocol.specs.declared.seats.SeatState.{SeatState}
use Rattle.lfm_words.specs.declared.wakes.Wake.TheVariants.{Waiting, Grant}
use Rattle.lfm_protocol.specs.Core.{Core}
use Rattle.lfm_protocol.specs.Seats.{seat, wake, IsSeat}
use Rattle.lfm_protocol.specs.Step.{begin}
use Rattle.lfm_protocol.specs.Turns.{is_open}
use Rattle.lfm_laws.specs.laws.Rounds.{CanGoOn}
use Rattle.lfm_laws.specs.laws.Schedules.{is_call}
use Rattle.lfm_laws.proofs.lawful.bounds.Leaving.{seat_of_call}
use Rattle.lfm_laws.proofs.lawful.rounds.Made.{opens}
use Rattle.lfm_laws.proofs.steady.frames.Seated.{seat_of_point, test_of_seat}
use Rattle.lfm_condvar_laws.specs.Condvars.{Stage, outside, locking_to_wait, starting, receiving, locking_to_wake, claiming, sending, unlocking, CondvarCore, point_of}
use Rattle.lfm_condvar_laws.specs.Events.{CondvarEvent, begins, makes, is_outside, happens}
use Rattle.lfm_condvar_laws.specs.Laws.{reached_by}
use Rattle.lfm_condvar_laws.specs.Rounds.{GoesOnBy, GoesOnIn, BeginsOnlyReceives, RoundsCanBeMade}
use Rattle.lfm_condvar_laws.proofs.Invariant.{CondvarGhost, StartsAt, StageFits, CoreFits}
use Rattle.lfm_condvar_laws.proofs.LockMoves.{actor, event_moves}
use Rattle.lfm_condvar_laws.proofs.Runs.{run_reaches}
use Rattle.lfm_condvar_laws.proofs.mutex.OwnSeat.{begin_wait_at}

abbrev is_asleep : Point → Bool
is_asleep (Asleep since) = true
is_asleep _ = false

abbrev next_event : CondvarCore → ℕ → CondvarEvent
next_event k s = if is_asleep (point_of k s) && is_outside (k.stage s) then begins s Receive else makes s

abbrev round_of : ℕ → CondvarCore → List CondvarEvent
round_of zero k = []
round_of (suc n) k = next_event k (suc n) ∷ round_of n (happens k (next_event k (suc n)))

-- A seat that goes on

-- at this stage a seat that sleeps can begin a receive
abbrev CanReceive : Stage → Type 0
CanReceive d = (is_outside d ≡ true) ⊎ ((v : ℕ) × (ticket : ℕ) × (d ≡ receiving v ticket))

-- a call is open, or the seat sleeps and can begin a receive
abbrev Goes : Point → Stage → Type 0
Goes p d = (is_call p ≡ true) ⊎ ((since : Sleeper) × (p ≡ Asleep since) × CanReceive d)

call_awake : (p : Point) → is_call p ≡ true → is_asleep p ≡ false
call_awake (Asleep since) inside = absurd (false≢true inside)
call_awake _ inside = refl

own_goes_on : (k : CondvarCore) (s : ℕ) → Goes (point_of k s) (k.stage s) → GoesOnBy k s (next_event k s)
own_goes_on k s (inl inside) = rw (call_awake (point_of k s) inside) (refl, inl inside)
own_goes_on k s (inr (since, sleeps, inl out)) =
    let asleep : is_asleep (point_of k s) ≡ true = rw sleeps refl in
    rw (asleep, out) (refl, out, opens k.mutex s since sleeps)
own_goes_on k s (inr (since, sleeps, inr waits)) =
    let inside : is_outside (k.stage s) ≡ false = rw waits.2 refl in
    let asleep : is_asleep (point_of k s) ≡ true = rw sleeps refl in
    rw (asleep, inside) (refl, inr (record { condvar = waits.0; ticket = waits.1; since = since; waits = waits.2; sleeps = sleeps }))

-- the event of another seat leaves the point and the stage of this one

moved_goes : (k l : CondvarCore) (s : ℕ) → seat l.mutex.seats s ≡ seat k.mutex.seats s → l.stage s ≡ k.stage s → Goes (point_of k s) (k.stage s)
    → Goes (point_of l s) (l.stage s)
moved_goes k l s view stage goes =
    subst (λ (d : Stage). Goes (point_of l s) d) (sym stage) (subst (λ (x : SeatState). Goes x.point (k.stage s)) (sym view) goes)

actor_of_next : (k : CondvarCore) (t : ℕ) → actor (next_event k t) ≡ t
actor_of_next k t =
    elim (cases_Bool (is_asleep (point_of k t) && is_outside (k.stage t))) [
      | inl begins_one ↦ rw begins_one refl
      | inr steps ↦ rw steps refl
    ]

other_next : (k : CondvarCore) (t s : ℕ) → s ≢ t → Goes (point_of k s) (k.stage s) → Goes (point_of (happens k (next_event k t)) s) ((happens k (next_event k t)).stage s)
other_next k t s other goes =
    let moves = event_moves k (next_event k t) in
    let away : s ≢ actor (next_event k t) = λ same. other (same ∙ actor_of_next k t) in
    moved_goes k (happens k (next_event k t)) s (moves.seats s away) (moves.others s away) goes

goes_on_in : (n : ℕ) (k : CondvarCore) (s : ℕ) → 0 < s → s ≤ n → Goes (point_of k s) (k.stage s) → GoesOnIn k s (round_of n k)
goes_on_in zero k s some few goes = absurd (omega (arith, some, few))
goes_on_in (suc n) k s some few goes =
    elim (cases_eq s (suc n)) [
      | inl own ↦ inl (subst (λ (t : ℕ). GoesOnBy k s (next_event k t)) own (own_goes_on k s goes))
      | inr other ↦
          inr (goes_on_in n (happens k (next_event k (suc n))) s some (omega (arith, few, other)) (other_next k (suc n) s other goes))
    ]

-- A seat that can go on

at_rest : (k : CondvarCore) (s : ℕ) (since : Sleeper) → point_of k s ≡ Asleep since → point_of k s ≡ Rest → ⊥
at_rest k s since sleeps rests = let e : Rest ≡ Asleep since = sym rests ∙ sleeps in cc

-- a start_wait that isn't refused is of a seat that is awake
awake_to_wait : (k : CondvarCore) (s : ℕ) (since : Sleeper) → is_open (begin k.mutex s StartWait).turn ≡ true → point_of k s ≡ Asleep since → ⊥
awake_to_wait k s since opens sleeps =
    let is = (begin_wait_at k.mutex s opens).is in
    false≢true (rw (test_of_seat k.mutex.seats s is, sleeps) at opens)

granted_receives : (k : CondvarCore) (g : CondvarGhost) (s stamp : ℕ) (since : Sleeper) (d : Stage) → StageFits k g s d → point_of k s ≡ Asleep since
    → wake k.mutex.wakes s ≡ Grant stamp → CanReceive d
granted_receives k g s stamp since outside own sleeps word = inl refl
granted_receives k g s stamp since (receiving v ticket) own sleeps word = inr (v, ticket, refl)
granted_receives k g s stamp since (locking_to_wait v) own sleeps word = absurd (awake_to_wait k s since own sleeps)
granted_receives k g s stamp since (starting v ticket) own sleeps word = absurd (not_starting own.at)
  where
    not_starting : StartsAt k.mutex s → ⊥
    not_starting (inl waits) = false≢true (rw sleeps at waits)
    not_starting (inr waits) = let e : Waiting ≡ Grant stamp = sym waits.1 ∙ word in cc
granted_receives k g s stamp since (locking_to_wake v all) own sleeps word = absurd (at_rest k s since sleeps own.at)
granted_receives k g s stamp since (claiming v all oldest) own sleeps word = absurd (let e = sym own.at ∙ sleeps in cc)
granted_receives k g s stamp since (sending v all oldest) own sleeps word = absurd (false≢true (rw sleeps at own.at))
granted_receives k g s stamp since (unlocking v) own sleeps word = absurd (at_rest k s since sleeps own.at)

goes_of : (k : CondvarCore) (g : CondvarGhost) (s : ℕ) → CoreFits k g → CanGoOn k.mutex s → Goes (point_of k s) (k.stage s)
goes_of k g s fits (inl inside) = inl inside
goes_of k g s fits (inr grant) =
    inr (grant.since, grant.sleeps, granted_receives k g s grant.stamp grant.since (k.stage s) (fits.stages s) grant.sleeps grant.word)

seat_of : (c : Core) (s : ℕ) → CanGoOn c s → IsSeat c.seats s
seat_of c s (inl inside) = seat_of_call c s inside
seat_of c s (inr grant) = seat_of_point c.seats s (λ rests. let e = sym grant.sleeps ∙ rests in cc)

only_receives : (n : ℕ) (k : CondvarCore) → BeginsOnlyReceives (round_of n k)
only_receives zero k = tt
only_receives (suc n) k =
    elim (cases_Bool (is_asleep (point_of k (suc n)) && is_outside (k.stage (suc n)))) [
      | inl begins_one ↦ rw begins_one (only_receives n (happens k (begins (suc n) Receive)))
      | inr steps ↦ rw steps (only_receives n (happens k (makes (suc n))))
    ]

-- The law

pub rounds_can_be_made : RoundsCanBeMade
rounds_can_be_made r =
    let is = run_reaches r in
    let k = reached_by r in (
      round_of (length k.mutex.seats) k,
      λ s can.
          let seated = seat_of k.mutex s can in
          goes_on_in (length k.mutex.seats) k s seated.above seated.within (goes_of k is.ghost_state s is.fits can),
      only_receives (length k.mutex.seats) k,
    )
