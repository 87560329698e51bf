-- From each state a round can be made: one seat after another makes a step, or begins its receive if it sleeps. No other
-- seat changes its point, so each seat that can go on at the start still can when its event comes. For a fair round the
-- owner first begins an unlock, if it is between two calls.
use Rattle.std.proofs.Common.{◌≡◌, ◌≢◌, ℕ, zero, suc, Bool, true, false, ◌≤◌, ◌<◌, List, [], ◌∷◌, length, nat_eq, refl, sym, ap, subst, ◌∙◌, inl, inr, arith, if◌then◌else◌}
use Rattle.std.specs.Prelude.{◌⊎◌}
use Rattle.std.proofs.lemmas.Bool.{cases_Bool, cases_eq, ne_eqb, false≢true}
use Rattle.lfm_protocol.specs.declared.answers.Call.TheVariants.{Unlock, Receive, Lock, TryLock, StartWait, SendLock}
use Rattle.lfm_protocol.specs.declared.answers.Turn.TheVariants.{Open}
use Rattle.lfm_protocol.specs.declared.points.Point.{Point}
use Rattle.lfm_protocol.specs.declared.points.Point.TheVariants.{Rest, Asleep, ReleaseOwnerStore}
use Rattle.lfm_protocol.specs.declared.points.Sleeper.{Sleeper}
use Rattle.lfm_protocol.specs.declared.seats.SeatState.{SeatState}
use Rattle.lfm_protocol.specs.declared.limits.Limits.{Limits}
use Rattle.lfm_protocol.specs.Begin as Begin
use Rattle.lfm_protocol.specs.Core.{Core, limits}
use Rattle.lfm_protocol.specs.Seats.{seat, is_seat, IsSeat}
use Rattle.lfm_protocol.specs.Step.{step, begin}
use Rattle.lfm_protocol.specs.Turns.{is_refused}
use Rattle.lfm_laws.specs.laws.FairRounds.{RestsOrReleases, OwnerRestsOrReleases, OwnersOnlyRelease, IsFairRound, FairRoundsCanBeMade, ReleasesBy, ReleasesIn}
use Rattle.lfm_laws.specs.laws.Rounds.{CanGoOn, GoesOnBy, GoesOnIn, IsRound, BeginsOnlyReceives, RoundsCanBeMade}
use Rattle.lfm_laws.specs.laws.Schedules.{Event, begins, makes, happens, is_call, run_of}
use Rattle.lfm_laws.specs.steady.Steady.{Steady, DepthAt}
use Rattle.lfm_laws.proofs.lawful.bounds.Leaving.{other_made, begun_other, seat_of_call}
use Rattle.lfm_laws.proofs.lawful.bounds.LockFree.{steady_event}
use Rattle.lfm_laws.proofs.lawful.runs.Reached.{steady_reached, absent_tested}
use Rattle.lfm_laws.proofs.steady.frames.Seated.{test_of_seat, seat_of_point}
use Rattle.lfm_laws.proofs.lawful.rounds.FairRounds.{held_run}
use Rattle.lfm_laws.proofs.lawful.rounds.Holds.{owner_deep, owner_seat, begun_turn}
use Rattle.lfm_laws.specs.laws.FullRounds.{BeginsBy, BeginsIn, IsFullRound, calls_of_owners, FullRoundsCanBeMade}
use Rattle.lfm_laws.specs.steady.Ghost.{owned}
use Rattle.lfm_laws.specs.steady.Views.{claim_at}
use Rattle.lfm_laws.proofs.lawful.rounds.OwnerNeeds.{owner_owns}

abbrev is_asleep : Point → Bool
is_asleep (Asleep since) = true
is_asleep _ = false

abbrev next_event : Core → ℕ → Event
next_event c s = if is_asleep (seat c.seats s).point then begins s Receive else makes s

abbrev round_of : ℕ → Core → List Event
round_of zero c = []
round_of (suc n) c = next_event c (suc n) ∷ round_of n (happens c (next_event c (suc n))).core

-- A round

-- a call is open, or the seat sleeps
abbrev Goes : Point → Type 0
Goes p = (is_call p ≡ true) ⊎ ((since : Sleeper) × (p ≡ Asleep since))

opens_at : (x : SeatState) (limits : Limits) (p : Point) (since : Sleeper) → p ≡ Asleep since → (Begin.begin_at x limits Receive p).turn ≡ Open
opens_at x limits p since at = rw at refl

pub opens : (c : Core) (s : ℕ) (since : Sleeper) → (seat c.seats s).point ≡ Asleep since → (begin c s Receive).turn ≡ Open
opens c s since at =
    let is = seat_of_point c.seats s (λ rests. let e = sym at ∙ rests in cc) in
    rw (test_of_seat c.seats s is) (opens_at (seat c.seats s) (limits c) (seat c.seats s).point since at)

call_awake : (p : Point) → is_call p ≡ true → is_asleep p ≡ false
call_awake (Asleep since) inside = absurd (false≢true inside)
call_awake _ inside = refl

own_goes_on : (c : Core) (s : ℕ) → Goes (seat c.seats s).point → GoesOnBy c s (next_event c s)
own_goes_on c s (inl inside) = rw (call_awake (seat c.seats s).point inside) (refl, inside)
own_goes_on c s (inr sleeps) =
    let asleep : is_asleep (seat c.seats s).point ≡ true = rw sleeps.1 refl in
    rw asleep (refl, opens c s sleeps.0 sleeps.1)

other_step : (c : Core) (t s : ℕ) → s ≢ t → seat (step c t).core.seats s ≡ seat c.seats s
other_step c t s other =
    elim (cases_Bool (is_seat c.seats t)) [
      | inl is ↦ rw is (other_made c t s other)
      | inr none ↦ rw none refl
    ]

other_next : (c : Core) (t s : ℕ) → s ≢ t → seat (happens c (next_event c t)).core.seats s ≡ seat c.seats s
other_next c t s other =
    elim (cases_Bool (is_asleep (seat c.seats t).point)) [
      | inl asleep ↦ rw asleep (begun_other c t s Receive other)
      | inr awake ↦ rw awake (other_step c t s other)
    ]

goes_on_in : (n : ℕ) (c : Core) (s : ℕ) → 0 < s → s ≤ n → Goes (seat c.seats s).point → GoesOnIn c s (round_of n c)
goes_on_in zero c s some few goes = absurd (omega (arith, some, few))
goes_on_in (suc n) c s some few goes =
    elim (cases_eq s (suc n)) [
      | inl own ↦ inl (subst (λ (t : ℕ). GoesOnBy c s (next_event c t)) own (own_goes_on c s goes))
      | inr other ↦
          let still = subst (λ (x : SeatState). Goes x.point) (sym (other_next c (suc n) s other)) goes in
          inr (goes_on_in n (happens c (next_event c (suc n))).core s some (omega (arith, few, other)) still)
    ]

goes_of : (c : Core) (s : ℕ) → CanGoOn c s → Goes (seat c.seats s).point
goes_of c s (inl inside) = inl inside
goes_of c s (inr grant) = inr (grant.since, grant.sleeps)

seat_of : (c : Core) (s : ℕ) → Goes (seat c.seats s).point → IsSeat c.seats s
seat_of c s (inl inside) = seat_of_call c s inside
seat_of c s (inr sleeps) = seat_of_point c.seats s (λ rests. let e = sym sleeps.1 ∙ rests in cc)

is_round : (c : Core) → IsRound c (round_of (length c.seats) c)
is_round c s can =
    let goes = goes_of c s can in
    let is = seat_of c s goes in
    goes_on_in (length c.seats) c s is.above is.within goes

only_receives : (n : ℕ) (c : Core) → BeginsOnlyReceives (round_of n c)
only_receives zero c = tt
only_receives (suc n) c =
    elim (cases_Bool (is_asleep (seat c.seats (suc n)).point)) [
      | inl asleep ↦ rw asleep (only_receives n (happens c (begins (suc n) Receive)).core)
      | inr awake ↦ rw awake (only_receives n (happens c (makes (suc n))).core)
    ]

pub rounds_can_be_made : RoundsCanBeMade
rounds_can_be_made c = (round_of (length c.seats) c, is_round c, only_receives (length c.seats) c)

-- A fair round

-- a seat that sleeps doesn't own, so its receive is no call of an owner
asleep_flat : (depth : ℕ) (p : Point) → is_asleep p ≡ true → DepthAt depth p → depth ≡ 0
asleep_flat depth (Asleep since) asleep fits = fits
asleep_flat depth _ asleep fits = absurd (false≢true asleep)

only_release : (n : ℕ) (c : Core) → Steady c → OwnersOnlyRelease c (round_of n c)
only_release zero c steady = tt
only_release (suc n) c steady =
    elim (cases_Bool (is_asleep (seat c.seats (suc n)).point)) [
      | inl asleep ↦
          let flat = asleep_flat (seat c.seats (suc n)).depth (seat c.seats (suc n)).point asleep (steady.fits.each (suc n)).depth in
          rw asleep (flat, only_release n (happens c (begins (suc n) Receive)).core (steady_event c (begins (suc n) Receive) steady))
      | inr awake ↦ rw awake (tt, only_release n (happens c (makes (suc n))).core (steady_event c (makes (suc n)) steady))
    ]

unlock_turn : (x : SeatState) (limits : Limits) (p : Point) → p ≡ Rest → 0 < x.depth → is_refused (Begin.begin_at x limits Unlock p).turn ≡ false
unlock_turn x limits p at some =
    let deep = ne_eqb x.depth 0 (λ e. omega (arith, e, some)) in
    elim (cases_Bool (nat_eq x.depth 1)) [
      | inl one ↦ rw (at, deep, one) refl
      | inr more ↦ rw (at, deep, more) refl
    ]

idle : (p : Point) → p ≡ Rest → Goes p → ⊥
idle p at (inl inside) = false≢true (rw at at inside)
idle p at (inr sleeps) = let e : Rest ≡ Asleep sleeps.0 = sym at ∙ sleeps.1 in cc

abbrev Made : Core → Type 0
Made c = (events : List Event) × IsFairRound c events × OwnersOnlyRelease c events × OwnerRestsOrReleases (run_of c events)

-- no owner has to begin a release
plain_made : (c : Core) → Steady c → OwnerRestsOrReleases c → (0 < c.owner → (seat c.seats c.owner).point ≡ Rest → ⊥) → Made c
plain_made c steady rests none =
    let only = only_release (length c.seats) c steady in (
      round_of (length c.seats) c,
      record { round = is_round c; releases = λ some at. absurd (none some at) },
      only,
      (held_run c (round_of (length c.seats) c) steady rests only).rests,
    )

-- the owner begins an unlock first
abbrev unlock_first : Core → List Event
unlock_first c = begins c.owner Unlock ∷ round_of (length (begin c c.owner Unlock).core.seats) (begin c c.owner Unlock).core

unlock_round : (c : Core) → Steady c → OwnerRestsOrReleases c → 0 < c.owner → (seat c.seats c.owner).point ≡ Rest → IsFairRound c (unlock_first c)
unlock_round c steady rests some at =
    let deep = owner_deep c steady rests some in
    let is = owner_seat c (seat c.seats c.owner).point refl (rests some) deep in
    let d : Core = (begin c c.owner Unlock).core in
    let turn = ap is_refused (begun_turn c c.owner Unlock is) ∙ unlock_turn (seat c.seats c.owner) (limits c) (seat c.seats c.owner).point at (deep at) in
    record {
      round = λ s can.
          let goes = goes_of c s can in
          let other : s ≢ c.owner = λ own. idle (seat c.seats s).point (ap (λ (t : ℕ). (seat c.seats t).point) own ∙ at) goes in
          let still = subst (λ (x : SeatState). Goes x.point) (sym (begun_other c c.owner s Unlock other)) goes in
          let seat_is = seat_of d s still in
          inr (goes_on_in (length d.seats) d s seat_is.above seat_is.within still);
      releases = λ more here. inl (refl, turn);
    }

unlock_made : (c : Core) → Steady c → OwnerRestsOrReleases c → 0 < c.owner → (seat c.seats c.owner).point ≡ Rest → Made c
unlock_made c steady rests some at =
    let e : Event = begins c.owner Unlock in
    let d : Core = (begin c c.owner Unlock).core in
    let only : OwnersOnlyRelease c (unlock_first c) = (tt, only_release (length d.seats) d (steady_event c e steady)) in
    (unlock_first c, unlock_round c steady rests some at, only, (held_run c (unlock_first c) steady rests only).rests)

by_point : (c : Core) (p : Point) → (seat c.seats c.owner).point ≡ p → Steady c → OwnerRestsOrReleases c → 0 < c.owner → RestsOrReleases p → Made c
by_point c Rest at steady rests some hold = unlock_made c steady rests some at
by_point c (ReleaseOwnerStore releaser) at steady rests some hold = plain_made c steady rests (λ more idles. let e = sym at ∙ idles in cc)
by_point c _ at steady rests some hold = absurd hold

pub fair_rounds_can_be_made : FairRoundsCanBeMade
fair_rounds_can_be_made c reached rests =
    let steady = steady_reached c reached in
    elim (cases_eq c.owner 0) [
      | inl none ↦ plain_made c steady rests (λ some at. omega (arith, some, none))
      | inr other ↦
          let some : 0 < c.owner = omega (arith, other) in
          by_point c (seat c.seats c.owner).point refl steady rests some (rests some)
    ]

-- A full round

-- the owner doesn't sleep, so no receive is its call
asleep_unowned : (depth s : ℕ) (again : Bool) (p : Point) → is_asleep p ≡ true → claim_at depth s p ≡ owned s again → ⊥
asleep_unowned depth s again (Asleep since) asleep holds = cc
asleep_unowned depth s again _ asleep holds = false≢true asleep

no_receive : (c : Core) (s : ℕ) → Steady c → is_asleep (seat c.seats s).point ≡ true → s ≢ c.owner
no_receive c s steady asleep own =
    let at : is_asleep (seat c.seats c.owner).point ≡ true = subst (λ (n : ℕ). is_asleep (seat c.seats n).point ≡ true) own asleep in
    elim (cases_eq c.owner 0) [
      | inl none ↦ false≢true (rw (none, absent_tested c.seats 0 refl) at at)
      | inr some ↦
          let owns = owner_owns c steady.ghost_state steady.fits (omega (arith, some)) in
          asleep_unowned (seat c.seats c.owner).depth c.owner owns.again (seat c.seats c.owner).point at owns.claims
    ]

none_begun : (n : ℕ) (c : Core) → Steady c → calls_of_owners c (round_of n c) ≡ 0
none_begun zero c steady = refl
none_begun (suc n) c steady =
    elim (cases_Bool (is_asleep (seat c.seats (suc n)).point)) [
      | inl asleep ↦
          let e : Event = begins (suc n) Receive in
          let rest = none_begun n (happens c e).core (steady_event c e steady) in
          rw (asleep, ne_eqb (suc n) c.owner (no_receive c (suc n) steady asleep)) (omega (arith, rest))
      | inr awake ↦
          let e : Event = makes (suc n) in
          let rest = none_begun n (happens c e).core (steady_event c e steady) in
          rw awake (omega (arith, rest))
    ]

-- each fair round is a full one
begins_by : (c : Core) (s : ℕ) (e : Event) → ReleasesBy c s e → BeginsBy c s e
begins_by c s (begins t Unlock) releases = releases
begins_by c s (begins t StartWait) releases = releases
begins_by c s (begins t Lock) releases = absurd releases
begins_by c s (begins t TryLock) releases = absurd releases
begins_by c s (begins t Receive) releases = absurd releases
begins_by c s (begins t (SendLock u)) releases = absurd releases
begins_by c s (makes t) releases = absurd releases

begins_in : (c : Core) (s : ℕ) (events : List Event) → ReleasesIn c s events → BeginsIn c s events
begins_in c s [] releases = absurd releases
begins_in c s (e ∷ later) (inl now) = inl (begins_by c s e now)
begins_in c s (e ∷ later) (inr soon) = inr (begins_in (happens c e).core s later soon)

full_of_fair : (c : Core) (events : List Event) → IsFairRound c events → IsFullRound c events
full_of_fair c events fair = record { round = fair.round; begins_call = λ some at. begins_in c c.owner events (fair.releases some at) }

pub full_rounds_can_be_made : FullRoundsCanBeMade
full_rounds_can_be_made c reached =
    let steady = steady_reached c reached in
    elim (cases_eq c.owner 0) [
      | inl none ↦ plain_full steady (λ some at. omega (arith, some, none))
      | inr other ↦ by_point (seat c.seats c.owner).point refl steady (omega (arith, other))
    ]
  where
    plain_full : Steady c → (0 < c.owner → (seat c.seats c.owner).point ≡ Rest → ⊥) → (events : List Event) × IsFullRound c events × (calls_of_owners c events ≡ 0)
    plain_full steady none =
        (round_of (length c.seats) c, record { round = is_round c; begins_call = λ some at. absurd (none some at) }, none_begun (length c.seats) c steady)

    by_point : (p : Point) → (seat c.seats c.owner).point ≡ p → Steady c → 0 < c.owner → (events : List Event) × IsFullRound c events × (calls_of_owners c events ≡ 0)
    by_point Rest at steady some =
        let d : Core = (begin c c.owner Unlock).core in
        let none : calls_of_owners c (unlock_first c) ≡ 0 = let rest = none_begun (length d.seats) d (steady_event c (begins c.owner Unlock) steady) in omega (arith, rest) in
        (unlock_first c, full_of_fair c (unlock_first c) (unlock_round c steady (λ more. rw at tt) some at), none)
    by_point _ at steady some = plain_full steady (λ more rests. let e = sym at ∙ rests in cc)
