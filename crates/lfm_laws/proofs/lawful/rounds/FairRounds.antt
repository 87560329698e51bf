-- Fair rounds: of those that begin while a seat owns there are at most two for each seat that becomes the owner, and those
-- that the present owner needs. At most k + 1 seats become the owner before our record leaves. The other rounds begin while
-- no seat owns.
use Rattle.std.proofs.Common.{◌≡◌, ℕ, zero, suc, ◌+◌, ◌*◌, ◌≤◌, ◌<◌, ◌++◌, List, [], ◌∷◌, length, refl, sym, ap, subst, ◌∙◌, inl, inr, arith}
use Rattle.std.specs.Prelude.{◌⊎◌}
use Rattle.std.proofs.lemmas.Bool.{cases_eq}
use Rattle.std.proofs.lemmas.List.{append_assoc}
use Rattle.lfm_protocol.specs.declared.points.Point.{Point}
use Rattle.lfm_protocol.specs.declared.points.Point.TheVariants.{Rest, ReleaseOwnerStore}
use Rattle.lfm_protocol.specs.declared.seats.SeatState.{SeatState}
use Rattle.lfm_protocol.specs.Core.{Core}
use Rattle.lfm_protocol.specs.Seats.{seat}
use Rattle.lfm_laws.specs.laws.Overtaking.{entries_of_run}
use Rattle.lfm_laws.specs.laws.Schedules.{Event, happens, run_of, popped_record}
use Rattle.lfm_laws.specs.steady.Steady.{Steady}
use Rattle.lfm_laws.specs.laws.Rounds.{GoesOnIn, HasUnownedRounds}
use Rattle.lfm_laws.specs.laws.FairRounds.{OwnersOnlyRelease, RestsOrReleases, OwnerRestsOrReleases, rounds_to_release_at, rounds_to_release, ReleasesIn, IsFairRound, HasFairRounds, QueuedSeatsAreServedInFairRounds}
use Rattle.lfm_laws.proofs.lawful.bounds.LockFree.{steady_event}
use Rattle.lfm_laws.proofs.lawful.bounds.Overtaken.{queued_seats_are_overtaken_once}
use Rattle.lfm_laws.proofs.lawful.runs.Reached.{run_keeps, steady_reached}
use Rattle.lfm_laws.proofs.lawful.rounds.Runs.{queued_seats_are_served_in_rounds, more_than}
use Rattle.lfm_laws.proofs.lawful.rounds.Holds.{Held, lower, same, OwnerGoesOn, held_event, hold_event}

-- Lists one after another

pub run_append : (c : Core) (first later : List Event) → run_of c (first ++ later) ≡ run_of (run_of c first) later
run_append c [] later = refl
run_append c (e ∷ first) later = run_append (happens c e).core first later

pub entries_append : (c : Core) (first later : List Event) → entries_of_run c (first ++ later) ≡ entries_of_run c first + entries_of_run (run_of c first) later
entries_append c [] later = omega arith
entries_append c (e ∷ first) later = let rest = entries_append (happens c e).core first later in omega (arith, rest)

release_append : (c : Core) (first later : List Event) → OwnersOnlyRelease c (first ++ later) → OwnersOnlyRelease c first × OwnersOnlyRelease (run_of c first) later
release_append c [] later release = (tt, release)
release_append c (e ∷ first) later release = let rest = release_append (happens c e).core first later release.1 in ((release.0, rest.0), rest.1)

pub held_run : (c : Core) (events : List Event) → Steady c → OwnerRestsOrReleases c → OwnersOnlyRelease c events → Held c (run_of c events) (entries_of_run c events)
held_run c [] steady rests release = record { rests = rests; left = omega arith }
held_run c (e ∷ later) steady rests release =
    let one = held_event c e steady rests release.0 in
    let rest = held_run (happens c e).core later (steady_event c e steady) one.rests release.1 in
    let l = one.left in
    let m = rest.left in
    record { rests = rest.rests; left = omega (arith, l, m) }

-- the owner goes on or begins its release

later_goes_on : (c d : Core) (e : Event) (later : List Event) → d ≡ (happens c e).core → d.owner ≡ c.owner → (OwnerGoesOn c e → ⊥) → GoesOnIn c c.owner (e ∷ later) ⊎ ReleasesIn c c.owner (e ∷ later)
    → GoesOnIn (happens c e).core (happens c e).core.owner later ⊎ ReleasesIn (happens c e).core (happens c e).core.owner later
later_goes_on c d e later is owner never (inl (inl now)) = absurd (never (inl now))
later_goes_on c d e later is owner never (inl (inr soon)) = inl (subst (λ (n : ℕ). GoesOnIn (happens c e).core n later) (sym owner ∙ ap (λ (x : Core). x.owner) is) soon)
later_goes_on c d e later is owner never (inr (inl now)) = absurd (never (inr now))
later_goes_on c d e later is owner never (inr (inr soon)) = inr (subst (λ (n : ℕ). ReleasesIn (happens c e).core n later) (sym owner ∙ ap (λ (x : Core). x.owner) is) soon)

held_round : (c : Core) (events : List Event) → Steady c → OwnerRestsOrReleases c → OwnersOnlyRelease c events → 0 < c.owner → GoesOnIn c c.owner events ⊎ ReleasesIn c c.owner events
    → rounds_to_release (run_of c events) + 1 ≤ rounds_to_release c + 2 * entries_of_run c events
held_round c [] steady rests release some going = elim going [
  | inl t ↦ absurd t
  | inr t ↦ absurd t
]
held_round c (e ∷ later) steady rests release some going =
    let holds = (held_event c e steady rests release.0).rests in
    elim (hold_event c e steady rests some release.0) [
      | lower kept less ↦ let rest = (held_run (happens c e).core later (steady_event c e steady) kept release.1).left in omega (arith, less, rest)
      | same owner view never ↦
          let left : rounds_to_release (happens c e).core ≡ rounds_to_release c = ap (λ (x : SeatState). rounds_to_release_at x.depth x.point) view in
          let rest = held_round (happens c e).core later (steady_event c e steady) holds release.1 (subst (λ (n : ℕ). 0 < n) (sym owner) some)
          (later_goes_on c (happens c e).core e later refl owner never going) in
          omega (arith, left, rest)
    ]

-- a fair round that begins while a seat owns
owned_round : (c : Core) (events : List Event) → Steady c → OwnerRestsOrReleases c → OwnersOnlyRelease c events → 0 < c.owner → IsFairRound c events
    → rounds_to_release (run_of c events) + 1 ≤ rounds_to_release c + 2 * entries_of_run c events
owned_round c events steady rests release some fair = held_round c events steady rests release some (by_point (seat c.seats c.owner).point refl (rests some))
  where
    by_point : (p : Point) → (seat c.seats c.owner).point ≡ p → RestsOrReleases p → GoesOnIn c c.owner events ⊎ ReleasesIn c c.owner events
    by_point Rest at hold = inr (fair.releases some at)
    by_point (ReleaseOwnerStore releaser) at hold = inl (fair.round c.owner (inl (rw at refl)))
    by_point _ at hold = absurd hold

-- Rounds

pub rounds_later : (r : ℕ) (c : Core) (first later : List Event) → HasUnownedRounds r (run_of c first) later → HasUnownedRounds r c (first ++ later)
rounds_later zero c first later has = tt
rounds_later (suc r) c first later has = (
  first ++ has.0,
  has.1,
  has.2,
  ap (λ es. first ++ es) has.3 ∙ sym (append_assoc first has.0 (has.1 ++ has.2)),
  rw (run_append c first has.0) has.4,
  rw (run_append c first has.0) has.5,
  rw (run_append c first has.0) has.6,
)

pub fewer_rounds : (r q : ℕ) (c : Core) (events : List Event) → q ≤ r → HasUnownedRounds r c events → HasUnownedRounds q c events
fewer_rounds r zero c events less has = tt
fewer_rounds zero (suc q) c events less has = absurd (omega (arith, less))
fewer_rounds (suc r) (suc q) c events less has =
    (has.0, has.1, has.2, has.3, has.4, has.5, fewer_rounds r q (run_of (run_of c has.0) has.1) has.2 (omega (arith, less)) has.6)

-- of these rounds, `free` begin while no seat owns, and `held` while a seat owns
record Split (c : Core) (events : List Event) (rounds : ℕ) : Type 0 where
  pub free : ℕ
  pub held : ℕ
  pub all : rounds ≡ free + held
  pub has : HasUnownedRounds free c events
  pub few : held ≤ rounds_to_release c + 2 * entries_of_run c events

split : (r : ℕ) (c : Core) (events : List Event) → Steady c → OwnerRestsOrReleases c → OwnersOnlyRelease c events → HasFairRounds r c events → Split c events r
split zero c events steady rests release has = record { free = 0; held = 0; all = omega arith; has = tt; few = omega arith }
split (suc r) c events steady rests release has =
    let before : List Event = has.0 in
    let round : List Event = has.1 in
    let later : List Event = has.2 in
    let release = subst (λ (es : List Event). OwnersOnlyRelease c es) has.3 release in
    let one = release_append c before (round ++ later) release in
    let two = release_append (run_of c before) round later one.1 in
    let start = held_run c before steady rests one.0 in
    let b : Core = run_of c before in
    let a : Core = run_of b round in
    let steady_b = run_keeps c before steady in
    let held = held_run b round steady_b start.rests two.0 in
    let rest = split r a later (run_keeps b round steady_b) held.rests two.1 has.5 in
    let entries : entries_of_run c events ≡ entries_of_run c before + (entries_of_run b round + entries_of_run a later) =
    ap (λ es. entries_of_run c es) has.3 ∙ entries_append c before (round ++ later) ∙ ap (λ n. entries_of_run c before + n) (entries_append b round later) in
    let l = start.left in
    let m = held.left in
    let few = rest.few in
    let all = rest.all in
    elim (cases_eq b.owner 0) [
      | inl none ↦ record {
        free = suc rest.free;
        held = rest.held;
        all = omega (arith, all);
        has = (before, round, later, has.3, none, has.4.round, rest.has);
        few = omega (arith, l, m, few, entries);
      }
      | inr some ↦
          let less = owned_round b round steady_b start.rests two.0 (omega (arith, some)) has.4 in
          record {
            free = rest.free;
            held = suc rest.held;
            all = omega (arith, all);
            has = subst (λ (es : List Event). HasUnownedRounds rest.free c es) (sym has.3) (rounds_later rest.free c before (round ++ later) (rounds_later rest.free b round later rest.has));
            few = omega (arith, l, less, few, entries);
          }
    ]

pub queued_seats_are_served_in_fair_rounds : QueuedSeatsAreServedInFairRounds
queued_seats_are_served_in_fair_rounds c events k reached rests release queued has =
    let steady = steady_reached c reached in
    let parts = split (length c.seats + 10 * k + 9 + rounds_to_release c) c events steady rests release has in
    let all = parts.all in
    let few = parts.few in
    more_than k (length (popped_record c events)) (λ low.
    let entries = queued_seats_are_overtaken_once c events k steady queued low in
    let enough : length c.seats + 8 * k + 7 ≤ parts.free = omega (arith, all, few, entries, low) in
    let served = queued_seats_are_served_in_rounds c events k reached queued (fewer_rounds parts.free (length c.seats + 8 * k + 7) c events enough parts.has) in
    omega (arith, served, low))
