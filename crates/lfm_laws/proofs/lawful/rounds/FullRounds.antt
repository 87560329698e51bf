-- Full rounds: each that begins while a seat owns lowers what the owner needs. Before our record leaves, seats become the
-- owner at most k + 1 times, and at most N - 1 records are pushed. The other rounds begin while no seat owns.
use Rattle.std.proofs.Common.{◌≡◌, ℕ, Bool, zero, suc, ◌+◌, ◌*◌, ◌≤◌, ◌<◌, ◌++◌, List, [], ◌∷◌, length, refl, sym, ap, subst, ◌∙◌, inl, inr, arith}
use Rattle.std.specs.Prelude.{◌⊎◌}
use Rattle.std.proofs.lemmas.Bool.{cases_eq}
use Rattle.std.proofs.lemmas.List.{length-append}
use Rattle.lfm_protocol.specs.declared.points.Point.{Point}
use Rattle.lfm_protocol.specs.declared.points.Point.TheVariants.{Rest, Asleep}
use Rattle.lfm_protocol.specs.Core.{Core}
use Rattle.lfm_protocol.specs.Queue.{queue_of}
use Rattle.lfm_protocol.specs.Seats.{seat}
use Rattle.lfm_laws.specs.laws.FullRounds.{BeginsIn, IsFullRound, HasFullRounds, calls_of_owners, QueuedSeatsAreServedWhateverOwnersBegin}
use Rattle.lfm_laws.specs.laws.Overtaking.{entries_of_run}
use Rattle.lfm_laws.specs.laws.Rounds.{GoesOnIn, HasUnownedRounds}
use Rattle.lfm_laws.specs.laws.Schedules.{Event, happens, run_of, pushed_in, push_record, popped_record}
use Rattle.lfm_laws.specs.steady.Ghost.{owned}
use Rattle.lfm_laws.specs.steady.Steady.{Steady}
use Rattle.lfm_laws.specs.steady.Views.{claim_at}
use Rattle.lfm_laws.proofs.lawful.bounds.LockFree.{steady_event}
use Rattle.lfm_laws.proofs.lawful.bounds.Overtaken.{queued_seats_are_overtaken_once}
use Rattle.lfm_laws.proofs.lawful.read.QueueRead.{queue_length}
use Rattle.lfm_laws.proofs.lawful.runs.Reached.{run_keeps, steady_reached}
use Rattle.lfm_laws.proofs.lawful.runs.RunLaws.{run_goes}
use Rattle.lfm_laws.proofs.lawful.runs.LimitsKept.{run_limits}
use Rattle.lfm_laws.proofs.lawful.runs.PushOrder.{queue_goes}
use Rattle.lfm_laws.proofs.steady.Room.{queue_fits}
use Rattle.lfm_laws.proofs.lawful.rounds.BeforePush.{pushed_append}
use Rattle.lfm_laws.proofs.lawful.rounds.FairRounds.{entries_append, rounds_later, fewer_rounds}
use Rattle.lfm_laws.proofs.lawful.rounds.OwnerEvents.{OwnerActs, lowers, keeps, added_in, owner_event, needs_event}
use Rattle.lfm_laws.proofs.lawful.rounds.OwnerNeeds.{needs_at-le, owner_needs, owner_owns}
use Rattle.lfm_laws.proofs.lawful.rounds.Runs.{queued_seats_are_served_in_rounds, more_than}
use Rattle.lfm_protocol.specs.declared.limits.Limits.{Limits}

-- What a run adds

abbrev added : Core → List Event → ℕ
added c events = 2 * entries_of_run c events + 5 * calls_of_owners c events + 2 * length (push_record c events)

added_first : (c : Core) (e : Event) (later : List Event) → added c (e ∷ later) ≡ added_in c e + added (happens c e).core later
added_first c e later = let all = length-append (pushed_in c e) (push_record (happens c e).core later) in omega (arith, all)

calls_append : (c : Core) (first later : List Event) → calls_of_owners c (first ++ later) ≡ calls_of_owners c first + calls_of_owners (run_of c first) later
calls_append c [] later = omega arith
calls_append c (e ∷ first) later = let rest = calls_append (happens c e).core first later in omega (arith, rest)

added_append : (c : Core) (first later : List Event) → added c (first ++ later) ≡ added c first + added (run_of c first) later
added_append c first later = omega (arith, entries_append c first later, calls_append c first later, pushed_append c first later)

needs_run : (c : Core) (events : List Event) → Steady c → owner_needs (run_of c events) ≤ owner_needs c + added c events
needs_run c [] steady = omega arith
needs_run c (e ∷ later) steady =
    let all = added_first c e later in
    let one = needs_event c e steady in
    let rest = needs_run (happens c e).core later (steady_event c e steady) in
    omega (arith, all, one, rest)

-- A round that begins while a seat owns

abbrev ActsIn : Core → ℕ → List Event → Type 0
ActsIn c s events = GoesOnIn c s events ⊎ BeginsIn c s events

later_acts : (c : Core) (e : Event) (later : List Event) → (happens c e).core.owner ≡ c.owner → (OwnerActs c e → ⊥) → ActsIn c c.owner (e ∷ later)
    → ActsIn (happens c e).core (happens c e).core.owner later
later_acts c e later owner never (inl (inl now)) = absurd (never (inl now))
later_acts c e later owner never (inl (inr soon)) = inl (subst (λ (n : ℕ). GoesOnIn (happens c e).core n later) (sym owner) soon)
later_acts c e later owner never (inr (inl now)) = absurd (never (inr now))
later_acts c e later owner never (inr (inr soon)) = inr (subst (λ (n : ℕ). BeginsIn (happens c e).core n later) (sym owner) soon)

acting_run : (c : Core) (events : List Event) → Steady c → 0 < c.owner → ActsIn c c.owner events → owner_needs (run_of c events) + 1 ≤ owner_needs c + added c events
acting_run c [] steady some acts = elim acts [
  | inl t ↦ absurd t
  | inr t ↦ absurd t
]
acting_run c (e ∷ later) steady some acts =
    let all = added_first c e later in
    elim (owner_event c e steady some) [
      | lowers few ↦
          let rest = needs_run (happens c e).core later (steady_event c e steady) in
          omega (arith, all, few, rest)
      | keeps owner few never ↦
          let rest = acting_run (happens c e).core later (steady_event c e steady) (subst (λ (n : ℕ). 0 < n) (sym owner) some) (later_acts c e later owner never acts) in
          omega (arith, all, few, rest)
    ]

-- the owner goes on or begins a call
owner_acts : (c : Core) (again : Bool) (events : List Event) (p : Point) → (seat c.seats c.owner).point ≡ p → claim_at (seat c.seats c.owner).depth c.owner p ≡ owned c.owner again
    → 0 < c.owner → IsFullRound c events → ActsIn c c.owner events
owner_acts c again events Rest at holds some full = inr (full.begins_call some at)
owner_acts c again events (Asleep sleeper) at holds some full = absurd (cc)
owner_acts c again events p at holds some full = inl (full.round c.owner (inl (rw at refl)))

owned_round : (c : Core) (events : List Event) → Steady c → 0 < c.owner → IsFullRound c events → owner_needs (run_of c events) + 1 ≤ owner_needs c + added c events
owned_round c events steady some full =
    let owns = owner_owns c steady.ghost_state steady.fits some in
    acting_run c events steady some (owner_acts c owns.again events (seat c.seats c.owner).point refl owns.claims some full)

-- Rounds

-- of these rounds, `free` begin while no seat owns, and `held` while a seat owns
record Split (c : Core) (events : List Event) (rounds : ℕ) : Type 0 where
  pub free : ℕ
  pub held : ℕ
  pub all : rounds ≡ free + held
  pub has : HasUnownedRounds free c events
  pub few : held ≤ owner_needs c + added c events

split : (r : ℕ) (c : Core) (events : List Event) → Steady c → HasFullRounds r c events → Split c events r
split zero c events steady has = record { free = 0; held = 0; all = omega arith; has = tt; few = omega arith }
split (suc r) c events steady has =
    let before : List Event = has.0 in
    let round : List Event = has.1 in
    let later : List Event = has.2 in
    let b : Core = run_of c before in
    let a : Core = run_of b round in
    let steady_b = run_keeps c before steady in
    let start = needs_run c before steady in
    let rest = split r a later (run_keeps b round steady_b) has.5 in
    let parts : added c events ≡ added c before + (added b round + added a later) =
    ap (λ es. added c es) has.3 ∙ added_append c before (round ++ later) ∙ ap (λ n. added c before + n) (added_append b round later) in
    let few = rest.few in
    let all = rest.all in
    elim (cases_eq b.owner 0) [
      | inl none ↦
          let through = needs_run b round steady_b in
          record {
            free = suc rest.free;
            held = rest.held;
            all = omega (arith, all);
            has = (before, round, later, has.3, none, has.4.round, rest.has);
            few = omega (arith, start, through, few, parts);
          }
      | inr some ↦
          let through = owned_round b round steady_b (omega (arith, some)) has.4 in
          record {
            free = rest.free;
            held = suc rest.held;
            all = omega (arith, all);
            has = subst (λ (es : List Event). HasUnownedRounds rest.free c es) (sym has.3) (rounds_later rest.free c before (round ++ later) (rounds_later rest.free b round later rest.has));
            few = omega (arith, start, through, few, parts);
          }
    ]

-- Pushes

-- while our record is queued at most N - 1 records are pushed: at most k leave the queue, which had more than k at first and has
-- at most N then
few_pushes : (c : Core) (events : List Event) (k : ℕ) → Steady c → k < length (queue_of c) → length (popped_record c events) ≤ k
    → length (push_record c events) + 1 ≤ length c.seats
few_pushes c events k steady queued low =
    let run = run_goes c steady.ghost_state events steady.fits in
    let whole = ap length (queue_goes c steady.ghost_state events steady.fits) in
    let before = length-append (queue_of c) (push_record c events) in
    let after = length-append (popped_record c events) (queue_of (run_of c events)) in
    let long = queue_length (run_of c events) run.to run.fits in
    let most = queue_fits (run_of c events) run.to run.fits in
    let seats : length (run_of c events).seats ≡ length c.seats = ap (λ (l : Limits). l.seats) (run_limits c events) in
    omega (arith, whole, before, after, long, most, seats, queued, low)

pub queued_seats_are_served_whatever_owners_begin : QueuedSeatsAreServedWhateverOwnersBegin
queued_seats_are_served_whatever_owners_begin c events k reached queued has =
    let steady = steady_reached c reached in
    let parts = split (3 * length c.seats + 10 * k + 12 + (seat c.seats c.owner).depth + 5 * calls_of_owners c events) c events steady has in
    let all = parts.all in
    let few = parts.few in
    let needs = needs_at-le c.push (seat c.seats c.owner).depth (seat c.seats c.owner).point in
    more_than k (length (popped_record c events)) (λ low.
    let entries = queued_seats_are_overtaken_once c events k steady queued low in
    let pushes = few_pushes c events k steady queued low in
    let enough : length c.seats + 8 * k + 7 ≤ parts.free = omega (arith, all, few, needs, entries, pushes, low) in
    let served = queued_seats_are_served_in_rounds c events k reached queued (fewer_rounds parts.free (length c.seats + 8 * k + 7) c events enough parts.has) in
    omega (arith, served, low))
