-- Rounds: each round that begins while no seat owns lowers the number of rounds that are left. The seat that has to go on at
-- its start goes on in it, unless an earlier event of the round has lowered the number already. At first at most N + 8k + 7
-- are left.
use Rattle.std.proofs.Common.{◌≡◌, ℕ, zero, suc, ◌+◌, ◌-◌, ◌*◌, ◌≤◌, ◌<◌, ◌++◌, List, [], ◌∷◌, length, refl, sym, ap, ◌∙◌, inl, inr, arith}
use Rattle.std.specs.Prelude.{◌⊎◌}
use Rattle.std.proofs.lemmas.Bool.{eq-eqb}
use Rattle.std.proofs.lemmas.List.{length-append}
use Rattle.lfm_protocol.specs.Core.{Core}
use Rattle.lfm_protocol.specs.Seats.{seat}
use Rattle.lfm_laws.specs.laws.Schedules.{Event, happens, run_of, popped_in, popped_record}
use Rattle.lfm_laws.specs.steady.Ghost as Places
use Rattle.lfm_laws.specs.steady.Ghost.{Responsibility, nobody, owned, posted, entering, accepting, leaving, serving, Ghost}
use Rattle.lfm_laws.specs.steady.EventOutcome.{abstract_place}
use Rattle.lfm_laws.specs.steady.Steady.{Fits}
use Rattle.lfm_laws.specs.steady.Views.{claim}
use Rattle.lfm_laws.specs.laws.Rounds.{CanGoOn, GoesOnIn, IsRound, HasUnownedRounds, QueuedSeatsAreServedInRounds}
use Rattle.lfm_laws.proofs.lawful.read.QueueRead.{queue_read}
use Rattle.lfm_laws.proofs.lawful.read.RecordsRead.{length-records}
use Rattle.lfm_laws.proofs.steady.frames.Entries.{seat_or_absent}
use Rattle.lfm_laws.proofs.lawful.read.WatchedRead.{head_posted}
use Rattle.lfm_laws.proofs.lawful.runs.Reached.{steady_reached}
use Rattle.lfm_laws.proofs.lawful.rounds.Weights.{due_some}
use Rattle.lfm_laws.proofs.lawful.rounds.OtherSteps.{IsOwned}
use Rattle.lfm_laws.proofs.lawful.rounds.OwnerSteps.{near_any}
use Rattle.lfm_laws.proofs.lawful.rounds.Slack.{slack_first}
use Rattle.lfm_laws.proofs.lawful.rounds.Events.{can_go_on}
use Rattle.lfm_laws.proofs.lawful.rounds.TriedPosts.{posts_with_records_are_tried}
use Rattle.lfm_laws.proofs.lawful.rounds.OwnSteps.{posted_handoff}
use Rattle.lfm_laws.proofs.lawful.rounds.Waits.{MustGoOn, Waits, due_event, wait_event}

-- Runs

wait_run : (n : ℕ) (c : Core) (k rounds : ℕ) (events : List Event) → Waits n c k rounds → length (popped_record c events) ≤ k
    → Waits n (run_of c events) (k - length (popped_record c events)) rounds
wait_run n c k rounds [] here few = let same : k - 0 ≡ k = omega arith in rw same here
wait_run n c k rounds (e ∷ later) here few =
    let split = length-append (popped_in c e) (popped_record (happens c e).core later) in
    let one = wait_event n c k rounds e (abstract_place here.ghost_state.place) here refl (omega (arith, split, few)) in
    let rest = wait_run n (happens c e).core (k - length (popped_in c e)) rounds later one (omega (arith, split, few)) in
    let sum : k - length (popped_in c e) - length (popped_record (happens c e).core later) ≡ k - length (popped_in c e ++ popped_record (happens c e).core later) = omega (arith, split) in
    rw (sym sum) rest

-- the seat that has to go on does so
round_run : (n : ℕ) (c : Core) (k rounds u m : ℕ) (events : List Event) → MustGoOn n c k rounds u m → GoesOnIn c u events → length (popped_record c events) ≤ k
    → Waits n (run_of c events) (k - length (popped_record c events)) rounds
round_run n c k rounds u m [] here going few = absurd going
round_run n c k rounds u m (e ∷ later) here going few =
    let split = length-append (popped_in c e) (popped_record (happens c e).core later) in
    let sum : k - length (popped_in c e) - length (popped_record (happens c e).core later) ≡ k - length (popped_in c e ++ popped_record (happens c e).core later) = omega (arith, split) in
    elim (due_event n c k rounds u m e here (omega (arith, split, few))) [
      | inl waits ↦ rw (sym sum) (wait_run n (happens c e).core (k - length (popped_in c e)) rounds later waits (omega (arith, split, few)))
      | inr same ↦ elim going [
        | inl now ↦ absurd (same.1 now)
        | inr soon ↦ rw (sym sum) (round_run n (happens c e).core (k - length (popped_in c e)) rounds u m later same.0 soon (omega (arith, split, few)))
      ]
    ]

-- no seat owns
no_owner : (c : Core) (g : Ghost) (p : Responsibility) → g.place ≡ p → Fits c g → c.owner ≡ 0 → IsOwned (abstract_place p) → ⊥
no_owner c g (owned s again) place fits none o =
    let owner : c.owner ≡ s = fits.words.owner ∙ rw place refl in
    let zero : s ≡ 0 = sym owner ∙ none in
    let claims : claim (seat c.seats s) s ≡ owned s again = (fits.each s).claims ∙ rw (place, eq-eqb s s refl) refl in
    elim (seat_or_absent c.seats s) [
      | inl is ↦ omega (arith, is.above, zero)
      | inr absent ↦ let e : nobody ≡ owned s again = rw absent at claims in cc
    ]
no_owner c g nobody place fits none o = o
no_owner c g (Places.granted s stamp) place fits none o = o
no_owner c g posted place fits none o = o
no_owner c g (entering s into stamp) place fits none o = o
no_owner c g (accepting s) place fits none o = o
no_owner c g (leaving s) place fits none o = o
no_owner c g (serving s) place fits none o = o

-- a round that begins while no seat owns
one_round : (n : ℕ) (c : Core) (k rounds : ℕ) (round : List Event) → Waits n c k (suc rounds) → c.owner ≡ 0 → IsRound c round → length (popped_record c round) ≤ k
    → Waits n (run_of c round) (k - length (popped_record c round)) rounds
one_round n c k rounds round here none is few =
    let unowned = no_owner c here.ghost_state here.ghost_state.place refl here.fits none in
    let within = here.within in
    let turns : MustGoOn n c k rounds here.who here.next = record {
      ghost_state = here.ghost_state;
      fits = here.fits;
      queued = here.queued;
      size = here.size;
      unowned = unowned;
      due = here.due;
      walks = here.walks;
      slack = here.slack;
      within = omega (arith, within);
    } in
    let goes : CanGoOn c here.who = elim (can_go_on c here.ghost_state here.who here.next here.fits unowned here.due) [
      | inl inside ↦ inl inside
      | inr sleeps ↦ inr (record { since = sleeps.since; stamp = sleeps.stamp; sleeps = sleeps.here; word = sleeps.word })
    ] in
    round_run n c k rounds here.who here.next round turns (is here.who goes) few

pub popped_append : (c : Core) (first later : List Event) → length (popped_record c (first ++ later)) ≡ length (popped_record c first) + length (popped_record (run_of c first) later)
popped_append c [] later = omega arith
popped_append c (e ∷ first) later =
    let rest = popped_append (happens c e).core first later in
    let whole = length-append (popped_in c e) (popped_record (happens c e).core (first ++ later)) in
    let part = length-append (popped_in c e) (popped_record (happens c e).core first) in
    omega (arith, rest, whole, part)

some_left : (n : ℕ) (c : Core) (k rounds : ℕ) → Waits n c k rounds → 0 < rounds
some_left n c k rounds here =
    let some = due_some c here.who here.next (abstract_place here.ghost_state.place) here.due in
    let within = here.within in
    omega (arith, some, within)

-- while our record is queued there were fewer rounds than are left
few_rounds : (r n : ℕ) (c : Core) (k rounds : ℕ) (events : List Event) → Waits n c k rounds → HasUnownedRounds r c events → length (popped_record c events) ≤ k → r < rounds
few_rounds zero n c k rounds events here has few = some_left n c k rounds here
few_rounds (suc r) n c k zero events here has few = absurd (let some = some_left n c k zero here in omega (arith, some))
few_rounds (suc r) n c k (suc rounds) events here has few =
    let before : List Event = has.0 in
    let round : List Event = has.1 in
    let later : List Event = has.2 in
    let whole = ap (λ es. length (popped_record c es)) has.3 in
    let first = popped_append c before (round ++ later) in
    let second = popped_append (run_of c before) round later in
    let start = wait_run n c k (suc rounds) before here (omega (arith, whole, first, few)) in
    let next = one_round n (run_of c before) (k - length (popped_record c before)) rounds round start has.4 has.5 (omega (arith, whole, first, second, few)) in
    let rest = few_rounds r n (run_of (run_of c before) round) (k - length (popped_record c before) - length (popped_record (run_of c before) round)) rounds later next has.6
    (omega (arith, whole, first, second, few)) in
    omega (arith, rest)

-- The law

pub more_than : (k l : ℕ) → (l ≤ k → ⊥) → k < l
more_than k l not =
    elim (cases_le l k) [
      | inl le ↦ absurd (not le)
      | inr lt ↦ lt
    ]
  where
    cases_le : (l k : ℕ) → (l ≤ k) ⊎ (k < l)
    cases_le zero k = inl (omega arith)
    cases_le (suc l) zero = inr (omega arith)
    cases_le (suc l) (suc k) = elim (cases_le l k) [
      | inl le ↦ inl (omega (arith, le))
      | inr lt ↦ inr (omega (arith, lt))
    ]

pub queued_seats_are_served_in_rounds : QueuedSeatsAreServedInRounds
queued_seats_are_served_in_rounds c events k reached queued has =
    let steady = steady_reached c reached in
    let g : Ghost = steady.ghost_state in
    let long = ap length (queue_read c g steady.fits) ∙ length-records g.pushed_at g.popped (g.pushed - g.popped) in
    let near = near_any c g steady.fits (omega (arith, queued, long)) (λ place.
    posts_with_records_are_tried c reached (posted_handoff c.seats g.place c.handoff place steady.fits.words.handoff).above
    (head_posted c g steady.fits place (omega (arith, queued, long)))) in
    let here : Waits (length c.seats) c k (length c.seats + 8 * k + 7) = record {
      ghost_state = g;
      fits = steady.fits;
      queued = omega (arith, queued, long);
      size = refl;
      who = near.who;
      next = 7;
      due = near.due;
      walks = length c.seats + k;
      slack = slack_first c g k steady.fits;
      within = omega arith;
    } in
    more_than k (length (popped_record c events)) (λ few.
    let less = few_rounds (length c.seats + 8 * k + 7) (length c.seats) c k (length c.seats + 8 * k + 7) events here has few in omega (arith, less))
