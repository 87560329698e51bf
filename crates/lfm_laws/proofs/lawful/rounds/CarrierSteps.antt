-- The call that carries the responsibility makes a step, while a record is queued: its weight falls, or it has fewer records
-- to collect. Its count subtract finds more than 1, and its clear-head finds a record. If it is about to post, our record
-- was pushed after its clear-head, and its recheck finds it.
use Rattle.std.proofs.Common.{◌≡◌, ◌≢◌, ℕ, true, false, ◌+◌, ◌≤◌, ◌<◌, Option, Some, None, [], nat_eq, refl, sym, ap, ◌∙◌, inl, inr, arith}
use Rattle.std.proofs.lemmas.Bool.{cases_Bool, eq-eqb, ne_eqb, false≢true}
use Rattle.std.specs.Prelude.{◌⊎◌}
use Rattle.lfm_model.specs.Abstract.{AbstractPlace, AbstractStep, free, owner, passed, carried}
use Rattle.lfm_model.specs.Abstract as Abstract
use Rattle.lfm_model.specs.declared.answers.How.{How}
use Rattle.lfm_protocol.specs.declared.points.Carrier.{Carrier}
use Rattle.lfm_protocol.specs.declared.points.Entrant.{Entrant}
use Rattle.lfm_protocol.specs.declared.points.Point.{Point}
use Rattle.lfm_protocol.specs.declared.points.Point.TheVariants.{Rest, Asleep, TryCountAdd, SendWakeStore, ReleaseCountSubtract, ReleaseHandoffStore, ReleasePushRecheck, TakeClearHead, TakeLinkLoad, GrantWakeStore, EnterOwnerStore, ReceiveWakeLoad, ReceiveWakeStore}
use Rattle.lfm_protocol.specs.declared.points.Releaser.{Releaser}
use Rattle.lfm_words.specs.declared.pop_lists.Record.{Record}
use Rattle.lfm_words.specs.Popped.{oldest}
use Rattle.lfm_protocol.specs.After.{once_cleared, how_granted, loaded, serves}
use Rattle.lfm_protocol.specs.Core.{Core}
use Rattle.lfm_protocol.specs.Seats.{seat, link, IsSeat}
use Rattle.lfm_protocol.specs.Step.{made}
use Rattle.lfm_model.specs.AbstractRuns.{case_of}
use Rattle.lfm_model.specs.AbstractRuns as Runs
use Rattle.lfm_laws.specs.laws.Cases.{GoesBy}
use Rattle.lfm_laws.specs.laws.Events.{case_at, popped_at_point}
use Rattle.lfm_laws.specs.steady.Ghost.{nobody, owned, entering, leaving, serving, Ghost}
use Rattle.lfm_laws.specs.steady.EventOutcome.{abstract, abstract_place}
use Rattle.lfm_laws.specs.steady.Steady.{HasQueue, Fits, sleeps_as_waiter, StandsAsCarrier, own_unit}
use Rattle.lfm_laws.specs.steady.Views.{claim_at, claim_to_enter, held_by}
use Rattle.lfm_laws.proofs.lawful.bounds.Leaving.{own_made, size_made, other_made}
use Rattle.lfm_laws.proofs.lawful.read.WatchedRead.{head_some}
use Rattle.lfm_laws.proofs.steady.frames.Frames.{place_of_claim}
use Rattle.lfm_laws.proofs.steady.handoff.Handoffs.{posted_of}
use Rattle.lfm_laws.proofs.lawful.rounds.Weights.{clear_weight, carry_weight, grant_weight, Due}
use Rattle.lfm_laws.proofs.lawful.rounds.Carriers.{IsCarried, not_carried}
use Rattle.lfm_laws.proofs.lawful.rounds.Slack.{SlackFalls, clear_falls, load_falls}
use Rattle.lfm_laws.proofs.lawful.rounds.OwnSteps.{WeightFell, fell_posted, fell_carried, fell_owner, claimed}

-- Steps

sleeper_weight : (p : Point) → sleeps_as_waiter p ≡ true → grant_weight p ≤ 6
sleeper_weight (Asleep sleeper) sleeps = omega arith
sleeper_weight (ReceiveWakeLoad sleeper) sleeps = omega arith
sleeper_weight _ sleeps = absurd (false≢true sleeps)

brought : (g h : Ghost) (u t : ℕ) → (step : AbstractStep (abstract g) (abstract h)) → case_of step ≡ Runs.enter → abstract_place g.place ≡ carried u (Abstract.entering t) → t ≢ u
    → abstract_place h.place ≡ passed t
brought g h u t (Abstract.enter s x moves) e place other =
    let same : carried s (Abstract.entering x) ≡ carried u (Abstract.entering t) = sym moves.before ∙ place in
    let who : s ≡ u = cc in
    let into : x ≡ t = cc in
    moves.after ∙ rw (who, into, ne_eqb t u other) refl
brought g h u t (Abstract.take_up x moves) e place other = absurd (cc)
brought g h u t (Abstract.ask_free s x moves) e place other = absurd (cc)
brought g h u t (Abstract.ask_joins x taken nothing joins) e place other = absurd (cc)
brought g h u t (Abstract.queue x queues) e place other = absurd (cc)
brought g h u t (Abstract.serve s w serves) e place other = absurd (cc)
brought g h u t (Abstract.post s somebody moves) e place other = absurd (cc)
brought g h u t (Abstract.take x moves) e place other = absurd (cc)
brought g h u t (Abstract.accept x moves) e place other = absurd (cc)
brought g h u t (Abstract.release s moves) e place other = absurd (cc)
brought g h u t (Abstract.leave s to goes moves) e place other = absurd (cc)

-- a send stores the free grant of its target, which sleeps
sends_grant : (c : Core) (g h : Ghost) (u m t : ℕ) → (seat c.seats u).point ≡ SendWakeStore t → Fits c g → IsSeat c.seats u → 7 ≤ m
    → (step : AbstractStep (abstract g) (abstract h)) → case_of step ≡ Runs.enter → WeightFell (made c u).core h m
sends_grant c g h u m t at fits is more step enters =
    let claims : entering u t 0 ≡ held_by g.place u = rw at at (fits.each u).claims in
    let place = place_of_claim g.place (entering u t 0) u (λ e. cc) claims in
    let other : t ≢ u = rw at at (fits.each u).knows in
    let held : held_by g.place t ≡ nobody = rw place (rw (ne_eqb u t (λ e. other (sym e))) refl) in
    let sleeps = ((fits.each t).entered (rw (place, eq-eqb t t refl) refl) held).0 in
    let weight = sleeper_weight (seat c.seats t).point sleeps in
    let after = brought g h u t step enters (ap abstract_place place) other in
    record {
      who = t;
      left = 6;
      less = omega (arith, more);
      due = rw (after, other_made c u t other) (refl, weight);
    }

-- a release that subtracts finds a count above 1
counts_more : (c : Core) (g : Ghost) (u : ℕ) → Fits c g → HasQueue g → g.place ≡ leaving u → nat_eq c.count 1 ≡ false
counts_more c g u fits some place =
    let one : own_unit g.place ≡ 1 = rw place refl in
    let count = fits.words.count in
    ne_eqb c.count 1 (λ e. omega (arith, e, one, count, some))

subtracts : (c : Core) (g h : Ghost) (u m : ℕ) (releaser : Releaser) (o : Option Record) → oldest c.popped ≡ o → (seat c.seats u).point ≡ ReleaseCountSubtract releaser → Fits c g → HasQueue g
    → IsSeat c.seats u → 2 ≤ m → Fits (made c u).core h → WeightFell (made c u).core h m
subtracts c g h u m releaser None first at fits some is more after =
    let claims : leaving u ≡ held_by g.place u = rw at at (fits.each u).claims in
    let place = place_of_claim g.place (leaving u) u (λ e. cc) claims in
    let view : seat (made c u).core.seats u ≡ record (seat c.seats u) { point = TakeClearHead (Carrier.Releaser releaser) } =
    own_made c u is ∙ rw (at, at, counts_more c g u fits some place, first) refl in
    let size = size_made c u in
    fell_carried (made c u).core h u m Abstract.serving (TakeClearHead (Carrier.Releaser releaser)) (claimed (made c u).core h u (serving u) after (rw view refl) (λ e. cc)) (rw view refl) (omega (arith, size, more))
subtracts c g h u m releaser (Some r) first at fits some is more after =
    let claims : leaving u ≡ held_by g.place u = rw at at (fits.each u).claims in
    let place = place_of_claim g.place (leaving u) u (λ e. cc) claims in
    let view : seat (made c u).core.seats u ≡ record (seat c.seats u) { point = GrantWakeStore (Carrier.Releaser releaser) r } =
    own_made c u is ∙ rw (at, at, counts_more c g u fits some place, first) refl in
    let size = size_made c u in
    fell_carried (made c u).core h u m Abstract.serving (GrantWakeStore (Carrier.Releaser releaser) r) (claimed (made c u).core h u (serving u) after (rw view refl) (λ e. cc)) (rw view refl) (omega (arith, size, more))

posts : (c : Core) (h : Ghost) (u m : ℕ) (releaser : Releaser) → (seat c.seats u).point ≡ ReleaseHandoffStore releaser → IsSeat c.seats u → 7 ≤ m → Fits (made c u).core h
    → WeightFell (made c u).core h m
posts c h u m releaser at is more after =
    let view : seat (made c u).core.seats u ≡ record (seat c.seats u) { point = ReleasePushRecheck releaser; posts = (seat c.seats u).posts + 1 } =
    own_made c u is ∙ rw (at, at) refl in
    let word : (made c u).core.handoff ≡ record { seat = u; post = (seat c.seats u).posts + 1 } = rw (at, at) refl in
    let above : 0 < (made c u).core.handoff.seat = rw word is.above in
    let place = posted_of (made c u).core.seats h.place (made c u).core.handoff above after.words.handoff in
    let size = size_made c u in
    fell_posted (made c u).core h u m (ReleasePushRecheck releaser) (ap abstract_place place) (rw view refl) (rw view word) (omega (arith, size, more))

cleared_is : (carrier : Carrier) (head : ℕ) → 0 < head → once_cleared carrier head ≡ TakeLinkLoad carrier head
cleared_is (Carrier.Releaser releaser) head some = rw (ne_eqb head 0 (λ e. omega (arith, e, some))) refl
cleared_is Carrier.Locker head some = refl
cleared_is (Carrier.Reclaimer releaser) head some = refl
cleared_is Carrier.Sender head some = refl

-- the carrier goes on with as few rounds left, and has fewer records to collect
pub record Collected (c d : Core) (g h : Ghost) (u m : ℕ) : Type 0 where
  pub due : Due d u m (abstract_place h.place)
  pub falls : SlackFalls c d g h

clears : (c : Core) (g h : Ghost) (u m : ℕ) (carrier : Carrier) → (seat c.seats u).point ≡ TakeClearHead carrier → Fits c g → HasQueue g → IsSeat c.seats u → clear_weight carrier ≤ m
    → Fits (made c u).core h → WeightFell (made c u).core h m ⊎ Collected c (made c u).core g h u m
clears c g h u m carrier at fits some is more after =
    let knows = rw at at (fits.each u).knows in
    let head = head_some c g fits knows.0 knows.1 some in
    let view : seat (made c u).core.seats u ≡ record (seat c.seats u) { point = TakeLinkLoad carrier c.push.next } =
    own_made c u is ∙ rw (at, at, cleared_is carrier c.push.next head) refl in
    let place = claimed (made c u).core h u (serving u) after (rw view refl) (λ e. cc) in
    by_carrier carrier at more view place (rw view at (after.each u).stands)
  where
    by_carrier : (carrier : Carrier) → (seat c.seats u).point ≡ TakeClearHead carrier → clear_weight carrier ≤ m
        → seat (made c u).core.seats u ≡ record (seat c.seats u) { point = TakeLinkLoad carrier c.push.next } → abstract_place h.place ≡ carried u Abstract.serving
        → StandsAsCarrier (h.standing u) carrier → WeightFell (made c u).core h m ⊎ Collected c (made c u).core g h u m
    by_carrier Carrier.Locker at more view place stands =
        inl (fell_carried (made c u).core h u m Abstract.serving (TakeLinkLoad Carrier.Locker c.push.next) place (rw view refl) (omega (arith, more)))
    by_carrier (Carrier.Releaser releaser) at more view place stands =
        inr (record { due = rw (place, view) (refl, more); falls = clear_falls c g h u (Carrier.Releaser releaser) at refl is some fits after stands })
    by_carrier (Carrier.Reclaimer releaser) at more view place stands =
        inr (record { due = rw (place, view) (refl, more); falls = clear_falls c g h u (Carrier.Reclaimer releaser) at refl is some fits after stands })
    by_carrier Carrier.Sender at more view place stands =
        inr (record { due = rw (place, view) (refl, more); falls = clear_falls c g h u Carrier.Sender at refl is some fits after stands })

serves_weight : (carrier : Carrier) (s : ℕ) (r : Record) → carry_weight (serves carrier s r) ≡ 1
serves_weight Carrier.Locker s r =
    elim (cases_Bool (nat_eq r.seat s)) [
      | inl own ↦ rw own refl
      | inr other ↦ rw other refl
    ]
serves_weight (Carrier.Releaser releaser) s r = refl
serves_weight (Carrier.Reclaimer releaser) s r = refl
serves_weight Carrier.Sender s r = refl

serves_claim : (depth : ℕ) (carrier : Carrier) (s : ℕ) (r : Record) → claim_at depth s (serves carrier s r) ≡ serving s
serves_claim depth Carrier.Locker s r =
    elim (cases_Bool (nat_eq r.seat s)) [
      | inl own ↦ rw own refl
      | inr other ↦ rw other refl
    ]
serves_claim depth (Carrier.Releaser releaser) s r = refl
serves_claim depth (Carrier.Reclaimer releaser) s r = refl
serves_claim depth Carrier.Sender s r = refl

walks : (c : Core) (g h : Ghost) (u m : ℕ) (carrier : Carrier) (next : ℕ) → (seat c.seats u).point ≡ TakeLinkLoad carrier next → Fits c g → IsSeat c.seats u → 1 ≤ m
    → Fits (made c u).core h → Collected c (made c u).core g h u m
walks c g h u m carrier next at fits is more after =
    let falls = load_falls c g h u carrier next at fits after in
    elim (cases_Bool (nat_eq (link c.links next).next 0)) [
      | inl last ↦
          let view : seat (made c u).core.seats u ≡ record (seat c.seats u) { point = serves carrier u (loaded next (link c.links next)) } = own_made c u is ∙ rw (at, at, last) refl in
          let one = serves_weight carrier u (loaded next (link c.links next)) in
          let place = claimed (made c u).core h u (serving u) after (rw view (serves_claim (seat c.seats u).depth carrier u (loaded next (link c.links next)))) (λ e. cc) in
          record { due = rw (place, view) (refl, omega (arith, one, more)); falls = falls }
      | inr goes_on ↦
          let view : seat (made c u).core.seats u ≡ record (seat c.seats u) { point = TakeLinkLoad carrier (link c.links next).next } = own_made c u is ∙ rw (at, at, goes_on) refl in
          let place = claimed (made c u).core h u (serving u) after (rw view refl) (λ e. cc) in
          record { due = rw (place, view) (refl, more); falls = falls }
    ]

enters : (c : Core) (h : Ghost) (u m : ℕ) (entrant : Entrant) (how : How) → (seat c.seats u).point ≡ EnterOwnerStore entrant how → IsSeat c.seats u → 3 ≤ m
    → Fits (made c u).core h → WeightFell (made c u).core h m
enters c h u m entrant how at is more after =
    let view : seat (made c u).core.seats u ≡ record (seat c.seats u) { point = Rest; depth = 1 } = own_made c u is ∙ rw (at, at) refl in
    let size = size_made c u in
    fell_owner (made c u).core h u m (claimed (made c u).core h u (owned u false) after (rw view refl) (λ e. cc)) (omega (arith, size, more))

pub carrier_goes_on : (c : Core) (g h : Ghost) (u m : ℕ) (p : Point) → (seat c.seats u).point ≡ p → Fits c g → HasQueue g → IsSeat c.seats u → IsCarried (claim_at (seat c.seats u).depth u p)
    → carry_weight p ≤ m → popped_at_point u p ≡ [] → Fits (made c u).core h → GoesBy (case_at c u (seat c.seats u) p) (abstract g) (abstract h)
    → WeightFell (made c u).core h m ⊎ Collected c (made c u).core g h u m
carrier_goes_on c g h u m TryCountAdd at fits some is carries more none after goes =
    let view : seat (made c u).core.seats u ≡ record (seat c.seats u) { point = EnterOwnerStore Entrant.Trier How.Free } = own_made c u is ∙ rw (at, at) refl in
    let size = size_made c u in
    inl (fell_carried (made c u).core h u m (Abstract.entering u) (EnterOwnerStore Entrant.Trier How.Free) (claimed (made c u).core h u (entering u u 0) after (rw view refl) (λ e. cc)) (rw view refl)
    (omega (arith, size, more)))
carrier_goes_on c g h u m (ReceiveWakeStore stamp) at fits some is carries more none after goes =
    let view : seat (made c u).core.seats u ≡ record (seat c.seats u) { point = EnterOwnerStore Entrant.Receiver (how_granted stamp) } = own_made c u is ∙ rw (at, at) refl in
    let size = size_made c u in
    inl (fell_carried (made c u).core h u m (Abstract.entering u) (EnterOwnerStore Entrant.Receiver (how_granted stamp))
    (claimed (made c u).core h u (claim_to_enter u Entrant.Receiver (how_granted stamp)) after (rw view refl) (λ e. cc)) (rw view refl) (omega (arith, size, more)))
carrier_goes_on c g h u m (SendWakeStore t) at fits some is carries more none after goes = inl (sends_grant c g h u m t at fits is more goes.0 goes.1)
carrier_goes_on c g h u m (ReleaseCountSubtract releaser) at fits some is carries more none after goes = inl (subtracts c g h u m releaser (oldest c.popped) refl at fits some is more after)
carrier_goes_on c g h u m (ReleaseHandoffStore releaser) at fits some is carries more none after goes = inl (posts c h u m releaser at is more after)
carrier_goes_on c g h u m (TakeClearHead carrier) at fits some is carries more none after goes = clears c g h u m carrier at fits some is more after
carrier_goes_on c g h u m (TakeLinkLoad carrier next) at fits some is carries more none after goes = inr (walks c g h u m carrier next at fits is more after)
carrier_goes_on c g h u m (GrantWakeStore carrier r) at fits some is carries more none after goes = absurd (cc)
carrier_goes_on c g h u m (EnterOwnerStore Entrant.Locker How.Free) at fits some is carries more none after goes = inl (enters c h u m Entrant.Locker How.Free at is more after)
carrier_goes_on c g h u m (EnterOwnerStore Entrant.Locker (How.Queued stamp)) at fits some is carries more none after goes = absurd (cc)
carrier_goes_on c g h u m (EnterOwnerStore Entrant.Trier how) at fits some is carries more none after goes = inl (enters c h u m Entrant.Trier how at is more after)
carrier_goes_on c g h u m (EnterOwnerStore Entrant.Receiver how) at fits some is carries more none after goes = inl (enters c h u m Entrant.Receiver how at is more after)
carrier_goes_on c g h u m p at fits some is carries more none after goes = absurd (not_carried (seat c.seats u).depth u p refl carries)
