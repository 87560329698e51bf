-- The answer of a release says what its last step did, and the turn of a step that removes a record from the queue identifies
-- the record.
use Rattle.std.proofs.Common.{◌≡◌, ℕ, true, false, ◌<◌, List, [], ◌∷◌, length, refl, sym, ap, ◌∙◌, inl, inr, arith}
use Rattle.std.proofs.lemmas.Bool.{cases_Bool, cases_eq, eq-eqb, ne_eqb}
use Rattle.std.specs.Prelude.{Option, Some, None}
use Rattle.lfm_model.specs.declared.answers.How.{How}
use Rattle.lfm_model.specs.declared.answers.Unlocked.{Unlocked}
use Rattle.lfm_model.specs.declared.answers.Unlocked.TheVariants.{Free, Granted, Posted, TakenOver}
use Rattle.lfm_protocol.specs.declared.answers.Turn.TheVariants.{Open}
use Rattle.lfm_protocol.specs.declared.points.Carrier.{Carrier}
use Rattle.lfm_protocol.specs.declared.points.Entrant.{Entrant}
use Rattle.lfm_protocol.specs.declared.points.Point.{Point}
use Rattle.lfm_protocol.specs.declared.points.Point.TheVariants.{Rest, Asleep, ReleaseCountSubtract, ReleasePushRecheck, ReleaseHandoffExchange, GrantWakeStore, EnterOwnerStore}
use Rattle.lfm_protocol.specs.declared.points.Releaser.{Releaser}
use Rattle.lfm_protocol.specs.declared.points.Releaser.TheVariants.{Unlocker, Waiter}
use Rattle.lfm_protocol.specs.declared.seats.SeatState.{SeatState}
use Rattle.lfm_words.specs.declared.pop_lists.Record.{Record}
use Rattle.lfm_words.specs.declared.wakes.Wake.TheVariants.{Grant}
use Rattle.lfm_words.specs.Popped.{oldest}
use Rattle.lfm_protocol.specs.After.{same_handoff, releases, granted, take}
use Rattle.lfm_protocol.specs.Begin.{Stepped, goes_on}
use Rattle.lfm_protocol.specs.Core.{Core}
use Rattle.lfm_protocol.specs.Queue.{queue_of}
use Rattle.lfm_protocol.specs.Seats.{seat, is_seat, IsSeat}
use Rattle.lfm_protocol.specs.Step.{step}
use Rattle.lfm_laws.specs.laws.Events.{pushed_by, popped_by}
use Rattle.lfm_laws.specs.laws.Releases.{Released, Grants, release_ended, TellsServed, ReleasesAnswerWhatTheyDid, ServedRecordsAreTold}
use Rattle.lfm_laws.specs.laws.Schedules.{is_call}
use Rattle.lfm_laws.specs.steady.Ghost.{Ghost}
use Rattle.lfm_laws.specs.steady.Steady.{GivesAway, Fits}
use Rattle.lfm_laws.proofs.lawful.bounds.Leaving.{stepped, own_made}
use Rattle.lfm_laws.proofs.lawful.calls.CallSteps.{may_end_at, next_take, step_follows}
use Rattle.lfm_laws.proofs.lawful.calls.QueueSteps.{queue_made, stays, serves, unserved, same_head}
use Rattle.lfm_laws.proofs.lawful.read.QueueRead.{waits_read}
use Rattle.lfm_laws.proofs.lawful.refusals.PlainSteps.{turn_made}
use Rattle.lfm_laws.proofs.steady.frames.Abstracts.{stamp_of_queued}
use Rattle.lfm_laws.proofs.steady.frames.Frames.{wake-with_same}
use Rattle.lfm_laws.proofs.steady.frames.Seated.{seat_of_test, seat_of_queued}
use Rattle.lfm_laws.proofs.steady.handoff.Handoffs.{same_handoff_false}

-- the answer of a release that ends with this
abbrev ended : Stepped → Option Unlocked
ended m = release_ended m.turn m.seat.point

none_refused : (answer : Unlocked) → None ≡ Some answer → ⊥
none_refused answer e = cc

same_answer : (a b : Unlocked) → Some a ≡ Some b → a ≡ b
same_answer a b e = cc

release_ends : (x : SeatState) (releaser : Releaser) (answer : Unlocked) → ended (releases x releaser answer) ≡ Some answer
release_ends x Unlocker answer = refl
release_ends x Waiter answer = refl

answered : (x : SeatState) (releaser : Releaser) (a b : Unlocked) → ended (releases x releaser a) ≡ Some b → a ≡ b
answered x releaser a b e = same_answer a b (sym (release_ends x releaser a) ∙ e)

goes_silent : (x : SeatState) (p : Point) (answer : Unlocked) → release_ended Open p ≡ None → ended (goes_on x p) ≡ Some answer → ⊥
goes_silent x p answer silent e = let f : None ≡ Some answer = sym silent ∙ e in cc

-- The grant

-- the oldest record of the queue belongs to a seat
oldest_seat : (c : Core) (g : Ghost) (r : Record) (rest : List Record) → Fits c g → queue_of c ≡ r ∷ rest → IsSeat c.seats r.seat
oldest_seat c g r rest fits queue =
    let some : 0 < length (queue_of c) = rw queue (omega arith) in
    let stands = waits_read c g fits r.seat (0, r, some, rw queue refl, refl) in
    let told = stamp_of_queued (g.standing r.seat) stands in
    seat_of_queued c g r.seat told.0 fits told.1

grant : (c : Core) (g : Ghost) (s : ℕ) (carrier : Carrier) (r : Record) → (seat c.seats s).point ≡ GrantWakeStore carrier r → Fits c g → is_seat c.seats s ≡ true → Grants c (step c s).core r.seat
grant c g s carrier r at fits test =
    let goes = queue_made c g s fits in
    let queue = serves _ _ (pushed_by c s) (popped_by c s) r goes (rw at refl) (rw at refl) in
    record {
      stamp = r.stamp;
      oldest = queue;
      word = rw (test, at, at) (wake-with_same c r.seat (Grant r.stamp) (oldest_seat c g r _ fits queue) fits.sizes);
    }

-- The end of a release

frees : (c : Core) (g : Ghost) (s : ℕ) (releaser : Releaser) (answer : Unlocked) → (seat c.seats s).point ≡ ReleaseCountSubtract releaser → Fits c g → is_seat c.seats s ≡ true
    → ended (stepped c s) ≡ Some answer → Released c (step c s).core s answer
frees c g s releaser answer at fits test e =
    elim (cases_eq c.count 1) [
      | inl last ↦
          let same = answered (seat c.seats s) releaser Free answer (rw (at, at, eq-eqb c.count 1 last) at e) in
          rw (sym same) (record {
            kind = rw at refl;
            before = last;
            after = rw (test, at) (omega (arith, last));
            queue = stays _ _ (pushed_by c s) (popped_by c s) (queue_made c g s fits) (rw at refl) (rw at refl);
          })
      | inr more ↦
          let next : Point = take (Carrier.Releaser releaser) s (oldest c.popped) in
          absurd (goes_silent (seat c.seats s) next answer (next_take (Carrier.Releaser releaser) s (oldest c.popped)).silent (rw (at, at, ne_eqb c.count 1 more) at e))
    ]

posts : (c : Core) (g : Ghost) (s : ℕ) (releaser : Releaser) (answer : Unlocked) → (seat c.seats s).point ≡ ReleasePushRecheck releaser → Fits c g
    → ended (stepped c s) ≡ Some answer → Released c (step c s).core s answer
posts c g s releaser answer at fits e =
    elim (cases_eq c.push.next 0) [
      | inl empty ↦
          let same = answered (seat c.seats s) releaser Posted answer (rw (at, at, eq-eqb c.push.next 0 empty) at e) in
          rw (sym same) (record {
            kind = rw at refl;
            empty = empty;
            queue = stays _ _ (pushed_by c s) (popped_by c s) (queue_made c g s fits) (rw at refl) (rw at refl);
          })
      | inr some ↦ absurd (goes_silent (seat c.seats s) (ReleaseHandoffExchange releaser) answer refl (rw (at, at, ne_eqb c.push.next 0 some) at e))
    ]

loses : (c : Core) (g : Ghost) (s : ℕ) (releaser : Releaser) (answer : Unlocked) → (seat c.seats s).point ≡ ReleaseHandoffExchange releaser → Fits c g
    → ended (stepped c s) ≡ Some answer → Released c (step c s).core s answer
loses c g s releaser answer at fits e =
    elim (cases_Bool (same_handoff c.handoff (record { seat = s; post = (seat c.seats s).posts }))) [
      | inl won ↦
          let next : Point = take (Carrier.Reclaimer releaser) s (oldest c.popped) in
          absurd (goes_silent (seat c.seats s) next answer (next_take (Carrier.Reclaimer releaser) s (oldest c.popped)).silent (rw (at, at, won) at e))
      | inr lost ↦
          let same = answered (seat c.seats s) releaser TakenOver answer (rw (at, at, lost) at e) in
          rw (sym same) (record {
            kind = rw at refl;
            gone = same_handoff_false c.handoff (record { seat = s; post = (seat c.seats s).posts }) lost;
            queue = stays _ _ (pushed_by c s) (popped_by c s) (queue_made c g s fits) (rw at refl) (rw at refl);
          })
    ]

-- among the carriers that grant, only a releaser ends a release, and it answers that grant
grants_by : (c : Core) (s : ℕ) (carrier : Carrier) (r : Record) (answer : Unlocked) (x : SeatState) → Grants c (step c s).core r.seat → ended (granted x carrier r) ≡ Some answer
    → Released c (step c s).core s answer
grants_by c s Carrier.Locker r answer x grants e = absurd (cc)
grants_by c s (Carrier.Releaser releaser) r answer x grants e = rw (sym (answered x releaser (Granted r.seat) answer e)) grants
grants_by c s (Carrier.Reclaimer releaser) r answer x grants e = rw (sym (answered x releaser (Granted r.seat) answer e)) grants
grants_by c s Carrier.Sender r answer x grants e = absurd (cc)

silent_ends : (c : Core) (s : ℕ) (p : Point) (answer : Unlocked) → (seat c.seats s).point ≡ p → is_call p ≡ true → may_end_at p ≡ false → ended (stepped c s) ≡ Some answer → ⊥
silent_ends c s p answer at inside stays e =
    let silent = (step_follows c s p at inside).silent stays in
    let f : None ≡ Some answer = sym silent ∙ e in
    cc

ends_at : (c : Core) (g : Ghost) (s : ℕ) (p : Point) (answer : Unlocked) → (seat c.seats s).point ≡ p → Fits c g → is_seat c.seats s ≡ true
    → ended (stepped c s) ≡ Some answer → Released c (step c s).core s answer
ends_at c g s (ReleaseCountSubtract releaser) answer at fits test e = frees c g s releaser answer at fits test e
ends_at c g s (ReleasePushRecheck releaser) answer at fits test e = posts c g s releaser answer at fits e
ends_at c g s (ReleaseHandoffExchange releaser) answer at fits test e = loses c g s releaser answer at fits e
ends_at c g s (GrantWakeStore carrier r) answer at fits test e =
    grants_by c s carrier r answer (seat c.seats s) (grant c g s carrier r at fits test) (rw (at, at) at e)
ends_at c g s Rest answer at fits test e = absurd (none_refused answer (rw at at e))
ends_at c g s (Asleep sleeper) answer at fits test e = absurd (none_refused answer (rw at at e))
ends_at c g s p answer at fits test e = absurd (silent_ends c s p answer at refl refl e)

pub releases_answer_what_they_did : ReleasesAnswerWhatTheyDid
releases_answer_what_they_did c s answer steady e =
    elim (cases_Bool (is_seat c.seats s)) [
      | inl is ↦
          let here = rw (is, own_made c s (seat_of_test c.seats s is), turn_made c s) at e in
          ends_at c steady.ghost_state s (seat c.seats s).point answer refl steady.fits is here
      | inr none ↦ absurd (none_refused answer (rw none at e))
    ]

-- Records that leave the queue

tells_granted : (x : SeatState) (carrier : Carrier) (s : ℕ) (given r : Record) → given ≡ r → GivesAway s given carrier
    → TellsServed (granted x carrier given).turn (granted x carrier given).seat.point s r
tells_granted x Carrier.Locker s given r same away = rw same at away
tells_granted x (Carrier.Releaser Unlocker) s given r same away = rw same refl
tells_granted x (Carrier.Releaser Waiter) s given r same away = rw same refl
tells_granted x (Carrier.Reclaimer Unlocker) s given r same away = rw same refl
tells_granted x (Carrier.Reclaimer Waiter) s given r same away = rw same refl
tells_granted x Carrier.Sender s given r same away = tt

-- the record that the step removes from the queue is the record that left
taken : (c : Core) (g : Ghost) (s : ℕ) (given r : Record) → Fits c g → pushed_by c s ≡ [] → popped_by c s ≡ given ∷ [] → queue_of c ≡ r ∷ queue_of (step c s).core → given ≡ r
taken c g s given r fits none served left =
    let queue = serves _ _ (pushed_by c s) (popped_by c s) given (queue_made c g s fits) none served in
    same_head given r _ (sym queue ∙ left)

not_taken : (c : Core) (g : Ghost) (s : ℕ) (r : Record) → Fits c g → popped_by c s ≡ [] → queue_of c ≡ r ∷ queue_of (step c s).core → ⊥
not_taken c g s r fits none left = unserved _ _ (pushed_by c s) (popped_by c s) r (queue_made c g s fits) none left

told_at : (c : Core) (g : Ghost) (s : ℕ) (p : Point) (r : Record) → (seat c.seats s).point ≡ p → Fits c g → queue_of c ≡ r ∷ queue_of (step c s).core
    → TellsServed (stepped c s).turn (stepped c s).seat.point s r
told_at c g s (GrantWakeStore carrier given) r at fits left =
    let knows = rw at at (fits.each s).knows in
    let same = taken c g s given r fits (rw at refl) (rw at refl) left in
    rw (at, at) (tells_granted (seat c.seats s) carrier s given r same knows.2)
told_at c g s (EnterOwnerStore Entrant.Locker (How.Queued stamp)) r at fits left =
    let given : Record = record { seat = s; stamp = stamp } in
    let same : given ≡ r = taken c g s given r fits (rw at refl) (rw at refl) left in
    rw (at, at) (ap (λ (q : Record). How.Queued q.stamp) same, sym (ap (λ (q : Record). q.seat) same))
told_at c g s p r at fits left = absurd (not_taken c g s r fits (rw at refl) left)

no_shorter : (rest : List Record) (r : Record) → rest ≡ r ∷ rest → ⊥
no_shorter rest r e = let long = ap length e in omega (arith, long)

pub served_records_are_told : ServedRecordsAreTold
served_records_are_told c s r steady left =
    elim (cases_Bool (is_seat c.seats s)) [
      | inl is ↦
          let told = told_at c steady.ghost_state s (seat c.seats s).point r refl steady.fits left in
          rw (is, own_made c s (seat_of_test c.seats s is), turn_made c s) told
      | inr none ↦ absurd (no_shorter (queue_of c) r (rw none at left))
    ]
