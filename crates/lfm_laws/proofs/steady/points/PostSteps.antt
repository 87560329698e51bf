-- The steps of a release that posts the responsibility and then rechecks whether a seat was pushed.
use Rattle.std.proofs.Common.{◌≡◌, ◌≢◌, ℕ, ◌+◌, ◌<◌, Some, refl, sym, ap, subst, ◌∙◌, eqb, length, ◌⊎◌, inl, inr, arith}
use Rattle.std.proofs.lemmas.Bool.{cases_eq, cases_lt, eq-eqb, ne_eqb, cond-false}
use Rattle.lfm_model.specs.Abstract.{AbstractMutex, HasSomebody, Moves, carried}
use Rattle.lfm_model.specs.Abstract as Abstract
use Rattle.lfm_model.specs.AbstractRuns as Case
use Rattle.lfm_model.specs.declared.answers.Unlocked.TheVariants.{Posted}
use Rattle.lfm_protocol.specs.declared.points.Point.TheVariants.{ReleaseHandoffStore, ReleasePushRecheck, ReleaseHandoffExchange}
use Rattle.lfm_protocol.specs.declared.points.Releaser.{Releaser}
use Rattle.lfm_protocol.specs.declared.seats.SeatState.{SeatState}
use Rattle.lfm_words.specs.declared.handoffs.Handoff.{Handoff}
use Rattle.lfm_protocol.specs.Core.{Core}
use Rattle.lfm_laws.specs.steady.Ghost.{Ghost, posted, serving, apart, queued}
use Rattle.lfm_laws.specs.steady.EventOutcome.{Kept, GoesBy, abstract, abstract_place}
use Rattle.lfm_protocol.specs.Seats.{seat, wake, entry, IsSeat}
use Rattle.lfm_laws.specs.steady.Steady.{Fits, HasQueue, HeadStays, cleared}
use Rattle.lfm_laws.specs.steady.Views.{grant_at, asks_for}
use Rattle.lfm_laws.proofs.steady.frames.Abstracts.{somebody}
use Rattle.lfm_laws.proofs.steady.frames.Frames.{view_moves, place_of_claim}
use Rattle.lfm_laws.proofs.steady.handoff.Handoffs.{seat_at, listed_same}
use Rattle.lfm_laws.proofs.steady.frames.Histories.{history_stays}
use Rattle.lfm_laws.proofs.steady.handoff.Posting.{asker, posts_handoff}
use Rattle.lfm_laws.proofs.steady.handoff.Released.{released, released_own, released_errands, released_history}
use Rattle.lfm_laws.proofs.steady.queue.Pushers.{head_has_queue}
use Rattle.lfm_laws.proofs.steady.frames.Quiet.{wake_by_same}

-- The post

posts_by : (a b : AbstractMutex) (s : ℕ) → HasSomebody a → Moves a b (carried s Abstract.serving) Abstract.posted → GoesBy (Some Case.post) a b
posts_by a b s some moves = (Abstract.post s some moves, refl)

-- the poster itself has no seat to push
queued_for : (c : Core) (g : Ghost) (s watcher : ℕ) → asks_for (seat c.seats s) s ≡ 0 → watcher ≡ s → (HasQueue g × (watcher ≡ s)) ⊎ (0 < asks_for (seat c.seats watcher) watcher) → HasQueue g
queued_for c g s watcher none who watched =
    elim watched [
      | inl own ↦ own.0
      | inr asking ↦ let some = subst (λ (w : ℕ). 0 < asks_for (seat c.seats w) w) who asking in absurd (omega arith)
    ]

-- The post is watched from its first moment: if some seat is queued, by the poster, which has yet to recheck; otherwise by a
-- seat that has yet to push one
handoff_stored : (c : Core) (g : Ghost) (s watcher : ℕ) (releaser : Releaser) (takes posts : ℕ) → IsSeat c.seats s
    → seat c.seats s ≡ record { depth = 0; takes = takes; posts = posts; point = ReleaseHandoffStore releaser }
    → (HasQueue g × (watcher ≡ s)) ⊎ (0 < asks_for (seat c.seats watcher) watcher) → Fits c g → Kept c g s
handoff_stored c g s watcher releaser takes posts is at watched fits =
    let here = rw at at (fits.each s) in
    let place : g.place ≡ serving s = place_of_claim g.place (serving s) s (λ e. cc) here.claims in
    let work : g.popped < g.asking + g.pushed = rw place at fits.words.work in
    let seen = rw place at here in
    let h : Ghost = record g { place = posted; watcher = watcher } in
    let y : SeatState = record { depth = 0; takes = takes; posts = posts + 1; point = ReleasePushRecheck releaser } in
    rw (at, at) (record {
      to = h;
      fits = posts_handoff c g s y watcher is fits (record {
        asks_same = rw at;
        claims_same = rw at;
        next = rw at;
        before = place;
        walked = here.knows.0;
        empty = here.knows.1;
        watched = elim watched [ inl own ↦ inl own.1 | inr asking ↦ inr asking ];
        own = record {
          claims = refl;
          woken = seen.woken;
          granted = λ e. absurd cc;
          entered = λ e. absurd cc;
          listed = λ stamp stands. listed_same g h s stamp refl refl refl (here.listed stamp stands);
          stands = here.stands;
          depth = refl;
          knows = tt;
          number = λ same above. refl;
          takes = here.takes;
          posts = omega (arith, here.posts);
          pushes = here.pushes;
          watches = λ stands who. (refl, queued_for c g s watcher (rw at) who watched);
        };
      });
      goes = posts_by (abstract g) (abstract h) s (somebody c g fits work) (record { before = ap abstract_place place; after = refl; asking = λ x. refl; waiting = refl });
      history = history_stays g h refl refl refl refl;
    })

store_watched : (c : Core) (g : Ghost) (s : ℕ) (releaser : Releaser) (takes posts : ℕ) → IsSeat c.seats s
    → seat c.seats s ≡ record { depth = 0; takes = takes; posts = posts; point = ReleaseHandoffStore releaser } → Fits c g
    → (w : ℕ) × (0 < asks_for (seat c.seats w) w) → Kept c g s
store_watched c g s releaser takes posts is at fits (w, asking) = handoff_stored c g s w releaser takes posts is at (inr asking) fits

pub at_ReleaseHandoffStore : (c : Core) (g : Ghost) (s : ℕ) (releaser : Releaser) → IsSeat c.seats s → (seat c.seats s).point ≡ ReleaseHandoffStore releaser → Fits c g → Kept c g s
at_ReleaseHandoffStore c g s releaser is at fits =
    let here = rw at at (fits.each s) in
    let written = seat_at (seat c.seats s) 0 (ReleaseHandoffStore releaser) here.depth at in
    let place : g.place ≡ serving s = place_of_claim g.place (serving s) s (λ e. cc) here.claims in
    let work : g.popped < g.asking + g.pushed = rw place at fits.words.work in
    elim (cases_lt g.popped g.pushed) [
      | inl some ↦ handoff_stored c g s s releaser _ _ is written (inl (some, refl)) fits
      | inr none ↦ store_watched c g s releaser _ _ is written fits (asker c g fits (omega arith))
    ]

-- The recheck

-- no seat has the number 0, so none is queued there
nobody_queued : (c : Core) (g : Ghost) (stamp : ℕ) → Fits c g → g.standing 0 ≡ queued stamp → ⊥
unfolding entry
nobody_queued c g stamp fits stands = let here : g.standing 0 ≡ apart = (fits.each 0).stands in cc

-- while a handoff is posted and some seat is queued, the push list has a record
head_of_queue : (c : Core) (g : Ghost) → Fits c g → g.place ≡ posted → HasQueue g → c.push.next ≢ 0
head_of_queue c g fits at some zero =
    let carried = rw at at fits.words.carried in
    let none = ap length carried.1 in
    let apart : cleared c g ≢ g.pushed = omega (arith, carried.0) in
    let newest : g.pushed_at g.pushed ≡ 0 = sym (cond-false (eqb (cleared c g) g.pushed) 0 (g.pushed_at g.pushed) (ne_eqb (cleared c g) g.pushed apart)) ∙ sym fits.words.head ∙ zero in
    let stands : g.standing (g.pushed_at g.pushed) ≡ queued g.pushed = (fits.stamps g.pushed some (omega arith)).stands in
    nobody_queued c g g.pushed fits (rw newest at stands)

-- no seat was pushed: the watcher is another seat
recheck_finds_none : (c : Core) (g : Ghost) (s : ℕ) (releaser : Releaser) (takes posts : ℕ) → IsSeat c.seats s
    → seat c.seats s ≡ record { depth = 0; takes = takes; posts = posts; point = ReleasePushRecheck releaser } → c.push.next ≡ 0 → Fits c g → Kept c g s
recheck_finds_none c g s releaser takes posts is at empty fits =
    let here = rw at at (fits.each s) in
    let x : SeatState = record { depth = 0; takes = takes; posts = posts; point = ReleasePushRecheck releaser } in
    let unwatched : g.place ≡ posted → g.watcher ≡ s → ⊥ = λ at who. head_of_queue c g fits at (here.watches at who).1 empty in
    rw (at, at, eq-eqb c.push.next 0 empty) (record {
      to = g;
      fits = view_moves c g s (released takes posts (ReleasePushRecheck releaser) releaser Posted) is fits
          (released_errands c s takes posts (ReleasePushRecheck releaser) releaser Posted (rw at) (rw at) (rw at))
          (released_own c g s takes posts (wake c.wakes s) (ReleasePushRecheck releaser) releaser Posted here unwatched);
      goes = record { place = refl; asking = λ x. refl; waiting = refl };
      history = released_history g g s x releaser Posted (history_stays g g refl refl refl refl);
    })

-- some seat was pushed, so the poster goes on to take its post back
recheck_finds_some : (c : Core) (g : Ghost) (s : ℕ) (releaser : Releaser) (takes posts : ℕ) → IsSeat c.seats s
    → seat c.seats s ≡ record { depth = 0; takes = takes; posts = posts; point = ReleasePushRecheck releaser } → c.push.next ≢ 0 → Fits c g → Kept c g s
recheck_finds_some c g s releaser takes posts is at some fits =
    let here = rw at at (fits.each s) in
    let own : Handoff = record { seat = s; post = posts } in
    let y : SeatState = record { depth = 0; takes = takes; posts = posts; point = ReleaseHandoffExchange releaser } in
    let stays : HeadStays c g own = λ same above. head_has_queue c g fits some in
    rw (at, at, ne_eqb c.push.next 0 some) (record {
      to = g;
      fits = view_moves c g s y is fits (record { asks_same = rw at; claims_same = rw at; posts_same = rw at }) (record {
        claims = here.claims;
        woken = here.woken ∙ wake_by_same (grant_at g.place s) g.place (g.standing s) (g.standing s) s (ReleasePushRecheck releaser) (ReleaseHandoffExchange releaser) refl;
        granted = here.granted;
        entered = here.entered;
        listed = here.listed;
        stands = here.stands;
        depth = refl;
        knows = stays;
        number = here.number;
        takes = here.takes;
        posts = here.posts;
        pushes = here.pushes;
        watches = λ posts who. (here.watches posts who).0;
      });
      goes = record { place = refl; asking = λ x. refl; waiting = refl };
      history = history_stays g g refl refl refl refl;
    })

pub at_ReleasePushRecheck : (c : Core) (g : Ghost) (s : ℕ) (releaser : Releaser) → IsSeat c.seats s → (seat c.seats s).point ≡ ReleasePushRecheck releaser → Fits c g → Kept c g s
at_ReleasePushRecheck c g s releaser is at fits =
    let here = rw at at (fits.each s) in
    let written = seat_at (seat c.seats s) 0 (ReleasePushRecheck releaser) here.depth at in
    elim (cases_eq c.push.next 0) [
      | inl empty ↦ recheck_finds_none c g s releaser _ _ is written empty fits
      | inr some ↦ recheck_finds_some c g s releaser _ _ is written some fits
    ]
