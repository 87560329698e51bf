-- The handoff exchanges: the call that wins one carries the responsibility; the call that loses one sleeps, ends or goes on to
-- wait.
use Rattle.std.proofs.Common.{◌≡◌, ℕ, Bool, true, false, ◌-◌, ◌<◌, ◌||◌, Some, refl, ap, ◌∙◌, inl, inr, arith}
use Rattle.std.proofs.lemmas.Bool.{cases_Bool}
use Rattle.lfm_model.specs.Abstract.{AbstractMutex, Moves, carried}
use Rattle.lfm_model.specs.Abstract as Abstract
use Rattle.lfm_model.specs.AbstractRuns as Case
use Rattle.lfm_model.specs.declared.answers.Unlocked.TheVariants.{TakenOver}
use Rattle.lfm_protocol.specs.declared.points.Carrier.TheVariants as Carrier
use Rattle.lfm_protocol.specs.declared.points.Point.TheVariants.{Rest, Asleep, PushedHandoffExchange, TryHandoffExchange, TryCountAdd, ReleaseHandoffExchange, ReleasePushRecheck, TakeClearHead}
use Rattle.lfm_protocol.specs.declared.points.Pusher.{Pusher}
use Rattle.lfm_protocol.specs.declared.points.Releaser.{Releaser}
use Rattle.lfm_protocol.specs.declared.points.Sleeper.TheVariants as Sleeper
use Rattle.lfm_protocol.specs.declared.seats.SeatState.{SeatState}
use Rattle.lfm_words.specs.declared.handoffs.Handoff.{Handoff}
use Rattle.lfm_words.specs.Popped.{oldest}
use Rattle.lfm_protocol.specs.After.{same_handoff, carrier_of}
use Rattle.lfm_protocol.specs.Core.{Core}
use Rattle.lfm_laws.specs.steady.Ghost.{Standing, Ghost, nobody, posted, accepting, serving}
use Rattle.lfm_laws.specs.steady.EventOutcome.{Kept, GoesBy, abstract, abstract_place}
use Rattle.lfm_protocol.specs.Seats.{seat, wake, IsSeat}
use Rattle.lfm_laws.specs.steady.Steady.{Fits, KnowsRecord, StandsAsCarrier, AwaitsAsPusher, PushedFits}
use Rattle.lfm_laws.specs.steady.Views.{is_queued, grant_at, due_posts_of_pusher, due_posts_of_carrier, due_pushes_of_carrier}
use Rattle.lfm_laws.proofs.steady.frames.Frames.{view_moves}
use Rattle.lfm_laws.proofs.steady.handoff.Handoffs.{seat_at, held_own, listed_same, posted_of, same_handoff_true, same_handoff_false}
use Rattle.lfm_laws.proofs.steady.frames.Histories.{history_stays}
use Rattle.lfm_laws.proofs.steady.handoff.Released.{released, released_own, released_errands, released_history}
use Rattle.lfm_laws.proofs.steady.handoff.WonHandoff.{handoff_wins}
use Rattle.lfm_laws.proofs.steady.frames.Quiet.{wake_by_same}

takes_by : (a b : AbstractMutex) (s : ℕ) → Moves a b Abstract.posted (carried s Abstract.serving) → GoesBy (Some Case.take) a b
takes_by a b s moves = (Abstract.take s moves, refl)

accepts_by : (a b : AbstractMutex) (s : ℕ) → Moves a b Abstract.posted (carried s (Abstract.entering s)) → GoesBy (Some Case.accept) a b
accepts_by a b s moves = (Abstract.accept s moves, refl)

-- Pushers

or_none : (b : Bool) → (b || false) ≡ true → b ≡ true
or_none true e = refl
or_none false e = e

-- a pusher that takes over has the standing and the due posts of a carrier
stands_to_carry : (s : ℕ) (standing : Standing) (pusher : Pusher) → AwaitsAsPusher posted s standing pusher → StandsAsCarrier standing (carrier_of pusher)
stands_to_carry s standing Pusher.Locker stands = or_none (is_queued standing) stands
stands_to_carry s standing (Pusher.Sender t) stands = stands

knows_record : (c : Core) (g : Ghost) (seen : Handoff) (pusher : Pusher) → c.handoff ≡ seen → 0 < seen.seat → PushedFits c g seen pusher → KnowsRecord g (carrier_of pusher)
knows_record c g seen Pusher.Locker same above knows = tt
knows_record c g seen (Pusher.Sender t) same above knows = knows same above

posts_to_carry : (pusher : Pusher) → due_posts_of_carrier (carrier_of pusher) ≡ due_posts_of_pusher 0 pusher
posts_to_carry Pusher.Locker = refl
posts_to_carry (Pusher.Sender t) = refl

pushes_to_carry : (pusher : Pusher) → due_pushes_of_carrier (carrier_of pusher) ≡ 0
pushes_to_carry Pusher.Locker = refl
pushes_to_carry (Pusher.Sender t) = refl

-- the pusher takes over; while the mutex was posted the pop list was empty
pusher_takes : (c : Core) (g : Ghost) (s : ℕ) (pusher : Pusher) (seen : Handoff) (takes posts : ℕ) → IsSeat c.seats s
    → seat c.seats s ≡ record { depth = 0; takes = takes; posts = posts; point = PushedHandoffExchange pusher seen } → same_handoff c.handoff seen ≡ true → Fits c g → Kept c g s
pusher_takes c g s pusher seen takes posts is at won fits =
    let here = rw at at (fits.each s) in
    let same = same_handoff_true c.handoff seen won in
    let above : 0 < seen.seat = here.knows.0.above in
    let place : g.place ≡ posted = posted_of c.seats g.place c.handoff (rw same above) fits.words.handoff in
    let carried = rw place at fits.words.carried in
    let before = rw place at here in
    let h : Ghost = record g { place = serving s } in
    let y : SeatState = record { depth = 0; takes = takes; posts = posts; point = TakeClearHead (carrier_of pusher) } in
    rw (at, at, won, ap oldest carried.1) (record {
      to = h;
      fits = handoff_wins c g s y (serving s) is fits (record {
        errands = record { asks_same = rw at; claims_same = rw at; posts_same = rw at };
        before = place;
        after = refl;
        own = record {
          claims = held_own s (serving s) nobody;
          woken = before.woken;
          granted = λ e. absurd cc;
          entered = λ e. absurd cc;
          listed = λ stamp stands. listed_same g h s stamp refl refl refl (here.listed stamp stands);
          stands = stands_to_carry s (g.standing s) pusher before.stands;
          depth = refl;
          knows = (carried.0, carried.1, knows_record c g seen pusher same above here.knows.1);
          number = λ same above. absurd (omega arith);
          takes = here.takes;
          posts = omega (arith, here.posts, posts_to_carry pusher);
          pushes = omega (arith, here.pushes, pushes_to_carry pusher);
          watches = λ posts. absurd cc;
        };
      });
      goes = takes_by (abstract g) (abstract h) s (record { before = ap abstract_place place; after = refl; asking = λ x. refl; waiting = refl });
      history = history_stays g h refl refl refl refl;
    })

-- a locker that is too late sleeps
locker_sleeps : (c : Core) (g : Ghost) (s : ℕ) (seen : Handoff) (takes posts : ℕ) → IsSeat c.seats s
    → seat c.seats s ≡ record { depth = 0; takes = takes; posts = posts; point = PushedHandoffExchange Pusher.Locker seen } → same_handoff c.handoff seen ≡ false → Fits c g → Kept c g s
locker_sleeps c g s seen takes posts is at lost fits =
    let here = rw at at (fits.each s) in
    let y : SeatState = record { depth = 0; takes = takes; posts = posts; point = Asleep Sleeper.Locker } in
    rw (at, at, lost) (record {
      to = g;
      fits = view_moves c g s y is fits (record { asks_same = rw at; claims_same = rw at; posts_same = rw at }) (record {
        claims = here.claims;
        woken = here.woken ∙ wake_by_same (grant_at g.place s) g.place (g.standing s) (g.standing s) s (PushedHandoffExchange Pusher.Locker seen) (Asleep Sleeper.Locker) refl;
        granted = here.granted;
        entered = here.entered;
        listed = here.listed;
        stands = here.stands;
        depth = refl;
        knows = tt;
        number = here.number;
        takes = here.takes;
        posts = here.posts;
        pushes = here.pushes;
        watches = λ posts who. absurd (same_handoff_false c.handoff seen lost (here.watches posts who));
      });
      goes = record { place = refl; asking = λ x. refl; waiting = refl };
      history = history_stays g g refl refl refl refl;
    })

-- a sender that is too late ends
sender_ends : (c : Core) (g : Ghost) (s t : ℕ) (seen : Handoff) (takes posts : ℕ) → IsSeat c.seats s
    → seat c.seats s ≡ record { depth = 0; takes = takes; posts = posts; point = PushedHandoffExchange (Pusher.Sender t) seen } → same_handoff c.handoff seen ≡ false → Fits c g → Kept c g s
sender_ends c g s t seen takes posts is at lost fits =
    let here = rw at at (fits.each s) in
    let y : SeatState = record { depth = 0; takes = takes; posts = posts; point = Rest } in
    rw (at, at, lost) (record {
      to = g;
      fits = view_moves c g s y is fits (record { asks_same = rw at; claims_same = rw at; posts_same = rw at }) (record {
        claims = here.claims;
        woken = here.woken ∙ wake_by_same (grant_at g.place s) g.place (g.standing s) (g.standing s) s (PushedHandoffExchange (Pusher.Sender t) seen) Rest refl;
        granted = here.granted;
        entered = here.entered;
        listed = here.listed;
        stands = here.stands;
        depth = omega arith;
        knows = tt;
        number = here.number;
        takes = here.takes;
        posts = here.posts;
        pushes = here.pushes;
        watches = λ posts who. absurd (same_handoff_false c.handoff seen lost (here.watches posts who));
      });
      goes = record { place = refl; asking = λ x. refl; waiting = refl };
      history = history_stays g g refl refl refl refl;
    })

pusher_loses : (c : Core) (g : Ghost) (s : ℕ) (pusher : Pusher) (seen : Handoff) (takes posts : ℕ) → IsSeat c.seats s
    → seat c.seats s ≡ record { depth = 0; takes = takes; posts = posts; point = PushedHandoffExchange pusher seen } → same_handoff c.handoff seen ≡ false → Fits c g → Kept c g s
pusher_loses c g s Pusher.Locker seen takes posts is at lost fits = locker_sleeps c g s seen takes posts is at lost fits
pusher_loses c g s (Pusher.Sender t) seen takes posts is at lost fits = sender_ends c g s t seen takes posts is at lost fits

pub at_PushedHandoffExchange : (c : Core) (g : Ghost) (s : ℕ) (pusher : Pusher) (seen : Handoff) → IsSeat c.seats s → (seat c.seats s).point ≡ PushedHandoffExchange pusher seen → Fits c g → Kept c g s
at_PushedHandoffExchange c g s pusher seen is at fits =
    let here = rw at at (fits.each s) in
    let written = seat_at (seat c.seats s) 0 (PushedHandoffExchange pusher seen) here.depth at in
    elim (cases_Bool (same_handoff c.handoff seen)) [
      | inl won ↦ pusher_takes c g s pusher seen _ _ is written won fits
      | inr lost ↦ pusher_loses c g s pusher seen _ _ is written lost fits
    ]

-- try_lock

-- the call accepts the responsibility and has yet to be counted
try_accepts : (c : Core) (g : Ghost) (s : ℕ) (seen : Handoff) (takes posts : ℕ) → IsSeat c.seats s
    → seat c.seats s ≡ record { depth = 0; takes = takes; posts = posts; point = TryHandoffExchange seen } → same_handoff c.handoff seen ≡ true → Fits c g → Kept c g s
try_accepts c g s seen takes posts is at won fits =
    let here = rw at at (fits.each s) in
    let same = same_handoff_true c.handoff seen won in
    let place : g.place ≡ posted = posted_of c.seats g.place c.handoff (rw same here.knows.above) fits.words.handoff in
    let before = rw place at here in
    let h : Ghost = record g { place = accepting s } in
    let y : SeatState = record { depth = 0; takes = takes; posts = posts; point = TryCountAdd } in
    rw (at, at, won) (record {
      to = h;
      fits = handoff_wins c g s y (accepting s) is fits (record {
        errands = record { asks_same = rw at; claims_same = rw at; posts_same = rw at };
        before = place;
        after = refl;
        own = record {
          claims = held_own s (accepting s) nobody;
          woken = before.woken;
          granted = λ e. absurd cc;
          entered = λ e. absurd cc;
          listed = λ stamp stands. listed_same g h s stamp refl refl refl (here.listed stamp stands);
          stands = here.stands;
          depth = refl;
          knows = tt;
          number = λ same above. absurd (omega arith);
          takes = here.takes;
          posts = here.posts;
          pushes = omega (arith, here.pushes);
          watches = λ posts. absurd cc;
        };
      });
      goes = accepts_by (abstract g) (abstract h) s (record { before = ap abstract_place place; after = refl; asking = λ x. refl; waiting = refl });
      history = history_stays g h refl refl refl refl;
    })

-- too late: the charge is given back
try_is_busy : (c : Core) (g : Ghost) (s : ℕ) (seen : Handoff) (takes posts : ℕ) → IsSeat c.seats s
    → seat c.seats s ≡ record { depth = 0; takes = takes; posts = posts; point = TryHandoffExchange seen } → same_handoff c.handoff seen ≡ false → Fits c g → Kept c g s
try_is_busy c g s seen takes posts is at lost fits =
    let here = rw at at (fits.each s) in
    let y : SeatState = record { depth = 0; takes = takes - 1; posts = posts; point = Rest } in
    rw (at, at, lost) (record {
      to = g;
      fits = view_moves c g s y is fits (record { asks_same = rw at; claims_same = rw at; posts_same = rw at }) (record {
        claims = here.claims;
        woken = here.woken ∙ wake_by_same (grant_at g.place s) g.place (g.standing s) (g.standing s) s (TryHandoffExchange seen) Rest refl;
        granted = here.granted;
        entered = here.entered;
        listed = here.listed;
        stands = here.stands;
        depth = omega arith;
        knows = tt;
        number = here.number;
        takes = omega (arith, here.takes);
        posts = omega (arith, here.posts);
        pushes = omega (arith, here.pushes);
        watches = here.watches;
      });
      goes = record { place = refl; asking = λ x. refl; waiting = refl };
      history = history_stays g g refl refl refl refl;
    })

pub at_TryHandoffExchange : (c : Core) (g : Ghost) (s : ℕ) (seen : Handoff) → IsSeat c.seats s → (seat c.seats s).point ≡ TryHandoffExchange seen → Fits c g → Kept c g s
at_TryHandoffExchange c g s seen is at fits =
    let here = rw at at (fits.each s) in
    let written = seat_at (seat c.seats s) 0 (TryHandoffExchange seen) here.depth at in
    elim (cases_Bool (same_handoff c.handoff seen)) [
      | inl won ↦ try_accepts c g s seen _ _ is written won fits
      | inr lost ↦ try_is_busy c g s seen _ _ is written lost fits
    ]

-- Releases

-- the poster takes its own post back, because some seat is queued by now
poster_takes : (c : Core) (g : Ghost) (s : ℕ) (releaser : Releaser) (takes posts : ℕ) → IsSeat c.seats s
    → seat c.seats s ≡ record { depth = 0; takes = takes; posts = posts; point = ReleaseHandoffExchange releaser } → same_handoff c.handoff (record { seat = s; post = posts }) ≡ true → Fits c g
    → Kept c g s
poster_takes c g s releaser takes posts is at won fits =
    let here = rw at at (fits.each s) in
    let own : Handoff = record { seat = s; post = posts } in
    let same = same_handoff_true c.handoff own won in
    let place : g.place ≡ posted = posted_of c.seats g.place c.handoff (rw same is.above) fits.words.handoff in
    let carried = rw place at fits.words.carried in
    let before = rw place at here in
    let h : Ghost = record g { place = serving s } in
    let y : SeatState = record { depth = 0; takes = takes; posts = posts; point = TakeClearHead (Carrier.Reclaimer releaser) } in
    rw (at, at, won, ap oldest carried.1) (record {
      to = h;
      fits = handoff_wins c g s y (serving s) is fits (record {
        errands = record { asks_same = rw at; claims_same = rw at; posts_same = rw at };
        before = place;
        after = refl;
        own = record {
          claims = held_own s (serving s) nobody;
          woken = before.woken;
          granted = λ e. absurd cc;
          entered = λ e. absurd cc;
          listed = λ stamp stands. listed_same g h s stamp refl refl refl (here.listed stamp stands);
          stands = here.stands;
          depth = refl;
          knows = (carried.0, carried.1, here.knows same is.above);
          number = λ same above. absurd (omega arith);
          takes = here.takes;
          posts = here.posts;
          pushes = here.pushes;
          watches = λ posts. absurd cc;
        };
      });
      goes = takes_by (abstract g) (abstract h) s (record { before = ap abstract_place place; after = refl; asking = λ x. refl; waiting = refl });
      history = history_stays g h refl refl refl refl;
    })

-- another call has taken it over
poster_loses : (c : Core) (g : Ghost) (s : ℕ) (releaser : Releaser) (takes posts : ℕ) → IsSeat c.seats s
    → seat c.seats s ≡ record { depth = 0; takes = takes; posts = posts; point = ReleaseHandoffExchange releaser } → same_handoff c.handoff (record { seat = s; post = posts }) ≡ false → Fits c g
    → Kept c g s
poster_loses c g s releaser takes posts is at lost fits =
    let here = rw at at (fits.each s) in
    let own : Handoff = record { seat = s; post = posts } in
    let x : SeatState = record { depth = 0; takes = takes; posts = posts; point = ReleaseHandoffExchange releaser } in
    let unwatched : g.place ≡ posted → g.watcher ≡ s → ⊥ = λ at who. same_handoff_false c.handoff own lost (here.watches at who) in
    rw (at, at, lost) (record {
      to = g;
      fits = view_moves c g s (released takes posts (ReleaseHandoffExchange releaser) releaser TakenOver) is fits
          (released_errands c s takes posts (ReleaseHandoffExchange releaser) releaser TakenOver (rw at) (rw at) (rw at))
          (released_own c g s takes posts (wake c.wakes s) (ReleaseHandoffExchange releaser) releaser TakenOver (record {
            claims = here.claims;
            woken = here.woken ∙ wake_by_same (grant_at g.place s) g.place (g.standing s) (g.standing s) s (ReleaseHandoffExchange releaser) (ReleasePushRecheck releaser) refl;
            granted = here.granted;
            entered = here.entered;
            listed = here.listed;
            stands = here.stands;
            depth = refl;
            knows = tt;
            number = here.number;
            takes = here.takes;
            posts = here.posts;
            pushes = here.pushes;
            watches = λ posts who. absurd (unwatched posts who);
          }) unwatched);
      goes = record { place = refl; asking = λ x. refl; waiting = refl };
      history = released_history g g s x releaser TakenOver (history_stays g g refl refl refl refl);
    })

pub at_ReleaseHandoffExchange : (c : Core) (g : Ghost) (s : ℕ) (releaser : Releaser) → IsSeat c.seats s → (seat c.seats s).point ≡ ReleaseHandoffExchange releaser → Fits c g → Kept c g s
at_ReleaseHandoffExchange c g s releaser is at fits =
    let here = rw at at (fits.each s) in
    let written = seat_at (seat c.seats s) 0 (ReleaseHandoffExchange releaser) here.depth at in
    elim (cases_Bool (same_handoff c.handoff (record { seat = s; post = (seat c.seats s).posts }))) [
      | inl won ↦ poster_takes c g s releaser _ _ is written won fits
      | inr lost ↦ poster_loses c g s releaser _ _ is written lost fits
    ]
