-- The steps by which a release gives up its hold keep a state steady.
use Rattle.std.proofs.Common.{◌≡◌, ◌≢◌, ℕ, Some, false, ◌+◌, ◌-◌, ◌<◌, ◌≤◌, ◌⊎◌, inl, inr, List, [], ◌∷◌, refl, ap, arith}
use Rattle.std.proofs.lemmas.Bool.{eq-eqb, ne_eqb, cases_eq}
use Rattle.lfm_model.specs.Abstract.{AbstractMutex, AbstractPlace, GoesFrom, Moves, release, leave, free, carried}
use Rattle.lfm_model.specs.Abstract as Abstract
use Rattle.lfm_model.specs.AbstractRuns as Case
use Rattle.lfm_model.specs.declared.answers.Unlocked.TheVariants as Unlocked
use Rattle.lfm_protocol.specs.declared.points.Point.TheVariants.{ReleaseOwnerStore, ReleaseCountSubtract, TakeClearHead, GrantWakeStore}
use Rattle.lfm_protocol.specs.declared.points.Carrier.TheVariants as Carrier
use Rattle.lfm_protocol.specs.declared.points.Releaser.{Releaser}
use Rattle.lfm_protocol.specs.declared.seats.SeatState.{SeatState}
use Rattle.lfm_words.specs.Popped.{oldest}
use Rattle.lfm_words.specs.declared.pop_lists.Record.{Record}
use Rattle.lfm_protocol.specs.Core.{Core}
use Rattle.lfm_laws.specs.steady.Ghost.{Ghost, nobody, owned, leaving, serving}
use Rattle.lfm_laws.specs.steady.EventOutcome.{Kept, GoesBy, abstract, abstract_place}
use Rattle.lfm_protocol.specs.Seats.{seat, wake, IsSeat}
use Rattle.lfm_laws.specs.steady.Steady.{Fits}
use Rattle.lfm_laws.proofs.steady.frames.Abstracts.{somebody, nobody_left}
use Rattle.lfm_laws.proofs.steady.frames.Frames.{place_moves, place_of_claim}
use Rattle.lfm_laws.proofs.steady.handoff.Handoffs.{seat_at, held_own, listed_same}
use Rattle.lfm_laws.proofs.steady.frames.Histories.{history_stays}
use Rattle.lfm_laws.proofs.steady.handoff.Released.{released, released_own, released_errands, released_history}

-- the owner empties the owner word
owner_stored : (c : Core) (g : Ghost) (s : ℕ) (releaser : Releaser) (takes posts : ℕ) → IsSeat c.seats s
    → seat c.seats s ≡ record { depth = 1; takes = takes; posts = posts; point = ReleaseOwnerStore releaser } → Fits c g → Kept c g s
owner_stored c g s releaser takes posts is at fits =
    let here = rw at at (fits.each s) in
    let place : g.place ≡ owned s false = place_of_claim g.place (owned s false) s (λ e. cc) here.claims in
    let words = rw place at fits.words in
    let seen = rw place at here in
    let y : SeatState = record { depth = 0; takes = takes; posts = posts; point = ReleaseCountSubtract releaser } in
    rw (at, at) (record {
      to = record g { place = leaving s };
      fits = place_moves c g s y c.count 0 (leaving s) g.answered is fits (record {
        errands = record { asks_same = rw at; claims_same = rw at; posts_same = rw at };
        before = rw place refl;
        after = refl;
        owns = refl;
        units = rw place (omega arith);
        work = tt;
        carried = words.carried;
        last = tt;
        answers = words.answers;
        own = record {
          claims = held_own s (leaving s) nobody;
          woken = seen.woken;
          granted = seen.granted;
          entered = λ e. absurd cc;
          listed = λ stamp stands. listed_same g _ s stamp refl refl refl (here.listed stamp stands);
          stands = seen.stands;
          depth = refl;
          knows = tt;
          number = seen.number;
          takes = seen.takes;
          posts = seen.posts;
          pushes = seen.pushes;
          watches = λ posts. absurd cc;
        };
      });
      goes = (release s (record { before = ap abstract_place place; after = refl; asking = λ x. refl; waiting = refl }), refl);
      history = history_stays g _ refl refl refl refl;
    })

pub at_ReleaseOwnerStore : (c : Core) (g : Ghost) (s : ℕ) (releaser : Releaser) → IsSeat c.seats s → (seat c.seats s).point ≡ ReleaseOwnerStore releaser → Fits c g → Kept c g s
at_ReleaseOwnerStore c g s releaser is at fits =
    let here = rw at at (fits.each s) in
    owner_stored c g s releaser _ _ is (seat_at (seat c.seats s) 1 _ here.depth at) fits

-- a seat that has released leaves, and goes on as the other seats require
leaves_by : (a b : AbstractMutex) (s : ℕ) (to : AbstractPlace) → GoesFrom a s to → Moves a b (carried s Abstract.leaving) to → GoesBy (Some Case.leave) a b
leaves_by a b s to goes moves = (leave s to goes moves, refl)

-- no other seat is counted
left : (c : Core) (g : Ghost) (s : ℕ) (releaser : Releaser) (takes posts : ℕ) → IsSeat c.seats s
    → seat c.seats s ≡ record { depth = 0; takes = takes; posts = posts; point = ReleaseCountSubtract releaser } → c.count ≡ 1 → Fits c g → Kept c g s
left c g s releaser takes posts is at one fits =
    let here = rw at at (fits.each s) in
    let place : g.place ≡ leaving s = place_of_claim g.place (leaving s) s (λ e. cc) here.claims in
    let words = rw place at fits.words in
    let seen = rw place at here in
    let count : c.count + g.popped ≡ g.asking + g.pushed + 1 + 0 = words.count in
    let most : g.popped ≤ g.pushed = omega (arith, fits.words.parts) in
    let none : g.asking ≡ 0 = omega arith in
    let empty : g.pushed ≡ g.popped = omega arith in
    let h : Ghost = record g { place = nobody } in
    let x : SeatState = record { depth = 0; takes = takes; posts = posts; point = ReleaseCountSubtract releaser } in
    rw (at, at, eq-eqb c.count 1 one) (record {
      to = h;
      fits = place_moves c g s (released takes posts (ReleaseCountSubtract releaser) releaser Unlocked.Free) (c.count - 1) c.owner nobody g.answered is fits (record {
        errands = released_errands c s takes posts (ReleaseCountSubtract releaser) releaser Unlocked.Free (rw at) (rw at) (rw at);
        before = rw place refl;
        after = tt;
        owns = words.owner;
        units = rw place (omega arith);
        work = (none, empty);
        carried = words.carried;
        last = tt;
        answers = words.answers;
        own = released_own c h s takes posts (wake c.wakes s) (ReleaseCountSubtract releaser) releaser Unlocked.Free (record {
          claims = refl;
          woken = seen.woken;
          granted = λ e. absurd cc;
          entered = λ e. absurd cc;
          listed = λ stamp stands. listed_same g h s stamp refl refl refl (here.listed stamp stands);
          stands = seen.stands;
          depth = refl;
          knows = tt;
          number = seen.number;
          takes = seen.takes;
          posts = omega (arith, seen.posts);
          pushes = seen.pushes;
          watches = λ posts. absurd cc;
        }) (λ posts who. absurd cc);
      });
      goes = leaves_by (abstract g) (abstract h) s free (inl (nobody_left c g fits none empty, refl)) (record { before = ap abstract_place place; after = refl; asking = λ x. refl; waiting = refl });
      history = released_history g h s x releaser Unlocked.Free (history_stays g h refl refl refl refl);
    })

-- another seat asks or is queued, and the pop list is empty
leaves_to_clear : (c : Core) (g : Ghost) (s : ℕ) (releaser : Releaser) (takes posts : ℕ) → IsSeat c.seats s
    → seat c.seats s ≡ record { depth = 0; takes = takes; posts = posts; point = ReleaseCountSubtract releaser } → c.count ≢ 1 → c.popped ≡ [] → Fits c g → Kept c g s
leaves_to_clear c g s releaser takes posts is at more none fits =
    let here = rw at at (fits.each s) in
    let place : g.place ≡ leaving s = place_of_claim g.place (leaving s) s (λ e. cc) here.claims in
    let words = rw place at fits.words in
    let seen = rw place at here in
    let count : c.count + g.popped ≡ g.asking + g.pushed + 1 + 0 = words.count in
    let most : g.popped ≤ g.pushed = omega (arith, fits.words.parts) in
    let work : g.popped < g.asking + g.pushed = omega arith in
    let h : Ghost = record g { place = serving s } in
    let y : SeatState = record { depth = 0; takes = takes; posts = posts; point = TakeClearHead (Carrier.Releaser releaser) } in
    rw (at, at, ne_eqb c.count 1 more, ap oldest none) (record {
      to = h;
      fits = place_moves c g s y (c.count - 1) c.owner (serving s) g.answered is fits (record {
        errands = record { asks_same = rw at; claims_same = rw at; posts_same = rw at };
        before = rw place refl;
        after = refl;
        owns = words.owner;
        units = rw place (omega arith);
        work = work;
        carried = tt;
        last = tt;
        answers = words.answers;
        own = record {
          claims = held_own s (serving s) nobody;
          woken = seen.woken;
          granted = λ e. absurd cc;
          entered = λ e. absurd cc;
          listed = λ stamp stands. listed_same g h s stamp refl refl refl (here.listed stamp stands);
          stands = seen.stands;
          depth = refl;
          knows = (words.carried, none, tt);
          number = seen.number;
          takes = seen.takes;
          posts = seen.posts;
          pushes = seen.pushes;
          watches = λ posts. absurd cc;
        };
      });
      goes = leaves_by (abstract g) (abstract h) s (carried s Abstract.serving) (inr (somebody c g fits work, refl)) (record { before = ap abstract_place place; after = refl; asking = λ x. refl; waiting = refl });
      history = history_stays g h refl refl refl refl;
    })

-- the same with a record in the pop list, which is granted next
leaves_to_grant : (c : Core) (g : Ghost) (s : ℕ) (releaser : Releaser) (takes posts : ℕ) (r : Record) (rest : List Record) → IsSeat c.seats s
    → seat c.seats s ≡ record { depth = 0; takes = takes; posts = posts; point = ReleaseCountSubtract releaser } → c.count ≢ 1 → c.popped ≡ r ∷ rest → Fits c g → Kept c g s
leaves_to_grant c g s releaser takes posts r rest is at more some fits =
    let here = rw at at (fits.each s) in
    let place : g.place ≡ leaving s = place_of_claim g.place (leaving s) s (λ e. cc) here.claims in
    let words = rw place at fits.words in
    let seen = rw place at here in
    let count : c.count + g.popped ≡ g.asking + g.pushed + 1 + 0 = words.count in
    let most : g.popped ≤ g.pushed = omega (arith, fits.words.parts) in
    let work : g.popped < g.asking + g.pushed = omega arith in
    let h : Ghost = record g { place = serving s } in
    let y : SeatState = record { depth = 0; takes = takes; posts = posts; point = GrantWakeStore (Carrier.Releaser releaser) r } in
    rw (at, at, ne_eqb c.count 1 more, ap oldest some) (record {
      to = h;
      fits = place_moves c g s y (c.count - 1) c.owner (serving s) g.answered is fits (record {
        errands = record { asks_same = rw at; claims_same = rw at; posts_same = rw at };
        before = rw place refl;
        after = refl;
        owns = words.owner;
        units = rw place (omega arith);
        work = work;
        carried = tt;
        last = tt;
        answers = words.answers;
        own = record {
          claims = held_own s (serving s) nobody;
          woken = seen.woken;
          granted = λ e. absurd cc;
          entered = λ e. absurd cc;
          listed = λ stamp stands. listed_same g h s stamp refl refl refl (here.listed stamp stands);
          stands = seen.stands;
          depth = refl;
          knows = (words.carried, (rest, some), tt);
          number = seen.number;
          takes = seen.takes;
          posts = omega (arith, seen.posts);
          pushes = seen.pushes;
          watches = λ posts. absurd cc;
        };
      });
      goes = leaves_by (abstract g) (abstract h) s (carried s Abstract.serving) (inr (somebody c g fits work, refl)) (record { before = ap abstract_place place; after = refl; asking = λ x. refl; waiting = refl });
      history = history_stays g h refl refl refl refl;
    })

-- a list is empty or has a first item
records_cases : (xs : List Record) → (xs ≡ []) ⊎ ((r : Record) × (rest : List Record) × (xs ≡ r ∷ rest))
records_cases [] = inl refl
records_cases (r ∷ rest) = inr (r, rest, refl)

pub at_ReleaseCountSubtract : (c : Core) (g : Ghost) (s : ℕ) (releaser : Releaser) → IsSeat c.seats s → (seat c.seats s).point ≡ ReleaseCountSubtract releaser → Fits c g → Kept c g s
at_ReleaseCountSubtract c g s releaser is at fits =
    let here = rw at at (fits.each s) in
    let written = seat_at (seat c.seats s) 0 (ReleaseCountSubtract releaser) here.depth at in
    elim (cases_eq c.count 1) [
      | inl one ↦ left c g s releaser _ _ is written one fits
      | inr more ↦ elim (records_cases c.popped) [
        | inl none ↦ leaves_to_clear c g s releaser _ _ is written more none fits
        | inr (r, rest, some) ↦ leaves_to_grant c g s releaser _ _ r rest is written more some fits
      ]
    ]
