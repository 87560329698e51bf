-- A seat that has slept since its start_wait fits with any standing, and a seat that a send has claimed sleeps in this way.
use Rattle.std.proofs.Common.{◌≡◌, ℕ, true, false, None, refl, ◌+◌, ◌≤◌, sym, ◌∙◌}
use Rattle.lfm_protocol.specs.declared.points.Point.{Point}
use Rattle.lfm_protocol.specs.declared.points.Point.TheVariants.{Asleep, ReceiveWakeLoad}
use Rattle.lfm_protocol.specs.declared.points.Sleeper.TheVariants as Sleeper
use Rattle.lfm_protocol.specs.declared.seats.SeatState.{SeatState}
use Rattle.lfm_words.specs.declared.wakes.Wake.{Wake}
use Rattle.lfm_protocol.specs.Core.{Core}
use Rattle.lfm_laws.specs.steady.Ghost.{Responsibility, nobody, Standing, apart, claimed, Ghost, queued, posted}
use Rattle.lfm_laws.specs.steady.Steady.{KnowsAt, StandsAt, WatchesAt, awaits_grant, sleeps_as_waiter, SeatFits, QueuedFits}
use Rattle.lfm_laws.specs.steady.Views.{claim_at, held_by, grant_at, is_entered, wake_at, due_to_waiter, due_pushes_at, wake_of_waiter}
use Rattle.lfm_laws.proofs.steady.grant.Wakings.{none_from, false_from, claimed_sleeps_at}
use Rattle.std.proofs.lemmas.Bool.{false≢true}

-- What a seat reads that has slept since a start_wait

woken_asleep : (place : Responsibility) (standing : Standing) (u : ℕ) (p : Point) → sleeps_as_waiter p ≡ true → wake_at place standing u p ≡ wake_of_waiter place standing u
woken_asleep place standing u (Asleep Sleeper.Waiter) sleeps = refl
woken_asleep place standing u (ReceiveWakeLoad Sleeper.Waiter) sleeps = refl
woken_asleep place standing u _ sleeps = absurd (cc sleeps)

-- its wake word if nothing is granted to it
pub wake_asleep : (c : Core) (g : Ghost) (u : ℕ) (x : SeatState) (w : Wake) → sleeps_as_waiter x.point ≡ true → grant_at g.place u ≡ None → SeatFits c g u x w
    → w ≡ wake_of_waiter g.place (g.standing u) u
wake_asleep c g u x w sleeps none fits = fits.woken ∙ rw none (woken_asleep g.place (g.standing u) u x.point sleeps)

-- what it still pays for pushes
due_asleep : (depth : ℕ) (w : Wake) (standing : Standing) (p : Point) → sleeps_as_waiter p ≡ true → due_pushes_at depth w standing p ≡ due_to_waiter w standing
due_asleep depth w standing (Asleep Sleeper.Waiter) sleeps = refl
due_asleep depth w standing (ReceiveWakeLoad Sleeper.Waiter) sleeps = refl
due_asleep depth w standing _ sleeps = absurd (cc sleeps)

pub pays_asleep : (c : Core) (g : Ghost) (u : ℕ) (x : SeatState) (w : Wake) → sleeps_as_waiter x.point ≡ true → SeatFits c g u x w
    → g.pushes u + due_to_waiter w (g.standing u) ≤ x.takes
pays_asleep c g u x w sleeps fits = rw (due_asleep x.depth w (g.standing u) x.point sleeps) at fits.pushes

-- it may have any standing
stands_asleep : (place : Responsibility) (depth u : ℕ) (standing : Standing) (p : Point) → sleeps_as_waiter p ≡ true → StandsAt place depth u standing p
stands_asleep place depth u standing (Asleep Sleeper.Waiter) sleeps = tt
stands_asleep place depth u standing (ReceiveWakeLoad Sleeper.Waiter) sleeps = tt
stands_asleep place depth u standing _ sleeps = absurd (cc sleeps)

-- a sleeping waiter needs to know nothing and watches nothing
knows_asleep : (c : Core) (g : Ghost) (u posts : ℕ) (p : Point) → sleeps_as_waiter p ≡ true → KnowsAt c g u posts p
knows_asleep c g u posts (Asleep Sleeper.Waiter) sleeps = tt
knows_asleep c g u posts (ReceiveWakeLoad Sleeper.Waiter) sleeps = tt
knows_asleep c g u posts _ sleeps = absurd (cc sleeps)

watches_asleep : (c : Core) (g : Ghost) (u : ℕ) (x : SeatState) (p : Point) → sleeps_as_waiter p ≡ true → WatchesAt c g u x p → ⊥
watches_asleep c g u x (Asleep Sleeper.Waiter) sleeps watches = watches
watches_asleep c g u x (ReceiveWakeLoad Sleeper.Waiter) sleeps watches = watches
watches_asleep c g u x _ sleeps watches = absurd (cc sleeps)

-- a sleeping waiter has no part of the responsibility
pub claim_asleep : (depth u : ℕ) (p : Point) → sleeps_as_waiter p ≡ true → claim_at depth u p ≡ nobody
claim_asleep depth u (Asleep Sleeper.Waiter) sleeps = refl
claim_asleep depth u (ReceiveWakeLoad Sleeper.Waiter) sleeps = refl
claim_asleep depth u _ sleeps = absurd (cc sleeps)

-- so it fits with a new standing if nothing is granted to it; its wake word, its record in the queue and what it pays are
-- premises
pub sleeper_fits : (c d : Core) (g h : Ghost) (u : ℕ) (x : SeatState) (w v : Wake) → sleeps_as_waiter x.point ≡ true → SeatFits c g u x w
    → d.handoff ≡ c.handoff → d.budget ≡ c.budget → held_by h.place u ≡ held_by g.place u → grant_at h.place u ≡ None
    → v ≡ wake_of_waiter h.place (h.standing u) u → (is_entered h.place u ≡ true → held_by h.place u ≡ nobody → h.standing u ≡ apart)
    → ((stamp : ℕ) → h.standing u ≡ queued stamp → QueuedFits h u stamp) → h.pushes u + due_to_waiter v (h.standing u) ≤ x.takes
    → (h.place ≡ posted → h.watcher ≡ u → WatchesAt c g u x x.point) → SeatFits d h u x v
sleeper_fits c d g h u x w v sleeps fits handoff budget held none woken entered listed pays watches =
    record {
      claims = fits.claims ∙ sym held;
      woken = rw none (woken ∙ sym (woken_asleep h.place (h.standing u) u x.point sleeps));
      granted = λ some. absurd (false≢true (rw none at some));
      entered = λ into unheld. (sleeps, entered into unheld);
      listed = listed;
      stands = stands_asleep h.place x.depth u (h.standing u) x.point sleeps;
      depth = fits.depth;
      knows = knows_asleep d h u x.posts x.point sleeps;
      number = rw handoff fits.number;
      takes = rw budget fits.takes;
      posts = fits.posts;
      pushes = rw (due_asleep x.depth v (h.standing u) x.point sleeps) pays;
      watches = λ place here. absurd (watches_asleep c g u x x.point sleeps (watches place here));
    }

pub not_apart : (s : ℕ) (standing : Standing) → standing ≡ claimed s → standing ≡ apart → ⊥
not_apart s standing e f = cc

-- nothing is granted to a seat at a point at which it does not await a grant
pub ungranted_at : (c : Core) (g : Ghost) (s : ℕ) (x : SeatState) (w : Wake) → awaits_grant x.point ≡ false → SeatFits c g s x w → grant_at g.place s ≡ None
ungranted_at c g s x w awake fits = none_from (grant_at g.place s) (λ some. absurd (cc (fits.granted some).0))

-- no other call brings in a seat that is not a sleeping waiter
pub unentered_at : (c : Core) (g : Ghost) (s : ℕ) (x : SeatState) (w : Wake) → sleeps_as_waiter x.point ≡ false → held_by g.place s ≡ nobody → SeatFits c g s x w
    → is_entered g.place s ≡ false
unentered_at c g s x w awake held fits = false_from (is_entered g.place s) (λ into. absurd (cc (fits.entered into held).0))

pub claimed_unentered : (c : Core) (g : Ghost) (s u : ℕ) (x : SeatState) (w : Wake) → g.standing u ≡ claimed s → held_by g.place u ≡ nobody → SeatFits c g u x w
    → is_entered g.place u ≡ false
claimed_unentered c g s u x w stands held fits = false_from (is_entered g.place u) (λ into. not_apart s (g.standing u) stands (fits.entered into held).1)

-- nothing is granted to a claimed seat
pub claimed_ungranted : (c : Core) (g : Ghost) (s u : ℕ) (x : SeatState) (w : Wake) → g.standing u ≡ claimed s → SeatFits c g u x w → grant_at g.place u ≡ None
claimed_ungranted c g s u x w stands fits = none_from (grant_at g.place u) (λ some. not_apart s (g.standing u) stands (fits.granted some).1)

pub claimed_sleeps : (c : Core) (g : Ghost) (s u : ℕ) (x : SeatState) (w : Wake) → g.standing u ≡ claimed s → SeatFits c g u x w → sleeps_as_waiter x.point ≡ true
claimed_sleeps c g s u x w stands fits =
    claimed_sleeps_at g.place x.depth u s x.point (claimed_ungranted c g s u x w stands fits) (rw stands at fits.stands)
