-- The two seats that a push changes: the one that pushes, and the pushed one, which has slept since its start_wait if another
-- seat pushes it.
use Rattle.std.proofs.Common.{◌≡◌, ◌≢◌, ℕ, ◌+◌, ◌≤◌, refl, sym, ◌∙◌, arith}
use Rattle.lfm_protocol.specs.declared.points.Point.TheVariants.{PushExchange, PushedHandoffLoad}
use Rattle.lfm_protocol.specs.declared.points.Pusher.{Pusher}
use Rattle.lfm_protocol.specs.declared.seats.SeatState.{SeatState}
use Rattle.lfm_words.specs.declared.links.Link.{Link}
use Rattle.lfm_words.specs.declared.wakes.Wake.{Wake}
use Rattle.lfm_words.specs.declared.wakes.Wake.TheVariants.{Claimed}
use Rattle.lfm_protocol.specs.Core.{Core, put}
use Rattle.lfm_laws.specs.steady.Ghost.{apart, asks, queued, Ghost}
use Rattle.lfm_laws.specs.steady.Steady.{QueuedFits, SeatFits}
use Rattle.lfm_laws.specs.steady.Views.{grant_at}
use Rattle.lfm_laws.proofs.steady.queue.Pushing.{with_pushed, exchanged}
use Rattle.lfm_laws.proofs.steady.frames.Sums.{changed_same, changed_other}
use Rattle.lfm_laws.proofs.steady.frames.Quiet.{wake_by_same}
use Rattle.lfm_laws.proofs.steady.grant.Wakings.{none_from, asked_sleeps_at}
use Rattle.lfm_laws.proofs.steady.grant.Claimed.{sleeper_fits, wake_asleep, pays_asleep}

-- its standing after the push gives its record
listed_pushed : (g : Ghost) (u stamp : ℕ) → g.popped ≤ g.pushed → queued (g.pushed + 1) ≡ queued stamp → QueuedFits (with_pushed g u) u stamp
listed_pushed g u stamp most e =
    let same : g.pushed + 1 ≡ stamp = cc in
    record { above = omega arith; within = omega arith; here = rw (← same) (changed_same g.pushed_at (g.pushed + 1) u) }

-- the seat that another pushes has slept since a start_wait, and fits
pub pushed_fits : (c : Core) (g : Ghost) (s u : ℕ) (seen : Link) (y x : SeatState) (w : Wake) → u ≢ s → g.popped ≤ g.pushed → g.standing u ≡ asks s
    → SeatFits c g u x w → SeatFits (put (exchanged c seen u) s y) (with_pushed g u) u x w
pushed_fits c g s u seen y x w other most asked fits =
    let none = none_from (grant_at g.place u) (λ some. let f = sym asked ∙ (fits.granted some).1 in cc) in
    let sleeps = asked_sleeps_at g.place x.depth u s x.point other none (rw asked at fits.stands) in
    let here : (with_pushed g u).standing u ≡ queued (g.pushed + 1) = changed_same g.standing u (queued (g.pushed + 1)) in
    let pushes : (with_pushed g u).pushes u ≡ g.pushes u + 1 = changed_same g.pushes u (g.pushes u + 1) in
    let woken : w ≡ Claimed = rw asked at (wake_asleep c g u x w sleeps none fits) in
    let due = rw (woken, asked) at (pays_asleep c g u x w sleeps fits) in
    sleeper_fits c (put (exchanged c seen u) s y) g (with_pushed g u) u x w w sleeps fits refl refl refl none (rw here woken)
    (λ into unheld. let f = sym asked ∙ (fits.entered into unheld).1 in absurd (cc)) (λ stamp e. listed_pushed g u stamp most (sym here ∙ e))
    (rw (woken, here) (omega (arith, pushes, due))) fits.watches

-- The seat that pushes

-- a locker is queued itself
pub own_pushes : (c : Core) (g : Ghost) (s : ℕ) (x : SeatState) (w : Wake) (seen : Link) → g.popped ≤ g.pushed
    → SeatFits c g s (record x { point = PushExchange Pusher.Locker seen }) w
    → SeatFits (exchanged c seen s) (with_pushed g s) s (record x { point = PushedHandoffLoad Pusher.Locker }) w
own_pushes c g s x w seen most fits =
    let n = g.pushed + 1 in
    let here : (with_pushed g s).standing s ≡ queued n = changed_same g.standing s (queued n) in
    let pushes : (with_pushed g s).pushes s ≡ g.pushes s + 1 = changed_same g.pushes s (g.pushes s + 1) in
    record {
      claims = fits.claims;
      woken = fits.woken ∙ wake_by_same (grant_at g.place s) g.place (g.standing s) ((with_pushed g s).standing s) s (PushExchange Pusher.Locker seen) (PushedHandoffLoad Pusher.Locker) refl;
      granted = λ some. let f = (fits.granted some).0 in absurd (cc);
      entered = λ is held. let f = (fits.entered is held).0 in absurd (cc);
      listed = λ stamp e. listed_pushed g s stamp most (sym here ∙ e);
      stands = rw here;
      depth = fits.depth;
      knows = tt;
      number = fits.number;
      takes = fits.takes;
      posts = fits.posts;
      pushes = omega (arith, pushes, fits.pushes);
      watches = λ is watcher. tt;
    }

-- a sender stays apart, and watches for its target
pub own_sends : (c : Core) (g : Ghost) (s t : ℕ) (x : SeatState) (w : Wake) (seen : Link)
    → SeatFits c g s (record x { point = PushExchange (Pusher.Sender t) seen }) w
    → SeatFits (exchanged c seen t) (with_pushed g t) s (record x { point = PushedHandoffLoad (Pusher.Sender t) }) w
own_sends c g s t x w seen fits =
    let n = g.pushed + 1 in
    let other : s ≢ t = λ e. fits.knows.0.0 (sym e) in
    let here : (with_pushed g t).standing s ≡ apart = changed_other g.standing t s (queued n) other ∙ fits.stands in
    let pushes : (with_pushed g t).pushes s ≡ g.pushes s = changed_other g.pushes t s (g.pushes t + 1) other in
    record {
      claims = fits.claims;
      woken = fits.woken ∙ wake_by_same (grant_at g.place s) g.place (g.standing s) ((with_pushed g t).standing s) s (PushExchange (Pusher.Sender t) seen) (PushedHandoffLoad (Pusher.Sender t)) refl;
      granted = λ some. let f = (fits.granted some).0 in absurd (cc);
      entered = λ is held. let f = (fits.entered is held).0 in absurd (cc);
      listed = λ stamp e. let f = sym here ∙ e in absurd (cc);
      stands = here;
      depth = fits.depth;
      knows = tt;
      number = fits.number;
      takes = fits.takes;
      posts = fits.posts;
      pushes = omega (arith, pushes, fits.pushes);
      watches = λ is watcher. rw (changed_same g.standing t (queued n));
    }
