-- A release that has nothing more to pass on: its call ends, or goes on to wait.
use Rattle.std.proofs.Common.{◌≡◌, ℕ, [], refl, sym, ◌∙◌, arith}
use Rattle.lfm_model.specs.declared.answers.Unlocked.{Unlocked}
use Rattle.lfm_protocol.specs.declared.points.Point.{Point}
use Rattle.lfm_protocol.specs.declared.points.Point.TheVariants.{Rest, ReleasePushRecheck, WaitWakeStore}
use Rattle.lfm_protocol.specs.declared.points.Releaser.{Releaser}
use Rattle.lfm_protocol.specs.declared.points.Releaser.TheVariants.{Unlocker, Waiter}
use Rattle.lfm_protocol.specs.declared.seats.SeatState.{SeatState}
use Rattle.lfm_words.specs.declared.wakes.Wake.{Wake}
use Rattle.lfm_protocol.specs.After.{releases}
use Rattle.lfm_protocol.specs.Core.{Core}
use Rattle.lfm_laws.specs.laws.Events.{answered_by}
use Rattle.lfm_laws.specs.steady.Ghost.{posted, Ghost}
use Rattle.lfm_laws.specs.steady.EventOutcome.{GoesOn}
use Rattle.lfm_protocol.specs.Seats.{seat}
use Rattle.lfm_laws.specs.steady.Steady.{SeatFits}
use Rattle.lfm_laws.specs.steady.Views.{grant_at, asks_for, claims_for}
use Rattle.lfm_laws.proofs.steady.frames.Frames.{Errands}
use Rattle.lfm_laws.proofs.steady.frames.Quiet.{wake_by_same}

-- the state of a seat whose release has posted or given the mutex back, when its call ends or goes on to wait
abbrev pub released : ℕ → ℕ → Point → Releaser → Unlocked → SeatState
released takes posts p releaser answer = (releases (record { depth = 0; takes = takes; posts = posts; point = p }) releaser answer).seat

-- a seat fits in that state if it fits at the recheck after a post and watches no handoff
pub released_own : (c : Core) (h : Ghost) (s takes posts : ℕ) (w : Wake) (p : Point) (releaser : Releaser) (answer : Unlocked)
    → SeatFits c h s (record { depth = 0; takes = takes; posts = posts; point = ReleasePushRecheck releaser }) w → (h.place ≡ posted → h.watcher ≡ s → ⊥)
    → SeatFits c h s (released takes posts p releaser answer) w
released_own c h s takes posts w p Unlocker answer fits unwatched =
    record {
      claims = fits.claims;
      woken = fits.woken ∙ wake_by_same (grant_at h.place s) h.place (h.standing s) (h.standing s) s (ReleasePushRecheck Unlocker) Rest refl;
      granted = fits.granted;
      entered = fits.entered;
      listed = fits.listed;
      stands = fits.stands;
      depth = omega arith;
      knows = tt;
      number = fits.number;
      takes = fits.takes;
      posts = fits.posts;
      pushes = fits.pushes;
      watches = λ at who. absurd (unwatched at who);
    }
released_own c h s takes posts w p Waiter answer fits unwatched =
    record {
      claims = fits.claims;
      woken = fits.woken ∙ wake_by_same (grant_at h.place s) h.place (h.standing s) (h.standing s) s (ReleasePushRecheck Waiter) (WaitWakeStore answer) refl;
      granted = fits.granted;
      entered = fits.entered;
      listed = fits.listed;
      stands = fits.stands;
      depth = refl;
      knows = tt;
      number = fits.number;
      takes = fits.takes;
      posts = fits.posts;
      pushes = fits.pushes;
      watches = λ at who. absurd (unwatched at who);
    }

-- it has no errand
pub released_errands : (c : Core) (s takes posts : ℕ) (p : Point) (releaser : Releaser) (answer : Unlocked) → asks_for (seat c.seats s) s ≡ 0 → claims_for (seat c.seats s) ≡ 0
    → (seat c.seats s).posts ≡ posts → Errands c s (released takes posts p releaser answer)
released_errands c s takes posts p Unlocker answer asks claims same = record { asks_same = sym asks; claims_same = sym claims; posts_same = sym same }
released_errands c s takes posts p Waiter answer asks claims same = record { asks_same = sym asks; claims_same = sym claims; posts_same = sym same }

-- it answers no hold
pub released_history : (g h : Ghost) (s : ℕ) (x : SeatState) (releaser : Releaser) (answer : Unlocked) → GoesOn g h [] [] [] → GoesOn g h [] [] (answered_by s (releases x releaser answer).turn)
released_history g h s x Unlocker answer goes = goes
released_history g h s x Waiter answer goes = goes
