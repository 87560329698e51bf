-- A seat that sleeps is queued, has its grant, is WAITING for a send, or is between a send's claim and its grant.
use Rattle.std.proofs.Common.{◌≡◌, ◌⊎◌, ℕ, true, false, ◌&&◌, ◌||◌, if◌then◌else◌, Option, Some, None, refl, sym, ◌∙◌, inl, inr}
use Rattle.std.proofs.lemmas.Bool.{cases_Bool}
use Rattle.std.proofs.Math.Bool.{or-false}
use Rattle.lfm_protocol.specs.declared.points.Point.TheVariants.{Asleep}
use Rattle.lfm_protocol.specs.declared.points.Sleeper.{Sleeper}
use Rattle.lfm_words.specs.declared.wakes.Wake.TheVariants.{Waiting, Claimed, Grant}
use Rattle.lfm_protocol.specs.Core.{Core}
use Rattle.lfm_laws.specs.steady.Ghost.{Responsibility, Standing, Ghost}
use Rattle.lfm_laws.specs.laws.Lawful.{IsSent}
use Rattle.lfm_laws.specs.laws.Laws.{SleepersAreReachable}
use Rattle.lfm_protocol.specs.Seats.{seat, wake}
use Rattle.lfm_laws.specs.steady.Steady.{Fits}
use Rattle.lfm_laws.specs.steady.Views.{grant_at, is_queued, is_some, is_entered, is_apart, wake_of_waiter, wake_by}
use Rattle.lfm_laws.specs.laws.Watched.{IsQueued}
use Rattle.lfm_laws.proofs.lawful.read.LawfulRead.{lawful_read}
use Rattle.lfm_laws.proofs.lawful.read.QueueRead.{waits_told}

-- the ways in which a sleeping seat can get its grant
abbrev IsReachable : Core → ℕ → Type 0
IsReachable c t = IsQueued c t ⊎ (((stamp : ℕ) × (wake c.wakes t ≡ Grant stamp)) ⊎ ((wake c.wakes t ≡ Waiting) ⊎ IsSent c t))

-- a sleeping locker is queued or has its grant
locker_reached : (c : Core) (g : Ghost) (t : ℕ) (grant : Option ℕ) → Fits c g → (is_queued (g.standing t) || is_some grant) ≡ true
    → wake c.wakes t ≡ wake_by grant g.place (g.standing t) t (Asleep Sleeper.Locker) → IsReachable c t
locker_reached c g t (Some stamp) fits awaits word = inr (inl (stamp, word))
locker_reached c g t None fits awaits word = inl (waits_told c g fits t (sym (or-false (is_queued (g.standing t))) ∙ awaits))

-- the word of a waiter that is not granted is WAITING or CLAIMED
waiter_word : (place : Responsibility) (standing : Standing) (t : ℕ) → (wake_of_waiter place standing t ≡ Waiting) ⊎ (wake_of_waiter place standing t ≡ Claimed)
waiter_word place standing t =
    elim (cases_Bool (is_apart standing && (if is_entered place t then false else true))) [
      | inl waits ↦ inl (rw waits refl)
      | inr claimed ↦ inr (rw claimed refl)
    ]

-- a sleeping waiter has its grant, waits for a send, or is between a send's claim and its grant
waiter_reached : (c : Core) (g : Ghost) (t : ℕ) (grant : Option ℕ) → Fits c g
    → wake c.wakes t ≡ wake_by grant g.place (g.standing t) t (Asleep Sleeper.Waiter) → IsReachable c t
waiter_reached c g t (Some stamp) fits word = inr (inl (stamp, word))
waiter_reached c g t None fits word =
    elim (waiter_word g.place (g.standing t) t) [
      | inl waits ↦ inr (inr (inl (word ∙ waits)))
      | inr claimed ↦ inr (inr (inr ((lawful_read c g fits).claimed_words t (word ∙ claimed)).1))
    ]

sleeper_reached : (c : Core) (g : Ghost) (t : ℕ) (since : Sleeper) → Fits c g → (seat c.seats t).point ≡ Asleep since → IsReachable c t
sleeper_reached c g t Sleeper.Locker fits at =
    locker_reached c g t (grant_at g.place t) fits (rw at at (fits.each t).stands) (rw at at (fits.each t).woken)
sleeper_reached c g t Sleeper.Waiter fits at = waiter_reached c g t (grant_at g.place t) fits (rw at at (fits.each t).woken)

pub sleepers_are_reachable : SleepersAreReachable
sleepers_are_reachable c t since is at = let steady = is in sleeper_reached c steady.ghost_state t since steady.fits at
