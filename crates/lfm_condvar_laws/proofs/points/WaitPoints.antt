-- A start_wait stays at its own points until its seat sleeps.
use Rattle.std.proofs.Common.{◌≡◌, ℕ, Bool, true, false, refl, sym, ap, ◌∙◌, inl, inr, if◌then◌else◌}
use Rattle.std.proofs.lemmas.Bool.{false≢true}
use Rattle.std.specs.Prelude.{Option, Some, None, nat_eq}
use Rattle.lfm_model.specs.declared.answers.Unlocked.{Unlocked}
use Rattle.lfm_protocol.specs.declared.points.Carrier.{Carrier}
use Rattle.lfm_protocol.specs.declared.points.Point.{Point}
use Rattle.lfm_protocol.specs.declared.points.Point.TheVariants.{Asleep, ReleaseOwnerStore, ReleaseCountSubtract, ReleaseHandoffStore, ReleasePushRecheck, ReleaseHandoffExchange, WaitWakeStore, TakeClearHead, TakeLinkLoad, GrantWakeStore}
use Rattle.lfm_protocol.specs.declared.points.Releaser.TheVariants.{Waiter}
use Rattle.lfm_protocol.specs.declared.points.Sleeper.{Sleeper}
use Rattle.lfm_protocol.specs.declared.seats.SeatState.{SeatState}
use Rattle.lfm_words.specs.declared.pop_lists.Record.{Record}
use Rattle.lfm_words.specs.declared.wakes.Wake.TheVariants.{Waiting}
use Rattle.lfm_words.specs.Popped.{oldest}
use Rattle.lfm_protocol.specs.After.{same_handoff, releases, granted, serves, take, once_cleared, loaded}
use Rattle.lfm_protocol.specs.Begin.{Stepped, goes_on}
use Rattle.lfm_protocol.specs.Core.{Core}
use Rattle.lfm_laws.specs.steady.Ghost.{Ghost}
use Rattle.lfm_protocol.specs.Seats.{seat, link, wake, IsSeat}
use Rattle.lfm_laws.specs.steady.Steady.{Fits}
use Rattle.lfm_protocol.specs.Step.{made}
use Rattle.lfm_laws.proofs.lawful.bounds.Leaving.{stepped, own_made}
use Rattle.lfm_condvar_laws.proofs.Invariant.{carries_to_wait, waits_at, StartsAt}
use Rattle.lfm_condvar_laws.proofs.mutex.WakeWords.{ends_waiting}

waits_if : (b : Bool) (m n : Stepped) → waits_at m.seat.point ≡ true → waits_at n.seat.point ≡ true
    → waits_at (if b then m else n).seat.point ≡ true
waits_if true m n first second = first
waits_if false m n first second = second

point_if : (b : Bool) (p q : Point) → waits_at p ≡ true → waits_at q ≡ true → waits_at (if b then p else q) ≡ true
point_if true p q first second = first
point_if false p q first second = second

of_granted : (x : SeatState) (carrier : Carrier) (r : Record) → carries_to_wait carrier ≡ true
    → waits_at (granted x carrier r).seat.point ≡ true
of_granted x (Carrier.Releaser Waiter) r waiter = refl
of_granted x (Carrier.Reclaimer Waiter) r waiter = refl
of_granted x _ r waiter = absurd (false≢true waiter)

of_serves : (carrier : Carrier) (s : ℕ) (r : Record) → carries_to_wait carrier ≡ true → waits_at (serves carrier s r) ≡ true
of_serves (Carrier.Releaser Waiter) s r waiter = refl
of_serves (Carrier.Reclaimer Waiter) s r waiter = refl
of_serves _ s r waiter = absurd (false≢true waiter)

of_take : (carrier : Carrier) (s : ℕ) (first : Option Record) → carries_to_wait carrier ≡ true
    → waits_at (take carrier s first) ≡ true
of_take carrier s None waiter = waiter
of_take carrier s (Some r) waiter = of_serves carrier s r waiter

of_cleared : (carrier : Carrier) (head : ℕ) → carries_to_wait carrier ≡ true → waits_at (once_cleared carrier head) ≡ true
of_cleared (Carrier.Releaser Waiter) head waiter =
    point_if (nat_eq head 0) (ReleaseHandoffStore Waiter) (TakeLinkLoad (Carrier.Releaser Waiter) head) refl refl
of_cleared (Carrier.Reclaimer Waiter) head waiter = refl
of_cleared _ head waiter = absurd (false≢true waiter)

-- the last step of start_wait
abbrev is_last : Point → Bool
is_last (WaitWakeStore released) = true
is_last _ = false

waits_from : (c : Core) (s : ℕ) (p : Point) → (seat c.seats s).point ≡ p → waits_at p ≡ true → is_last p ≡ false
    → waits_at (stepped c s).seat.point ≡ true
waits_from c s (ReleaseOwnerStore Waiter) at before last = rw (at, at) refl
waits_from c s (ReleaseCountSubtract Waiter) at before last =
    rw (at, at) (waits_if (nat_eq c.count 1) (releases (seat c.seats s) Waiter Unlocked.Free)
    (goes_on (seat c.seats s) (take (Carrier.Releaser Waiter) s (oldest c.popped)))
    refl (of_take (Carrier.Releaser Waiter) s (oldest c.popped) refl))
waits_from c s (ReleaseHandoffStore Waiter) at before last = rw (at, at) refl
waits_from c s (ReleasePushRecheck Waiter) at before last =
    rw (at, at) (waits_if (nat_eq c.push.next 0) (releases (seat c.seats s) Waiter Unlocked.Posted)
    (goes_on (seat c.seats s) (ReleaseHandoffExchange Waiter)) refl refl)
waits_from c s (ReleaseHandoffExchange Waiter) at before last =
    rw (at, at) (waits_if (same_handoff c.handoff (record { seat = s; post = (seat c.seats s).posts }))
    (goes_on (seat c.seats s) (take (Carrier.Reclaimer Waiter) s (oldest c.popped)))
    (releases (seat c.seats s) Waiter Unlocked.TakenOver)
    (of_take (Carrier.Reclaimer Waiter) s (oldest c.popped) refl) refl)
waits_from c s (WaitWakeStore released) at before last = absurd (false≢true (sym last))
waits_from c s (TakeClearHead carrier) at before last = rw (at, at) (of_cleared carrier c.push.next before)
waits_from c s (TakeLinkLoad carrier next) at before last =
    let found = link c.links next in
    rw (at, at) (point_if (nat_eq found.next 0) (serves carrier s (loaded next found)) (TakeLinkLoad carrier found.next)
    (of_serves carrier s (loaded next found) before) before)
waits_from c s (GrantWakeStore carrier r) at before last = rw (at, at) (of_granted (seat c.seats s) carrier r before)
waits_from c s _ at before last = absurd (false≢true before)

sleeps_last : (c : Core) (s : ℕ) (released : Unlocked) → (seat c.seats s).point ≡ WaitWakeStore released
    → (stepped c s).seat.point ≡ Asleep Sleeper.Waiter
sleeps_last c s released at = rw (at, at) refl

stores_last : (c : Core) (g : Ghost) (s : ℕ) (released : Unlocked) → (seat c.seats s).point ≡ WaitWakeStore released
    → IsSeat c.seats s → Fits c g → wake (made c s).core.wakes s ≡ Waiting
stores_last c g s released at is fits = rw (at, at) (ends_waiting c g s is fits)

starts_from : (c : Core) (g : Ghost) (s : ℕ) (p : Point) → (seat c.seats s).point ≡ p → waits_at p ≡ true → IsSeat c.seats s
    → Fits c g → StartsAt (made c s).core s
starts_from c g s (WaitWakeStore released) at before is fits =
    inr (ap (λ x. x.point) (own_made c s is) ∙ sleeps_last c s released at, stores_last c g s released at is fits)
starts_from c g s _ at before is fits = inl (ap (λ x. waits_at x.point) (own_made c s is) ∙ waits_from c s _ at before refl)

pub stays_starting : (c : Core) (g : Ghost) (s : ℕ) → waits_at (seat c.seats s).point ≡ true → IsSeat c.seats s → Fits c g
    → StartsAt (made c s).core s
stays_starting c g s before is fits = starts_from c g s (seat c.seats s).point refl before is fits
