-- The laws of one steady state, each from the ghost that fits it.
use Rattle.std.proofs.Common.{◌≡◌, ◌≢◌, ◌⊎◌, ℕ, zero, suc, Bool, true, false, ◌<◌, refl, sym, ap, ◌∙◌, inl, inr, arith}
use Rattle.std.proofs.lemmas.Bool.{cases_eq, cases_lt, eq-eqb, ne_eqb, and_from, false≢true}
use Rattle.lfm_protocol.specs.declared.points.Carrier.{Carrier}
use Rattle.lfm_protocol.specs.declared.points.Point.{Point}
use Rattle.lfm_protocol.specs.declared.points.Point.TheVariants.{Rest, Asleep}
use Rattle.lfm_protocol.specs.declared.points.Sleeper.{Sleeper}
use Rattle.lfm_protocol.specs.declared.seats.SeatState.{SeatState}
use Rattle.lfm_words.specs.declared.links.Link.{Link}
use Rattle.lfm_words.specs.declared.wakes.Wake.TheVariants.{Grant}
use Rattle.lfm_protocol.specs.After.{same_link}
use Rattle.lfm_protocol.specs.Core.{Core}
use Rattle.lfm_laws.specs.steady.Ghost.{Responsibility, nobody, owned, granted, posted, entering, accepting, leaving, serving, Ghost}
use Rattle.lfm_laws.specs.laws.Lawful.{LoadsItsGrant, Lawful}
use Rattle.lfm_laws.specs.laws.Laws.{StatesAreLawful, HandoffsAreWatched, IsQuiet, IsHeld, IsGranted, QuiescentStatesRest, has_won, TakesFindARecord, FailedPushesSeeChange}
use Rattle.lfm_laws.specs.steady.EventOutcome.{abstract}
use Rattle.lfm_laws.specs.laws.Schedules.{is_call}
use Rattle.lfm_protocol.specs.Seats.{seat, wake, unposted}
use Rattle.lfm_laws.specs.steady.Steady.{IsSeen, HasQueue, StandsAsCarrier, KnowsRecord, own_unit, again_unit, Fits, Steady}
use Rattle.lfm_laws.specs.steady.Views.{by_depth, claim_at, claim, held_by}
use Rattle.lfm_laws.specs.laws.Watched.{Watches}
use Rattle.lfm_laws.proofs.lawful.read.LawfulRead.{lawful_read}
use Rattle.lfm_laws.proofs.lawful.read.WatchedRead.{head_some, watched_read}
use Rattle.lfm_laws.proofs.steady.queue.Serving.{queue_of_queued}

pub steady_is_lawful : (c : Core) → Steady c → Lawful c
steady_is_lawful c steady = record { reading = abstract steady.ghost_state; lawful = lawful_read c steady.ghost_state steady.fits }

pub states_are_lawful : StatesAreLawful
states_are_lawful c is = steady_is_lawful c is

pub handoffs_are_watched : HandoffsAreWatched
handoffs_are_watched c is = let steady = is in watched_read c steady.ghost_state steady.fits

-- If no call is open

quiet_watch : (c : Core) (s : ℕ) (x : SeatState) (p : Point) → is_call p ≡ false → Watches c s x p → ⊥
quiet_watch c s x Rest quiet watches = watches
quiet_watch c s x (Asleep sleeper) quiet watches = watches
quiet_watch c s x _ quiet watches = cc

quiet_posts : (c : Core) (g : Ghost) → Fits c g → IsQuiet c → c.handoff ≡ unposted
quiet_posts c g fits quiet =
    elim (cases_eq c.handoff.seat 0) [
      | inl none ↦ (lawful_read c g fits).unposted_word none
      | inr some ↦
          let watcher = watched_read c g fits (omega arith) in
          absurd (quiet_watch c watcher.who (seat c.seats watcher.who) (seat c.seats watcher.who).point (quiet watcher.who) watcher.watches)
    ]

-- the responsibility is with an open call
abbrev is_carried : Responsibility → Bool
is_carried (entering s into stamp) = true
is_carried (accepting s) = true
is_carried (leaving s) = true
is_carried (serving s) = true
is_carried _ = false

depth_uncarried : (depth s : ℕ) → is_carried (by_depth depth s false) ≡ false
depth_uncarried zero s = refl
depth_uncarried (suc n) s = rw (ne_eqb (suc n) 0 (λ none. omega arith)) refl

-- a seat without an open call does not carry
quiet_uncarried : (depth s : ℕ) (p : Point) → is_call p ≡ false → is_carried (claim_at depth s p) ≡ false
quiet_uncarried depth s Rest quiet = depth_uncarried depth s
quiet_uncarried depth s (Asleep sleeper) quiet = refl
quiet_uncarried depth s _ quiet = absurd (cc)

-- a seat without an open call owns only by its depth
depth_owns : (depth s : ℕ) (again : Bool) → by_depth depth s false ≡ owned s again → 0 < depth
depth_owns zero s again e = absurd (cc)
depth_owns (suc n) s again e = omega arith

quiet_owns : (depth s : ℕ) (again : Bool) (p : Point) → is_call p ≡ false → claim_at depth s p ≡ owned s again → 0 < depth
quiet_owns depth s again Rest quiet e = depth_owns depth s again e
quiet_owns depth s again (Asleep sleeper) quiet e = absurd (cc)
quiet_owns depth s again _ quiet e = absurd (cc)

-- so no call has the responsibility
not_carried : (c : Core) (g : Ghost) (s : ℕ) (p : Responsibility) → Fits c g → IsQuiet c → g.place ≡ p → held_by p s ≡ p → is_carried p ≡ true → ⊥
not_carried c g s p fits quiet place own carried =
    let claims : claim (seat c.seats s) s ≡ p = (fits.each s).claims ∙ rw place own in
    let none = quiet_uncarried (seat c.seats s).depth s (seat c.seats s).point (quiet s) in
    let none : is_carried p ≡ false = rw claims at none in
    false≢true (sym none ∙ carried)

-- if its seat has no open call, a seat that will load a grant sleeps
quiet_sleeps : (p : Point) → is_call p ≡ false → LoadsItsGrant p → (since : Sleeper) × (p ≡ Asleep since)
quiet_sleeps (Asleep since) quiet loads = (since, refl)
quiet_sleeps Rest quiet loads = absurd loads
quiet_sleeps _ quiet loads = absurd (cc)

quiet_grant : (c : Core) (g : Ghost) (t stamp : ℕ) → Fits c g → IsQuiet c → wake c.wakes t ≡ Grant stamp → IsGranted c
quiet_grant c g t stamp fits quiet word =
    let sleeps = quiet_sleeps (seat c.seats t).point (quiet t) ((lawful_read c g fits).granted_words t stamp word) in
    record { sleeper = t; since = sleeps.0; stamp = stamp; word = word; sleeps = sleeps.1 }

quiet_count : (c : Core) (g : Ghost) (p : Responsibility) → Fits c g → IsQuiet c → g.place ≡ p → 0 < c.count → IsHeld c ⊎ IsGranted c
quiet_count c g nobody fits quiet place some =
    let work = rw place at fits.words.work in
    let own : own_unit g.place ≡ 0 = rw place refl in
    let again : again_unit g.place ≡ 0 = rw place refl in
    absurd (omega (arith, fits.words.count, work.0, work.1, own, again, some))
quiet_count c g (owned s again) fits quiet place some =
    let claims : claim (seat c.seats s) s ≡ owned s again = (fits.each s).claims ∙ rw (place, eq-eqb s s refl) refl in
    inl (record { owner = s; depth = quiet_owns (seat c.seats s).depth s again (seat c.seats s).point (quiet s) claims })
quiet_count c g (granted s stamp) fits quiet place some =
    inr (quiet_grant c g s stamp fits quiet ((fits.each s).woken ∙ rw (place, eq-eqb s s refl) refl))
quiet_count c g posted fits quiet place some =
    let is = rw place at fits.words.handoff in
    let none = ap (λ h. h.seat) (quiet_posts c g fits quiet) in
    absurd (omega (arith, is.above, none))
quiet_count c g (entering s into stamp) fits quiet place some = absurd (not_carried c g s _ fits quiet place (rw (eq-eqb s s refl) refl) refl)
quiet_count c g (accepting s) fits quiet place some = absurd (not_carried c g s _ fits quiet place (rw (eq-eqb s s refl) refl) refl)
quiet_count c g (leaving s) fits quiet place some = absurd (not_carried c g s _ fits quiet place (rw (eq-eqb s s refl) refl) refl)
quiet_count c g (serving s) fits quiet place some = absurd (not_carried c g s _ fits quiet place (rw (eq-eqb s s refl) refl) refl)

pub quiescent_states_rest : QuiescentStatesRest
quiescent_states_rest c is quiet =
    let steady = is in
    let g : Ghost = steady.ghost_state in
    (quiet_posts c g steady.fits quiet, quiet_count c g g.place steady.fits quiet refl)

-- After a handoff exchange that was won

carrier_knows : (c : Core) (g : Ghost) (s : ℕ) (carrier : Carrier) → Fits c g → has_won carrier ≡ true → StandsAsCarrier (g.standing s) carrier
    → KnowsRecord g carrier → HasQueue g
carrier_knows c g s Carrier.Locker fits won stands knows = queue_of_queued c g s fits stands
carrier_knows c g s (Carrier.Releaser releaser) fits won stands knows = absurd (cc)
carrier_knows c g s (Carrier.Reclaimer releaser) fits won stands knows = knows
carrier_knows c g s Carrier.Sender fits won stands knows = knows

pub takes_find_a_record : TakesFindARecord
takes_find_a_record c s carrier is at won =
    let steady = is in
    let g : Ghost = steady.ghost_state in
    let fits = steady.fits in
    let knows = rw at at (fits.each s).knows in
    let stands = rw at at (fits.each s).stands in
    let some = carrier_knows c g s carrier fits won stands knows.2 in
    (head_some c g fits knows.0 knows.1 some, knows.1)

-- After a push exchange that fails

same_from : (a b : Link) → a.stamp ≡ b.stamp → a.next ≡ b.next → same_link a b ≡ true
same_from a b stamp next = and_from _ _ (eq-eqb a.stamp b.stamp stamp) (eq-eqb a.next b.next next)

sees_change : (push seen : Link) → IsSeen push seen → same_link push seen ≡ false → (seen.stamp < push.stamp) ⊎ ((push.stamp ≡ seen.stamp) × (push.next ≡ 0) × (0 < seen.next))
sees_change push seen is fails =
    elim (cases_lt seen.stamp push.stamp) [
      | inl higher ↦ inl higher
      | inr most ↦
          let stamp : push.stamp ≡ seen.stamp = omega (arith, is.older) in
          let other : push.next ≢ seen.next = λ next. false≢true (sym fails ∙ same_from push seen stamp next) in
          elim (is.same (sym stamp)) [
            | inl next ↦ absurd (other next)
            | inr emptied ↦ inr (stamp, emptied, omega arith)
          ]
    ]

pub failed_pushes_see_change : FailedPushesSeeChange
failed_pushes_see_change c s pusher seen is at fails =
    let steady = is in
    let knows = rw at at (steady.fits.each s).knows in
    sees_change c.push seen knows.1 fails
