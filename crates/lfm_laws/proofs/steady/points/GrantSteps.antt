-- The store that grants the oldest record keeps a state steady, whichever call carries the responsibility.
use Rattle.std.proofs.Common.{◌≡◌, ◌≢◌, ℕ, ◌+◌, ◌≤◌, Some, List, [], ◌∷◌, refl, sym, ap, ◌∙◌, arith}
use Rattle.std.proofs.lemmas.Bool.{ne_eqb}
use Rattle.lfm_model.specs.Abstract as Abstract
use Rattle.lfm_model.specs.AbstractRuns.{serve}
use Rattle.lfm_model.specs.declared.answers.Unlocked.TheVariants.{Granted}
use Rattle.lfm_protocol.specs.declared.points.Carrier.{Carrier}
use Rattle.lfm_protocol.specs.declared.points.Point.{Point}
use Rattle.lfm_protocol.specs.declared.points.Point.TheVariants.{Rest, Asleep, GrantWakeStore, WaitWakeStore}
use Rattle.lfm_protocol.specs.declared.points.Releaser.{Releaser}
use Rattle.lfm_protocol.specs.declared.points.Releaser.TheVariants.{Unlocker, Waiter}
use Rattle.lfm_protocol.specs.declared.points.Sleeper.TheVariants as Sleeper
use Rattle.lfm_protocol.specs.declared.seats.SeatState.{SeatState}
use Rattle.lfm_words.specs.declared.pop_lists.Record.{Record}
use Rattle.lfm_words.specs.declared.wakes.Wake.{Wake}
use Rattle.lfm_words.specs.declared.wakes.Wake.TheVariants.{Quiet}
use Rattle.lfm_protocol.specs.After as After
use Rattle.lfm_protocol.specs.Core.{Core}
use Rattle.lfm_laws.specs.laws.Events.{answered_by}
use Rattle.lfm_laws.specs.steady.Ghost.{serving, apart, queued, Ghost}
use Rattle.lfm_laws.specs.steady.EventOutcome.{abstract, abstract_place, Kept, GoesBy}
use Rattle.lfm_protocol.specs.Seats.{seat, wake, IsSeat}
use Rattle.lfm_laws.specs.steady.Steady.{GivesAway, StandsAsCarrier, Fits}
use Rattle.lfm_laws.specs.steady.Views.{due_posts_of_granter, due_pushes_of_carrier, waits_on}
use Rattle.lfm_laws.proofs.steady.frames.Abstracts.{queue_pops}
use Rattle.lfm_laws.proofs.steady.frames.Frames.{Errands, place_of_claim}
use Rattle.lfm_laws.proofs.steady.grant.Granting.{Rests, granted_to, grant_fits}
use Rattle.lfm_laws.proofs.steady.frames.Histories.{history_pops}
use Rattle.lfm_laws.proofs.steady.queue.Popping.{IsFirst, first_of, first_record_is, asking_stays}
use Rattle.lfm_laws.proofs.steady.frames.Seated.{seat_of_queued}

-- A grant of the oldest record

-- the point of a call that has granted seat u
abbrev released : Releaser → ℕ → Point
released Unlocker u = Rest
released Waiter u = WaitWakeStore (Granted u)

abbrev point_after : Carrier → ℕ → Point
point_after Carrier.Locker u = Asleep Sleeper.Locker
point_after (Carrier.Releaser releaser) u = released releaser u
point_after (Carrier.Reclaimer releaser) u = released releaser u
point_after Carrier.Sender u = Rest

moved_on : (x : SeatState) (carrier : Carrier) (r : Record) → (After.granted x carrier r).seat ≡ record x { point = point_after carrier r.seat }
moved_on x Carrier.Locker r = refl
moved_on x (Carrier.Releaser Unlocker) r = refl
moved_on x (Carrier.Releaser Waiter) r = refl
moved_on x (Carrier.Reclaimer Unlocker) r = refl
moved_on x (Carrier.Reclaimer Waiter) r = refl
moved_on x Carrier.Sender r = refl

answers_none : (x : SeatState) (s : ℕ) (carrier : Carrier) (r : Record) → answered_by s (After.granted x carrier r).turn ≡ []
answers_none x s Carrier.Locker r = refl
answers_none x s (Carrier.Releaser Unlocker) r = refl
answers_none x s (Carrier.Releaser Waiter) r = refl
answers_none x s (Carrier.Reclaimer Unlocker) r = refl
answers_none x s (Carrier.Reclaimer Waiter) r = refl
answers_none x s Carrier.Sender r = refl

-- the seat of the oldest record is not that of its carrier
gives_to_other : (g : Ghost) (s stamp : ℕ) (r : Record) (carrier : Carrier) → g.standing r.seat ≡ queued stamp → GivesAway s r carrier → StandsAsCarrier (g.standing s) carrier → r.seat ≢ s
gives_to_other g s stamp r Carrier.Locker first gives stands = gives
gives_to_other g s stamp r (Carrier.Releaser releaser) first gives stands = λ e. let clash : queued stamp ≡ apart = sym first ∙ ap g.standing e ∙ stands in cc
gives_to_other g s stamp r (Carrier.Reclaimer releaser) first gives stands = λ e. let clash : queued stamp ≡ apart = sym first ∙ ap g.standing e ∙ stands in cc
gives_to_other g s stamp r Carrier.Sender first gives stands = λ e. let clash : queued stamp ≡ apart = sym first ∙ ap g.standing e ∙ stands in cc

-- a seat without depth that has done nothing except grant may rest
rests_idle : (g : Ghost) (s u stamp : ℕ) (x : SeatState) (w : Wake) → x.depth ≡ 0 → w ≡ Quiet → g.standing s ≡ apart → x.posts ≤ x.takes → g.pushes s ≤ x.takes
    → Rests g s u stamp x w Rest
rests_idle g s u stamp x w depth quiet stands posts pushes =
    record {
      claims = rw depth refl;
      woken = quiet;
      stands = stands;
      depth = omega (arith, depth);
      knows = λ d h. tt;
      posts = rw depth (omega (arith, posts));
      pushes = omega (arith, pushes);
    }

rests_released : (g : Ghost) (s u stamp : ℕ) (x : SeatState) (w : Wake) (releaser : Releaser) → x.depth ≡ 0 → w ≡ Quiet → g.standing s ≡ apart
    → x.posts + waits_on releaser ≤ x.takes → g.pushes s + waits_on releaser ≤ x.takes → Rests g s u stamp x w (released releaser u)
rests_released g s u stamp x w Unlocker depth quiet stands posts pushes = rests_idle g s u stamp x w depth quiet stands (omega (arith, posts)) (omega (arith, pushes))
rests_released g s u stamp x w Waiter depth quiet stands posts pushes =
    record { claims = refl; woken = quiet; stands = stands; depth = depth; knows = λ d h. tt; posts = posts; pushes = pushes }

rests_after : (g : Ghost) (s u stamp : ℕ) (x : SeatState) (w : Wake) (carrier : Carrier) → x.depth ≡ 0 → w ≡ Quiet → StandsAsCarrier (g.standing s) carrier
    → x.posts + due_posts_of_granter carrier ≤ x.takes → g.pushes s + due_pushes_of_carrier carrier ≤ x.takes → Rests g s u stamp x w (point_after carrier u)
rests_after g s u stamp x w Carrier.Locker depth quiet stands posts pushes =
    record { claims = refl; woken = quiet; stands = rw stands refl; depth = depth; knows = λ d h. tt; posts = posts; pushes = pushes }
rests_after g s u stamp x w (Carrier.Releaser releaser) depth quiet stands posts pushes = rests_released g s u stamp x w releaser depth quiet stands posts pushes
rests_after g s u stamp x w (Carrier.Reclaimer releaser) depth quiet stands posts pushes = rests_released g s u stamp x w releaser depth quiet stands posts pushes
rests_after g s u stamp x w Carrier.Sender depth quiet stands posts pushes = rests_idle g s u stamp x w depth quiet stands (omega (arith, posts)) (omega (arith, pushes))

-- a carrier that has granted had no errand, and has none
errands_after : (c : Core) (s : ℕ) (carrier : Carrier) (r : Record) → (seat c.seats s).point ≡ GrantWakeStore carrier r
    → Errands c s (record (seat c.seats s) { point = point_after carrier r.seat })
errands_after c s Carrier.Locker r at = record { asks_same = rw at refl; claims_same = rw at refl; posts_same = refl }
errands_after c s (Carrier.Releaser Unlocker) r at = record { asks_same = rw at refl; claims_same = rw at refl; posts_same = refl }
errands_after c s (Carrier.Releaser Waiter) r at = record { asks_same = rw at refl; claims_same = rw at refl; posts_same = refl }
errands_after c s (Carrier.Reclaimer Unlocker) r at = record { asks_same = rw at refl; claims_same = rw at refl; posts_same = refl }
errands_after c s (Carrier.Reclaimer Waiter) r at = record { asks_same = rw at refl; claims_same = rw at refl; posts_same = refl }
errands_after c s Carrier.Sender r at = record { asks_same = rw at refl; claims_same = rw at refl; posts_same = refl }

-- the abstract mutex serves the first seat of the list, which is not the carrier
serves_other : (c : Core) (g : Ghost) (s : ℕ) (r : Record) (rest : List Record) → g.place ≡ serving s → IsFirst c g r rest → r.seat ≢ s → GoesBy (Some serve) (abstract g) (abstract (granted_to g r))
serves_other c g s r rest serves first other = (
  Abstract.serve s r.seat (record {
    before = ap abstract_place serves;
    after = rw (ne_eqb r.seat s other) refl;
    asking = asking_stays g r.seat (g.popped + 1) first.stands;
    waiting = queue_pops g (granted_to g r) first.some refl refl refl ∙ ap (λ u. u ∷ (abstract (granted_to g r)).waiting) first.here;
  }),
  refl,
)

-- the state stays steady when seat s, which carries the responsibility, grants the oldest record
grants : (c : Core) (g : Ghost) (s : ℕ) (carrier : Carrier) (r : Record) (rest : List Record) → IsSeat c.seats s → (seat c.seats s).point ≡ GrantWakeStore carrier r → Fits c g
    → g.place ≡ serving s → g.walk ≡ 0 → c.popped ≡ r ∷ rest → GivesAway s r carrier → Kept c g s
grants c g s carrier r rest is at fits serves walked popped gives =
    let x : SeatState = seat c.seats s in
    let here = rw at at (fits.each s) in
    let first = first_of c g r rest fits walked popped in
    let there = seat_of_queued c g r.seat (g.popped + 1) fits first.stands in
    let other = gives_to_other g s (g.popped + 1) r carrier first.stands gives here.stands in
    let quiet : wake c.wakes s ≡ Quiet = rw serves at here.woken in
    let rests = rests_after g s r.seat r.stamp x (wake c.wakes s) carrier here.depth quiet here.stands here.posts here.pushes in
    rw (at, at, popped, moved_on x carrier r, answers_none x s carrier r) (record {
      to = granted_to g r;
      fits = grant_fits c g s r rest (point_after carrier r.seat) is fits (errands_after c s carrier r at) serves walked popped first there other rests;
      goes = serves_other c g s r rest serves first other;
      history = history_pops g (granted_to g r) r refl refl refl refl (first_record_is g r first.stamp first.here);
    })

pub at_GrantWakeStore : (c : Core) (g : Ghost) (s : ℕ) (carrier : Carrier) (oldest : Record) → IsSeat c.seats s → (seat c.seats s).point ≡ GrantWakeStore carrier oldest → Fits c g → Kept c g s
at_GrantWakeStore c g s carrier oldest is at fits =
    let here = rw at at (fits.each s) in
    let place = place_of_claim g.place (serving s) s (λ e. cc) here.claims in
    grants c g s carrier oldest here.knows.1.0 is at fits place here.knows.0 here.knows.1.1 here.knows.2
