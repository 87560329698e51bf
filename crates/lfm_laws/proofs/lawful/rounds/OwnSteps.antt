-- The seat that has to go on makes a step beside a posted handoff or with its grant, while a record is queued: its weight
-- falls, as the exchange wins the post, and the receive finds the grant.
use Rattle.std.proofs.Common.{◌≡◌, ◌≢◌, ℕ, true, false, ◌≤◌, ◌<◌, None, List, [], refl, sym, ap, ◌∙◌, arith}
use Rattle.std.proofs.lemmas.Bool.{eq-eqb, ne_eqb, false≢true}
use Rattle.lfm_model.specs.Abstract.{AbstractPlace, AbstractStep, free, owner, passed, carried}
use Rattle.lfm_model.specs.Abstract as Abstract
use Rattle.lfm_protocol.specs.declared.points.Carrier.{Carrier}
use Rattle.lfm_protocol.specs.declared.points.Point.{Point}
use Rattle.lfm_protocol.specs.declared.points.Point.TheVariants.{Rest, Asleep, SendPushRecheck, PushedHandoffLoad, PushedHandoffExchange, ReleasePushRecheck, ReleaseHandoffExchange, TakeClearHead, ReceiveWakeLoad, ReceiveWakeStore}
use Rattle.lfm_protocol.specs.declared.points.Pusher.{Pusher}
use Rattle.lfm_protocol.specs.declared.points.Sleeper.{Sleeper}
use Rattle.lfm_protocol.specs.declared.seats.SeatState.{SeatState}
use Rattle.lfm_words.specs.declared.handoffs.Handoff.{Handoff}
use Rattle.lfm_words.specs.declared.pop_lists.Record.{Record}
use Rattle.lfm_words.specs.declared.wakes.Wake.TheVariants.{Grant}
use Rattle.lfm_words.specs.Popped.{oldest}
use Rattle.lfm_protocol.specs.After.{same_handoff, carrier_of}
use Rattle.lfm_protocol.specs.Core.{Core}
use Rattle.lfm_protocol.specs.Seats.{seat, wake, unposted, IsSeat}
use Rattle.lfm_protocol.specs.Step.{made}
use Rattle.lfm_laws.specs.laws.Cases.{GoesBy}
use Rattle.lfm_laws.specs.laws.Events.{case_at}
use Rattle.lfm_laws.specs.laws.Schedules.{is_call}
use Rattle.lfm_laws.specs.steady.Ghost as Places
use Rattle.lfm_laws.specs.steady.Ghost.{Responsibility, nobody, owned, posted, entering, accepting, leaving, serving, Ghost}
use Rattle.lfm_laws.specs.steady.EventOutcome.{abstract, abstract_place}
use Rattle.lfm_laws.specs.steady.Steady.{HasQueue, HandoffFits, Fits}
use Rattle.lfm_laws.specs.steady.Views.{claim}
use Rattle.lfm_laws.specs.laws.TriedPosts.{WillTry}
use Rattle.lfm_laws.proofs.lawful.bounds.Leaving.{own_made, size_made}
use Rattle.lfm_laws.proofs.lawful.read.WatchedRead.{head_posted, carried_posted}
use Rattle.lfm_laws.proofs.steady.frames.Frames.{place_of_claim}
use Rattle.lfm_laws.proofs.lawful.rounds.TriedPosts.{same_self}
use Rattle.lfm_laws.proofs.lawful.rounds.Weights.{carry_weight, grant_weight, try_weight, Due, clear_weight-le}

-- the weight is below m
pub record WeightFell (d : Core) (h : Ghost) (m : ℕ) : Type 0 where
  pub who : ℕ
  pub left : ℕ
  pub less : left < m
  pub due : Due d who left (abstract_place h.place)

pub fell_posted : (d : Core) (h : Ghost) (u m : ℕ) (q : Point) → abstract_place h.place ≡ Abstract.posted → (seat d.seats u).point ≡ q → WillTry d u (seat d.seats u) q
    → try_weight q < m → WeightFell d h m
fell_posted d h u m q place at tries less =
    record { who = u; left = try_weight q; less = less; due = rw (place, at) (tries, omega arith) }

pub fell_carried : (d : Core) (h : Ghost) (u m : ℕ) (how : Abstract.Carrying) (q : Point) → abstract_place h.place ≡ carried u how → (seat d.seats u).point ≡ q
    → carry_weight q < m → WeightFell d h m
fell_carried d h u m how q place at less =
    record { who = u; left = carry_weight q; less = less; due = rw (place, at) (refl, omega arith) }

pub fell_passed : (d : Core) (h : Ghost) (u m : ℕ) (q : Point) → abstract_place h.place ≡ passed u → (seat d.seats u).point ≡ q
    → grant_weight q < m → WeightFell d h m
fell_passed d h u m q place at less =
    record { who = u; left = grant_weight q; less = less; due = rw (place, at) (refl, omega arith) }

pub fell_owner : (d : Core) (h : Ghost) (s m : ℕ) → abstract_place h.place ≡ owner s → 2 < m → WeightFell d h m
fell_owner d h s m place less = record { who = 0; left = 2; less = less; due = rw place (omega arith) }

-- a claim determines the place
pub claimed : (d : Core) (h : Ghost) (u : ℕ) (q : Responsibility) → Fits d h → claim (seat d.seats u) u ≡ q → q ≢ nobody → abstract_place h.place ≡ abstract_place q
claimed d h u q fits claims some = ap abstract_place (place_of_claim h.place q u some (sym claims ∙ (fits.each u).claims))

pub posted_handoff : (seats : List SeatState) (p : Responsibility) (n : Handoff) → p ≡ posted → HandoffFits seats p n → IsSeat seats n.seat
posted_handoff seats p n place fits = rw place at fits

-- A posted handoff

loads_posted : (c : Core) (g h : Ghost) (u m : ℕ) (pusher : Pusher) → (seat c.seats u).point ≡ PushedHandoffLoad pusher → Fits c g → g.place ≡ posted → IsSeat c.seats u
    → 7 ≤ m → abstract_place h.place ≡ Abstract.posted → WeightFell (made c u).core h m
loads_posted c g h u m Pusher.Locker at fits place is more after =
    let some = (posted_handoff c.seats g.place c.handoff place fits.words.handoff).above in
    let view : seat (made c u).core.seats u ≡ record (seat c.seats u) { point = PushedHandoffExchange Pusher.Locker c.handoff } =
    own_made c u is ∙ rw (at, at, ne_eqb c.handoff.seat 0 (λ e. omega (arith, e, some))) refl in
    let size = size_made c u in
    fell_posted (made c u).core h u m (PushedHandoffExchange Pusher.Locker c.handoff) after (rw view refl) (rw at refl) (omega (arith, size, more))
loads_posted c g h u m (Pusher.Sender t) at fits place is more after =
    let some = (posted_handoff c.seats g.place c.handoff place fits.words.handoff).above in
    let view : seat (made c u).core.seats u ≡ record (seat c.seats u) { point = SendPushRecheck t c.handoff } =
    own_made c u is ∙ rw (at, at, ne_eqb c.handoff.seat 0 (λ e. omega (arith, e, some))) refl in
    let size = size_made c u in
    fell_posted (made c u).core h u m (SendPushRecheck t c.handoff) after (rw view refl) (rw at refl) (omega (arith, size, more))

oldest_none : (records : List Record) → records ≡ [] → oldest records ≡ None
oldest_none records e = rw e refl

pub posted_goes_on : (c : Core) (g h : Ghost) (u m : ℕ) (p : Point) → (seat c.seats u).point ≡ p → Fits c g → g.place ≡ posted → HasQueue g → IsSeat c.seats u
    → WillTry c u (seat c.seats u) p → try_weight p ≤ m → Fits (made c u).core h → GoesBy (case_at c u (seat c.seats u) p) (abstract g) (abstract h)
    → WeightFell (made c u).core h m
posted_goes_on c g h u m (PushedHandoffLoad pusher) at fits place some is tries more after goes =
    loads_posted c g h u m pusher at fits place is more (goes.place ∙ ap abstract_place place)
posted_goes_on c g h u m (SendPushRecheck t seen) at fits place some is tries more after goes =
    let head = head_posted c g fits place some in
    let view : seat (made c u).core.seats u ≡ record (seat c.seats u) { point = PushedHandoffExchange (Pusher.Sender t) seen } =
    own_made c u is ∙ rw (at, at, ne_eqb c.push.next 0 (λ e. omega (arith, e, head))) refl in
    let size = size_made c u in
    fell_posted (made c u).core h u m (PushedHandoffExchange (Pusher.Sender t) seen) (goes.place ∙ ap abstract_place place) (rw view refl) (rw at tries) (omega (arith, size, more))
posted_goes_on c g h u m (PushedHandoffExchange pusher seen) at fits place some is tries more after goes =
    let empty = oldest_none c.popped (carried_posted g.place g.walk c.popped place fits.words.carried).1 in
    let won : same_handoff c.handoff seen ≡ true = rw tries (same_self seen) in
    let view : seat (made c u).core.seats u ≡ record (seat c.seats u) { point = TakeClearHead (carrier_of pusher) } =
    own_made c u is ∙ rw (at, at, won, empty) refl in
    let size = size_made c u in
    let two = clear_weight-le (carrier_of pusher) in
    fell_carried (made c u).core h u m Abstract.serving (TakeClearHead (carrier_of pusher)) (claimed (made c u).core h u (serving u) after (rw view refl) (λ e. cc)) (rw view refl) (omega (arith, size, more, two))
posted_goes_on c g h u m (ReleasePushRecheck releaser) at fits place some is tries more after goes =
    let head = head_posted c g fits place some in
    let view : seat (made c u).core.seats u ≡ record (seat c.seats u) { point = ReleaseHandoffExchange releaser } =
    own_made c u is ∙ rw (at, at, ne_eqb c.push.next 0 (λ e. omega (arith, e, head))) refl in
    let size = size_made c u in
    fell_posted (made c u).core h u m (ReleaseHandoffExchange releaser) (goes.place ∙ ap abstract_place place) (rw view refl) (rw view (rw at tries)) (omega (arith, size, more))
posted_goes_on c g h u m (ReleaseHandoffExchange releaser) at fits place some is tries more after goes =
    let empty = oldest_none c.popped (carried_posted g.place g.walk c.popped place fits.words.carried).1 in
    let won : same_handoff c.handoff (record { seat = u; post = (seat c.seats u).posts }) ≡ true = rw tries (same_self (record { seat = u; post = (seat c.seats u).posts })) in
    let view : seat (made c u).core.seats u ≡ record (seat c.seats u) { point = TakeClearHead (Carrier.Reclaimer releaser) } =
    own_made c u is ∙ rw (at, at, won, empty) refl in
    let size = size_made c u in
    fell_carried (made c u).core h u m Abstract.serving (TakeClearHead (Carrier.Reclaimer releaser)) (claimed (made c u).core h u (serving u) after (rw view refl) (λ e. cc)) (rw view refl) (omega (arith, size, more))
posted_goes_on c g h u m _ at fits place some is tries more after goes = absurd tries

-- A grant

pub granted_handoff : (seats : List SeatState) (p : Responsibility) (s stamp : ℕ) (n : Handoff) → p ≡ Places.granted s stamp → HandoffFits seats p n → n ≡ unposted
granted_handoff seats p s stamp n place fits = rw place at fits

pub not_unposted : (seen : Handoff) → 0 < seen.seat → same_handoff unposted seen ≡ false
not_unposted seen above = rw (ne_eqb 0 seen.seat (λ e. omega (arith, e, above))) refl

pub granted_goes_on : (c : Core) (g h : Ghost) (u m stamp : ℕ) (p : Point) → (seat c.seats u).point ≡ p → is_call p ≡ true → Fits c g → g.place ≡ Places.granted u stamp → IsSeat c.seats u
    → wake c.wakes u ≡ Grant stamp → grant_weight p ≤ m → Fits (made c u).core h → GoesBy (case_at c u (seat c.seats u) p) (abstract g) (abstract h)
    → WeightFell (made c u).core h m
granted_goes_on c g h u m stamp (PushedHandoffLoad Pusher.Locker) at inside fits place is word more after goes =
    let none = granted_handoff c.seats g.place u stamp c.handoff place fits.words.handoff in
    let view : seat (made c u).core.seats u ≡ record (seat c.seats u) { point = Asleep Sleeper.Locker } = own_made c u is ∙ rw (at, at, none) refl in
    let size = size_made c u in
    fell_passed (made c u).core h u m (Asleep Sleeper.Locker) (goes.place ∙ ap abstract_place place) (rw view refl) (omega (arith, size, more))
granted_goes_on c g h u m stamp (PushedHandoffExchange Pusher.Locker seen) at inside fits place is word more after goes =
    let none = granted_handoff c.seats g.place u stamp c.handoff place fits.words.handoff in
    let knows = rw at at (fits.each u).knows in
    let lost : same_handoff c.handoff seen ≡ false = rw none (not_unposted seen knows.0.above) in
    let view : seat (made c u).core.seats u ≡ record (seat c.seats u) { point = Asleep Sleeper.Locker } = own_made c u is ∙ rw (at, at, lost) refl in
    let stays = rw lost at goes in
    let size = size_made c u in
    fell_passed (made c u).core h u m (Asleep Sleeper.Locker) (stays.place ∙ ap abstract_place place) (rw view refl) (omega (arith, size, more))
granted_goes_on c g h u m stamp (ReceiveWakeLoad sleeper) at inside fits place is word more after goes =
    let view : seat (made c u).core.seats u ≡ record (seat c.seats u) { point = ReceiveWakeStore stamp } = own_made c u is ∙ rw (at, at, word) refl in
    let size = size_made c u in
    fell_carried (made c u).core h u m (Abstract.entering u) (ReceiveWakeStore stamp) (claimed (made c u).core h u (entering u u stamp) after (rw view refl) (λ e. cc)) (rw view refl) (omega (arith, size, more))
granted_goes_on c g h u m stamp Rest at inside fits place is word more after goes = absurd (false≢true inside)
granted_goes_on c g h u m stamp (Asleep sleeper) at inside fits place is word more after goes = absurd (false≢true inside)
granted_goes_on c g h u m stamp _ at inside fits place is word more after goes =
    let here : is_call (seat c.seats u).point ≡ true = rw at refl in
    let awaits = ((fits.each u).granted (rw (place, eq-eqb u u refl) refl)).0 in
    absurd (false≢true (rw at at awaits))
