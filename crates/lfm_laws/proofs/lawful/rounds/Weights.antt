-- Weights: how many rounds that begin while no seat owns pass at most before the next record leaves the queue, apart from
-- link loads. The weight is that of the seat that has to go on: it carries the responsibility, or has its grant, or will try
-- to take the posted handoff. It counts the steps of this seat and of those that have to go on after it. While a seat owns,
-- it is 2: the release that follows has at most two such steps to make before it grants, as it finds a record.
use Rattle.std.proofs.Common.{◌≡◌, ◌≢◌, ℕ, ◌≤◌, refl, arith}
use Rattle.lfm_model.specs.Abstract.{AbstractPlace, free, owner, passed, carried}
use Rattle.lfm_model.specs.Abstract as Abstract
use Rattle.lfm_model.specs.declared.answers.How.{How}
use Rattle.lfm_protocol.specs.declared.points.Carrier.{Carrier}
use Rattle.lfm_protocol.specs.declared.points.Entrant.{Entrant}
use Rattle.lfm_protocol.specs.declared.points.Point.{Point}
use Rattle.lfm_protocol.specs.declared.points.Point.TheVariants.{Asleep, TryCountAdd, SendPushRecheck, SendWakeStore, PushedHandoffExchange, ReleaseCountSubtract, ReleaseHandoffStore, ReleasePushRecheck, ReleaseHandoffExchange, TakeClearHead, TakeLinkLoad, GrantWakeStore, EnterOwnerStore, ReceiveWakeLoad, ReceiveWakeStore}
use Rattle.lfm_protocol.specs.Core.{Core}
use Rattle.lfm_protocol.specs.Seats.{seat}
use Rattle.lfm_laws.specs.laws.Laws.{post_weight}
use Rattle.lfm_laws.specs.laws.TriedPosts.{SeatWillTry}
use Rattle.lfm_laws.specs.steady.Ghost.{entering, accepting, leaving, serving}
use Rattle.lfm_laws.specs.steady.Views.{claim_at, claim_to_enter}

-- a call that carries the responsibility

abbrev pub enter_weight : Entrant → How → ℕ
enter_weight Entrant.Locker (How.Queued stamp) = 1
enter_weight _ how = 3

abbrev pub clear_weight : Carrier → ℕ
clear_weight Carrier.Locker = 2
clear_weight _ = 1

abbrev pub carry_weight : Point → ℕ
carry_weight (ReleaseCountSubtract releaser) = 2
carry_weight (TakeClearHead carrier) = clear_weight carrier
carry_weight (EnterOwnerStore entrant how) = enter_weight entrant how
carry_weight (ReceiveWakeStore stamp) = 4
carry_weight TryCountAdd = 4
carry_weight (SendWakeStore t) = 7
carry_weight (ReleaseHandoffStore releaser) = 7
carry_weight _ = 1

-- a seat that has its grant
abbrev pub grant_weight : Point → ℕ
grant_weight (Asleep sleeper) = 6
grant_weight (ReceiveWakeLoad sleeper) = 5
grant_weight _ = 7

abbrev pub try_weight : Point → ℕ
try_weight (SendPushRecheck t seen) = 6
try_weight (PushedHandoffExchange pusher seen) = 5
try_weight (ReleasePushRecheck releaser) = 6
try_weight (ReleaseHandoffExchange releaser) = 5
try_weight _ = 7

-- with the responsibility at this place, seat u has to go on, and the next record leaves within m rounds
abbrev pub Due : Core → ℕ → ℕ → AbstractPlace → Type 0
Due c u m free = ⊥
Due c u m (owner s) = 2 ≤ m
Due c u m (passed s) = (u ≡ s) × (grant_weight (seat c.seats u).point ≤ m)
Due c u m Abstract.posted = SeatWillTry c u × (try_weight (seat c.seats u).point ≤ m)
Due c u m (carried s how) = (u ≡ s) × (carry_weight (seat c.seats u).point ≤ m)

-- Bounds

enter_weight-le : (entrant : Entrant) (how : How) → enter_weight entrant how ≤ 3
enter_weight-le Entrant.Locker How.Free = omega arith
enter_weight-le Entrant.Locker (How.Queued stamp) = omega arith
enter_weight-le Entrant.Trier how = omega arith
enter_weight-le Entrant.Receiver how = omega arith

enter_weight-some : (entrant : Entrant) (how : How) → 1 ≤ enter_weight entrant how
enter_weight-some Entrant.Locker How.Free = omega arith
enter_weight-some Entrant.Locker (How.Queued stamp) = omega arith
enter_weight-some Entrant.Trier how = omega arith
enter_weight-some Entrant.Receiver how = omega arith

pub clear_weight-le : (carrier : Carrier) → clear_weight carrier ≤ 2
clear_weight-le Carrier.Locker = omega arith
clear_weight-le (Carrier.Releaser releaser) = omega arith
clear_weight-le (Carrier.Reclaimer releaser) = omega arith
clear_weight-le Carrier.Sender = omega arith

clear_weight-some : (carrier : Carrier) → 1 ≤ clear_weight carrier
clear_weight-some Carrier.Locker = omega arith
clear_weight-some (Carrier.Releaser releaser) = omega arith
clear_weight-some (Carrier.Reclaimer releaser) = omega arith
clear_weight-some Carrier.Sender = omega arith

pub carry_weight-le : (p : Point) → carry_weight p ≤ 7
carry_weight-le (EnterOwnerStore entrant how) = let one = enter_weight-le entrant how in omega (arith, one)
carry_weight-le (TakeClearHead carrier) = let two = clear_weight-le carrier in omega (arith, two)
carry_weight-le _ = omega arith

pub carry_weight-some : (p : Point) → 1 ≤ carry_weight p
carry_weight-some (EnterOwnerStore entrant how) = enter_weight-some entrant how
carry_weight-some (TakeClearHead carrier) = clear_weight-some carrier
carry_weight-some _ = omega arith

pub grant_weight-le : (p : Point) → grant_weight p ≤ 7
grant_weight-le (Asleep sleeper) = omega arith
grant_weight-le (ReceiveWakeLoad sleeper) = omega arith
grant_weight-le _ = omega arith

pub try_weight-le : (p : Point) → try_weight p ≤ 7
try_weight-le (SendPushRecheck t seen) = omega arith
try_weight-le (PushedHandoffExchange pusher seen) = omega arith
try_weight-le (ReleasePushRecheck releaser) = omega arith
try_weight-le (ReleaseHandoffExchange releaser) = omega arith
try_weight-le _ = omega arith

pub try_weight-more : (p : Point) → 5 ≤ try_weight p
try_weight-more (SendPushRecheck t seen) = omega arith
try_weight-more (PushedHandoffExchange pusher seen) = omega arith
try_weight-more (ReleasePushRecheck releaser) = omega arith
try_weight-more (ReleaseHandoffExchange releaser) = omega arith
try_weight-more _ = omega arith

grant_weight-more : (p : Point) → 5 ≤ grant_weight p
grant_weight-more (Asleep sleeper) = omega arith
grant_weight-more (ReceiveWakeLoad sleeper) = omega arith
grant_weight-more _ = omega arith

-- some round is left
pub due_some : (c : Core) (u m : ℕ) (p : AbstractPlace) → Due c u m p → 1 ≤ m
due_some c u m free due = absurd due
due_some c u m (owner s) due = omega (arith, due)
due_some c u m (passed s) due = let more = grant_weight-more (seat c.seats u).point in omega (arith, more, due.1)
due_some c u m Abstract.posted due = let more = try_weight-more (seat c.seats u).point in omega (arith, more, due.1)
due_some c u m (carried s how) due = let more = carry_weight-some (seat c.seats u).point in omega (arith, more, due.1)

-- a smaller bound is a bound
pub due_up : (c : Core) (u m n : ℕ) (p : AbstractPlace) → m ≤ n → Due c u m p → Due c u n p
due_up c u m n free less due = due
due_up c u m n (owner s) less due = omega (arith, due, less)
due_up c u m n (passed s) less due = (due.0, omega (arith, due.1, less))
due_up c u m n Abstract.posted less due = (due.0, omega (arith, due.1, less))
due_up c u m n (carried s how) less due = (due.0, omega (arith, due.1, less))

-- By what a call claims

-- a call that has taken a post, or has left, and is not about to post
pub serving_weight : (depth s : ℕ) (p : Point) → claim_at depth s p ≡ serving s → post_weight p ≡ 0 → carry_weight p ≤ 2
serving_weight depth s (TakeClearHead carrier) claims other = clear_weight-le carrier
serving_weight depth s (TakeLinkLoad carrier next) claims other = omega arith
serving_weight depth s (GrantWakeStore carrier oldest) claims other = omega arith
serving_weight depth s (EnterOwnerStore Entrant.Locker (How.Queued stamp)) claims other = omega arith
serving_weight depth s (EnterOwnerStore Entrant.Locker How.Free) claims other = absurd (cc)
serving_weight depth s (EnterOwnerStore Entrant.Trier how) claims other = absurd (cc)
serving_weight depth s (EnterOwnerStore Entrant.Receiver how) claims other = absurd (cc)
serving_weight depth s (ReleaseHandoffStore releaser) claims other = absurd (omega (arith, other))
serving_weight depth s (ReleaseCountSubtract releaser) claims other = absurd (cc)
serving_weight depth s (ReceiveWakeStore stamp) claims other = absurd (cc)
serving_weight depth s (SendWakeStore t) claims other = absurd (cc)
serving_weight depth s TryCountAdd claims other = absurd (cc)
serving_weight depth s _ claims other = omega arith

pub leaving_weight : (depth s : ℕ) (p : Point) → claim_at depth s p ≡ leaving s → carry_weight p ≤ 2
leaving_weight depth s (ReleaseCountSubtract releaser) claims = omega arith
leaving_weight depth s (TakeClearHead carrier) claims = absurd (cc)
leaving_weight depth s (TakeLinkLoad carrier next) claims = absurd (cc)
leaving_weight depth s (EnterOwnerStore entrant how) claims = absurd (no_entry entrant how claims)
  where
    no_entry : (entrant : Entrant) (how : How) → claim_to_enter s entrant how ≡ leaving s → ⊥
    no_entry Entrant.Locker How.Free e = cc
    no_entry Entrant.Locker (How.Queued stamp) e = cc
    no_entry Entrant.Trier how e = cc
    no_entry Entrant.Receiver how e = cc
leaving_weight depth s (ReleaseHandoffStore releaser) claims = absurd (cc)
leaving_weight depth s (ReceiveWakeStore stamp) claims = absurd (cc)
leaving_weight depth s (SendWakeStore t) claims = absurd (cc)
leaving_weight depth s TryCountAdd claims = absurd (cc)
leaving_weight depth s _ claims = omega arith

-- a call that brings in its own seat
pub accepting_weight : (depth s : ℕ) (p : Point) → claim_at depth s p ≡ accepting s → carry_weight p ≤ 4
accepting_weight depth s (ReleaseCountSubtract releaser) claims = absurd (cc)
accepting_weight depth s (TakeClearHead carrier) claims = absurd (cc)
accepting_weight depth s (TakeLinkLoad carrier next) claims = absurd (cc)
accepting_weight depth s (EnterOwnerStore entrant how) claims = let one = enter_weight-le entrant how in omega (arith, one)
accepting_weight depth s (ReleaseHandoffStore releaser) claims = absurd (cc)
accepting_weight depth s (SendWakeStore t) claims = absurd (cc)
accepting_weight depth s _ claims = omega arith

pub entering_weight : (depth s into stamp : ℕ) (p : Point) → claim_at depth s p ≡ entering s into stamp → into ≡ s → ((t : ℕ) → p ≡ SendWakeStore t → t ≢ s)
    → carry_weight p ≤ 4
entering_weight depth s into stamp (ReleaseCountSubtract releaser) claims own other = absurd (cc)
entering_weight depth s into stamp (TakeClearHead carrier) claims own other = absurd (cc)
entering_weight depth s into stamp (TakeLinkLoad carrier next) claims own other = absurd (cc)
entering_weight depth s into stamp (EnterOwnerStore entrant how) claims own other = let one = enter_weight-le entrant how in omega (arith, one)
entering_weight depth s into stamp (ReleaseHandoffStore releaser) claims own other = absurd (cc)
entering_weight depth s into stamp (SendWakeStore t) claims own other = absurd (other t refl (cc))
entering_weight depth s into stamp _ claims own other = omega arith
