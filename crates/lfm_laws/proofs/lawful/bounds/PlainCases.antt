-- The steps that neither serve a record nor post: those at all points except three, at which a seat enters, grants or posts.
use Rattle.std.proofs.Common.{◌≡◌, ℕ, suc, Bool, true, false, ◌-◌, Option, Some, None, [], nat_eq, refl, arith, if◌then◌else◌}
use Rattle.std.proofs.lemmas.Bool.{false≢true}
use Rattle.lfm_model.specs.AbstractRuns.{Case, case_of}
use Rattle.lfm_model.specs.AbstractRuns as Runs
use Rattle.lfm_protocol.specs.declared.points.Point.{Point}
use Rattle.lfm_protocol.specs.declared.points.Point.TheVariants.{LockCountAdd, TryCountExchange, TryHandoffExchange, PushExchange, PushedHandoffExchange, ReleaseHandoffStore, ReleaseHandoffExchange, GrantWakeStore, EnterOwnerStore, ReceiveWakeLoad}
use Rattle.lfm_protocol.specs.declared.seats.SeatState.{SeatState}
use Rattle.lfm_words.specs.declared.wakes.Wake.{Wake}
use Rattle.lfm_words.specs.declared.wakes.Wake.TheVariants.{Grant}
use Rattle.lfm_words.specs.Popped.{oldest}
use Rattle.lfm_protocol.specs.After.{same_link, same_handoff}
use Rattle.lfm_protocol.specs.Core.{Core}
use Rattle.lfm_protocol.specs.Seats.{wake}
use Rattle.lfm_laws.specs.laws.Events.{case_at, takes_up}
use Rattle.lfm_laws.specs.steady.Ghost.{Ghost}
use Rattle.lfm_laws.specs.steady.EventOutcome.{abstract}
use Rattle.lfm_laws.specs.steady.Steady.{HasQueue}

-- some seat is queued
pub not_empty : (g : Ghost) → HasQueue g → (abstract g).waiting ≡ [] → ⊥
not_empty g some none =
    let one : g.pushed - g.popped ≡ suc (g.pushed - g.popped - 1) = omega (arith, some) in
    let all = rw one at none in
    cc

-- a step that serves or posts
abbrev pub gives : Case → Bool
gives Runs.serve = true
gives Runs.post = true
gives _ = false

abbrev pub gives_by : Option Case → Bool
gives_by None = false
gives_by (Some case) = gives case

-- at all points except three, no step enters, serves or posts

abbrev pub is_plain : Point → Bool
is_plain (EnterOwnerStore entrant how) = false
is_plain (GrantWakeStore carrier oldest) = false
is_plain (ReleaseHandoffStore releaser) = false
is_plain _ = true

neither_gives : (b : Bool) (k l : Option Case) → gives_by k ≡ false → gives_by l ≡ false → gives_by (if b then k else l) ≡ false
neither_gives true k l first second = first
neither_gives false k l first second = second

takes_up_other : (w : Wake) → gives_by (takes_up w) ≡ false
takes_up_other (Grant stamp) = refl
takes_up_other _ = refl

pub plain_case : (c : Core) (s : ℕ) (x : SeatState) (p : Point) → is_plain p ≡ true → gives_by (case_at c s x p) ≡ false
plain_case c s x (EnterOwnerStore entrant how) plain = absurd (false≢true plain)
plain_case c s x (GrantWakeStore carrier oldest) plain = absurd (false≢true plain)
plain_case c s x (ReleaseHandoffStore releaser) plain = absurd (false≢true plain)
plain_case c s x LockCountAdd plain = neither_gives (nat_eq c.count 0) _ _ refl (neither_gives (nat_eq x.depth 0) _ _ refl refl)
plain_case c s x TryCountExchange plain = neither_gives (nat_eq c.count 0) _ _ refl refl
plain_case c s x (PushExchange pusher seen) plain = neither_gives (same_link c.push seen) _ _ refl refl
plain_case c s x (PushedHandoffExchange pusher seen) plain = neither_gives (same_handoff c.handoff seen) _ _ refl refl
plain_case c s x (ReleaseHandoffExchange releaser) plain = neither_gives (same_handoff c.handoff (record { seat = s; post = x.posts })) _ _ refl refl
plain_case c s x (TryHandoffExchange seen) plain = neither_gives (same_handoff c.handoff seen) _ _ refl refl
plain_case c s x (ReceiveWakeLoad sleeper) plain = takes_up_other (wake c.wakes s)
plain_case c s x _ plain = refl
