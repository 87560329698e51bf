-- What the step at each point does to the takes and the depth of its own seat. By cases on the point.
use Rattle.std.proofs.Common.{◌≡◌, ℕ, Bool, true, false, ◌+◌, ◌<◌, nat_eq, refl, sym, ap, ◌∙◌, inl, inr, arith, if◌then◌else◌}
use Rattle.std.proofs.lemmas.Bool.{cases_eq, eq-eqb, ne_eqb, false≢true}
use Rattle.std.specs.Prelude.{Option, None}
use Rattle.lfm_model.specs.declared.answers.How.{How}
use Rattle.lfm_model.specs.declared.answers.Unlocked.{Unlocked}
use Rattle.lfm_protocol.specs.declared.answers.Answer.{Answer}
use Rattle.lfm_protocol.specs.declared.answers.Turn.{Turn}
use Rattle.lfm_protocol.specs.declared.answers.Turn.TheVariants.{Open, Ended, Refused}
use Rattle.lfm_protocol.specs.declared.kinds.Kind.{Kind}
use Rattle.lfm_protocol.specs.declared.points.Carrier.{Carrier}
use Rattle.lfm_protocol.specs.declared.points.Entrant.{Entrant}
use Rattle.lfm_protocol.specs.declared.points.Point.{Point}
use Rattle.lfm_protocol.specs.declared.points.Point.TheVariants.{Rest, Asleep, LockCountAdd, LockOwnerLoad, LockCountSubtract, TryCountExchange, TryOwnerLoad, TryHandoffLoad, TryHandoffExchange, TryCountAdd, SendWakeExchange, SendCountAdd, SendPushRecheck, SendWakeStore, PushLoad, LinkStore, PushExchange, PushedHandoffLoad, PushedHandoffExchange, ReleaseOwnerStore, ReleaseCountSubtract, ReleaseHandoffStore, ReleasePushRecheck, ReleaseHandoffExchange, WaitWakeStore, TakeClearHead, TakeLinkLoad, GrantWakeStore, EnterOwnerStore, ReceiveWakeLoad, ReceiveWakeStore}
use Rattle.lfm_protocol.specs.declared.points.Pusher.{Pusher}
use Rattle.lfm_protocol.specs.declared.points.Releaser.{Releaser}
use Rattle.lfm_protocol.specs.declared.points.Releaser.TheVariants.{Unlocker, Waiter}
use Rattle.lfm_protocol.specs.declared.points.Sleeper.{Sleeper}
use Rattle.lfm_protocol.specs.declared.seats.SeatState.{SeatState}
use Rattle.lfm_words.specs.declared.pop_lists.Record.{Record}
use Rattle.lfm_words.specs.declared.wakes.Wake.{Wake}
use Rattle.lfm_words.specs.Popped.{oldest}
use Rattle.lfm_protocol.specs.After.{same_link, same_handoff, busy, releases, pushed, granted, found_posted, carrier_of, serves, take, once_cleared, held, receives, claims, loaded, how_granted}
use Rattle.lfm_protocol.specs.Begin.{Stepped, goes_on, ends}
use Rattle.lfm_protocol.specs.Core.{Core}
use Rattle.lfm_protocol.specs.Points.{kind, target}
use Rattle.lfm_protocol.specs.Seats.{seat, link, wake}
use Rattle.lfm_laws.specs.laws.Charges.{refund_of}
use Rattle.lfm_laws.specs.laws.Depths.{AnswersDepth}
use Rattle.lfm_laws.specs.steady.Ghost.{Ghost}
use Rattle.lfm_laws.specs.steady.Steady.{DepthOfPusher, Fits}
use Rattle.lfm_laws.proofs.lawful.bounds.Leaving.{stepped_by, stepped}
use Rattle.lfm_laws.proofs.steady.frames.Quiet.{owner_of-held}
use Rattle.lfm_laws.proofs.steady.frames.Seated.{seat_of_point}

-- the depth before and after, by the turn, except at the owner store of a release
abbrev pub SaysDepth : ℕ → ℕ → Turn → Type 0
SaysDepth before after Open = after ≡ before
SaysDepth before after (Ended answer) = AnswersDepth before after answer
SaysDepth before after (Refused why) = after ≡ before

-- the seat has its takes less what is given back, and the depth that its turn gives
pub record Counts (takes depth : ℕ) (m : Stepped) : Type 0 where
  pub paid : m.seat.takes + refund_of m.turn ≡ takes
  pub deep : SaysDepth depth m.seat.depth m.turn

counts_if : (takes depth : ℕ) (b : Bool) (m n : Stepped) → Counts takes depth m → Counts takes depth n → Counts takes depth (if b then m else n)
counts_if takes depth true m n first second = first
counts_if takes depth false m n first second = second

goes : (x : SeatState) (p : Point) → Counts x.takes x.depth (goes_on x p)
goes x p = record { paid = omega arith; deep = refl }

sent : (x : SeatState) → Counts x.takes x.depth (ends x Answer.Sent)
sent x = record { paid = omega arith; deep = refl }

-- Releases

-- an answer of a release that has given up the mutex
abbrev pub gives_up : Unlocked → Bool
gives_up (Unlocked.Still n) = false
gives_up _ = true

unlocked_depth : (answer : Unlocked) (depth : ℕ) → gives_up answer ≡ true → depth ≡ 0 → AnswersDepth depth depth (Answer.Unlocked answer)
unlocked_depth (Unlocked.Still n) depth gives none = absurd (false≢true gives)
unlocked_depth _ depth gives none = (none, none)

released : (x : SeatState) (releaser : Releaser) (answer : Unlocked) → gives_up answer ≡ true → x.depth ≡ 0 → Counts x.takes x.depth (releases x releaser answer)
released x Unlocker answer gives none = record { paid = omega arith; deep = unlocked_depth answer x.depth gives none }
released x Waiter answer gives none = goes x (WaitWakeStore answer)

-- Pushes and grants

pushes : (x : SeatState) (pusher : Pusher) → DepthOfPusher x.depth pusher → Counts x.takes x.depth (pushed x pusher)
pushes x Pusher.Locker none = record { paid = omega arith; deep = (none, none) }
pushes x (Pusher.Sender t) most = sent x

undeep : (pusher : Pusher) (depth : ℕ) → depth ≡ 0 → DepthOfPusher depth pusher
undeep Pusher.Locker depth none = none
undeep (Pusher.Sender t) depth none = omega arith

grants : (x : SeatState) (carrier : Carrier) (r : Record) → x.depth ≡ 0 → Counts x.takes x.depth (granted x carrier r)
grants x Carrier.Locker r none = record { paid = omega arith; deep = (none, none) }
grants x (Carrier.Releaser releaser) r none = released x releaser (Unlocked.Granted r.seat) refl none
grants x (Carrier.Reclaimer releaser) r none = released x releaser (Unlocked.Granted r.seat) refl none
grants x Carrier.Sender r none = sent x

-- Entering, waking and refusals

enters : (x : SeatState) (entrant : Entrant) (how : How) → x.depth ≡ 0
    → Counts x.takes x.depth (record { seat = record x { point = Rest; depth = 1 }; turn = Ended (held entrant how) })
enters x Entrant.Locker how none = record { paid = omega arith; deep = (none, refl) }
enters x Entrant.Trier how none = record { paid = omega arith; deep = (none, refl) }
enters x Entrant.Receiver how none = record { paid = omega arith; deep = (none, refl) }

loads : (x : SeatState) (sleeper : Sleeper) (w : Wake) → x.depth ≡ 0 → Counts x.takes x.depth (receives x sleeper w)
loads x sleeper (Wake.Grant stamp) none = goes x (ReceiveWakeStore stamp)
loads x sleeper _ none = record { paid = omega arith; deep = (none, none) }

refunds : (x : SeatState) → 0 < x.takes → Counts x.takes x.depth (busy x)
refunds x some = record { paid = omega (arith, some); deep = refl }

claims_target : (x : SeatState) (t : ℕ) (w : Wake) → Counts x.takes x.depth (claims x t w)
claims_target x t Wake.Waiting = goes x (SendCountAdd t)
claims_target x t _ = record { paid = omega arith; deep = refl }

-- Points that need more of the state

idles : (c : Core) (s t : ℕ) (k : Option Kind) → k ≡ None → Counts (seat c.seats s).takes (seat c.seats s).depth (stepped_by c s t k)
idles c s t k none = rw none (record { paid = omega arith; deep = refl })

-- a seat that finds its number in the owner word holds
holds : (c : Core) (g : Ghost) (s : ℕ) → Fits c g → (seat c.seats s).point ≡ TryOwnerLoad → c.owner ≡ s → 0 < (seat c.seats s).depth
holds c g s fits at own =
    elim (cases_eq (seat c.seats s).depth 0) [
      | inl none ↦
          let is = seat_of_point c.seats s (λ rests. let f = sym at ∙ rests in cc) in
          let claims = rw (at, eq-eqb (seat c.seats s).depth 0 none) at (fits.each s).claims in
          absurd (owner_of-held g.place s is.above (sym fits.words.owner ∙ own) (sym claims))
      | inr some ↦ omega (arith, some)
    ]

tries_again : (c : Core) (g : Ghost) (s : ℕ) → Fits c g → (seat c.seats s).point ≡ TryOwnerLoad → Counts (seat c.seats s).takes (seat c.seats s).depth (stepped c s)
tries_again c g s fits at =
    elim (cases_eq c.owner s) [
      | inl own ↦ rw (at, at, eq-eqb c.owner s own) (record { paid = omega arith; deep = (holds c g s fits at own, refl, refl) })
      | inr other ↦ rw (at, at, ne_eqb c.owner s other) (goes (seat c.seats s) TryHandoffLoad)
    ]

-- All points

-- the point at which a release stores 0 in the owner word
abbrev pub gives_up_at : Point → Bool
gives_up_at (ReleaseOwnerStore releaser) = true
gives_up_at _ = false

pub step_counts : (c : Core) (g : Ghost) (s : ℕ) (p : Point) → Fits c g → (seat c.seats s).point ≡ p → gives_up_at p ≡ false → Counts (seat c.seats s).takes (seat c.seats s).depth (stepped c s)
step_counts c g s Rest fits at stays = idles c s (target (seat c.seats s).point s) (kind (seat c.seats s).point) (ap kind at)
step_counts c g s (Asleep sleeper) fits at stays = idles c s (target (seat c.seats s).point s) (kind (seat c.seats s).point) (ap kind at)
step_counts c g s LockCountAdd fits at stays = rw (at, at) (goes (seat c.seats s) (if nat_eq c.count 0 then EnterOwnerStore Entrant.Locker How.Free else LockOwnerLoad))
step_counts c g s LockOwnerLoad fits at stays = rw (at, at) (goes (seat c.seats s) (if nat_eq c.owner s then LockCountSubtract else PushLoad Pusher.Locker))
step_counts c g s LockCountSubtract fits at stays =
    let deep = rw at at (fits.each s).depth in
    rw (at, at) (record { paid = omega arith; deep = (deep.0, refl, refl) })
step_counts c g s TryCountExchange fits at stays = rw (at, at) (goes (seat c.seats s) (if nat_eq c.count 0 then EnterOwnerStore Entrant.Trier How.Free else TryOwnerLoad))
step_counts c g s TryOwnerLoad fits at stays = tries_again c g s fits at
step_counts c g s TryHandoffLoad fits at stays =
    let paid = rw at at (fits.each s).pushes in
    rw (at, at) (counts_if (seat c.seats s).takes (seat c.seats s).depth (nat_eq c.handoff.seat 0) (busy (seat c.seats s)) (goes_on (seat c.seats s) (TryHandoffExchange c.handoff))
    (refunds (seat c.seats s) (omega (arith, paid))) (goes (seat c.seats s) (TryHandoffExchange c.handoff)))
step_counts c g s (TryHandoffExchange seen) fits at stays =
    let paid = rw at at (fits.each s).pushes in
    rw (at, at) (counts_if (seat c.seats s).takes (seat c.seats s).depth (same_handoff c.handoff seen) (goes_on (seat c.seats s) TryCountAdd) (busy (seat c.seats s))
    (goes (seat c.seats s) TryCountAdd) (refunds (seat c.seats s) (omega (arith, paid))))
step_counts c g s TryCountAdd fits at stays = rw (at, at) (goes (seat c.seats s) (EnterOwnerStore Entrant.Trier How.Free))
step_counts c g s (SendWakeExchange t) fits at stays = rw (at, at) (claims_target (seat c.seats s) t (wake c.wakes t))
step_counts c g s (SendCountAdd t) fits at stays = rw (at, at) (goes (seat c.seats s) (if nat_eq c.count 0 then SendWakeStore t else PushLoad (Pusher.Sender t)))
step_counts c g s (SendPushRecheck t seen) fits at stays =
    rw (at, at) (counts_if (seat c.seats s).takes (seat c.seats s).depth (nat_eq c.push.next 0) (ends (seat c.seats s) Answer.Sent) (goes_on (seat c.seats s) (PushedHandoffExchange (Pusher.Sender t) seen))
    (sent (seat c.seats s)) (goes (seat c.seats s) (PushedHandoffExchange (Pusher.Sender t) seen)))
step_counts c g s (SendWakeStore t) fits at stays = rw (at, at) (sent (seat c.seats s))
step_counts c g s (PushLoad pusher) fits at stays = rw (at, at) (goes (seat c.seats s) (LinkStore pusher c.push))
step_counts c g s (LinkStore pusher seen) fits at stays = rw (at, at) (goes (seat c.seats s) (PushExchange pusher seen))
step_counts c g s (PushExchange pusher seen) fits at stays = rw (at, at) (goes (seat c.seats s) (if same_link c.push seen then PushedHandoffLoad pusher else LinkStore pusher c.push))
step_counts c g s (PushedHandoffLoad pusher) fits at stays =
    let deep = rw at at (fits.each s).depth in
    rw (at, at) (counts_if (seat c.seats s).takes (seat c.seats s).depth (nat_eq c.handoff.seat 0) (pushed (seat c.seats s) pusher) (goes_on (seat c.seats s) (found_posted pusher c.handoff))
    (pushes (seat c.seats s) pusher deep) (goes (seat c.seats s) (found_posted pusher c.handoff)))
step_counts c g s (PushedHandoffExchange pusher seen) fits at stays =
    let none = rw at at (fits.each s).depth in
    let next : Point = take (carrier_of pusher) s (oldest c.popped) in
    rw (at, at) (counts_if (seat c.seats s).takes (seat c.seats s).depth (same_handoff c.handoff seen) (goes_on (seat c.seats s) next) (pushed (seat c.seats s) pusher)
    (goes (seat c.seats s) next) (pushes (seat c.seats s) pusher (undeep pusher (seat c.seats s).depth none)))
step_counts c g s (ReleaseOwnerStore releaser) fits at stays = absurd (false≢true (sym stays))
step_counts c g s (ReleaseCountSubtract releaser) fits at stays =
    let none = rw at at (fits.each s).depth in
    let next : Point = take (Carrier.Releaser releaser) s (oldest c.popped) in
    rw (at, at) (counts_if (seat c.seats s).takes (seat c.seats s).depth (nat_eq c.count 1) (releases (seat c.seats s) releaser Unlocked.Free) (goes_on (seat c.seats s) next)
    (released (seat c.seats s) releaser Unlocked.Free refl none) (goes (seat c.seats s) next))
step_counts c g s (ReleaseHandoffStore releaser) fits at stays = rw (at, at) (record { paid = omega arith; deep = refl })
step_counts c g s (ReleasePushRecheck releaser) fits at stays =
    let none = rw at at (fits.each s).depth in
    rw (at, at) (counts_if (seat c.seats s).takes (seat c.seats s).depth (nat_eq c.push.next 0) (releases (seat c.seats s) releaser Unlocked.Posted) (goes_on (seat c.seats s) (ReleaseHandoffExchange releaser))
    (released (seat c.seats s) releaser Unlocked.Posted refl none) (goes (seat c.seats s) (ReleaseHandoffExchange releaser)))
step_counts c g s (ReleaseHandoffExchange releaser) fits at stays =
    let none = rw at at (fits.each s).depth in
    let next : Point = take (Carrier.Reclaimer releaser) s (oldest c.popped) in
    rw (at, at) (counts_if (seat c.seats s).takes (seat c.seats s).depth (same_handoff c.handoff (record { seat = s; post = (seat c.seats s).posts })) (goes_on (seat c.seats s) next)
    (releases (seat c.seats s) releaser Unlocked.TakenOver) (goes (seat c.seats s) next) (released (seat c.seats s) releaser Unlocked.TakenOver refl none))
step_counts c g s (WaitWakeStore answer) fits at stays =
    let none = rw at at (fits.each s).depth in
    rw (at, at) (record { paid = omega arith; deep = (none, none) })
step_counts c g s (TakeClearHead carrier) fits at stays = rw (at, at) (goes (seat c.seats s) (once_cleared carrier c.push.next))
step_counts c g s (TakeLinkLoad carrier next) fits at stays = rw (at, at) (goes (seat c.seats s) (if nat_eq (link c.links next).next 0 then serves carrier s (loaded next (link c.links next)) else TakeLinkLoad carrier (link c.links next).next))
step_counts c g s (GrantWakeStore carrier r) fits at stays = let none = rw at at (fits.each s).depth in rw (at, at) (grants (seat c.seats s) carrier r none)
step_counts c g s (EnterOwnerStore entrant how) fits at stays = let none = rw at at (fits.each s).depth in rw (at, at) (enters (seat c.seats s) entrant how none)
step_counts c g s (ReceiveWakeLoad sleeper) fits at stays =
    let none = rw at at (fits.each s).depth in
    rw (at, at) (loads (seat c.seats s) sleeper (wake c.wakes s) none)
step_counts c g s (ReceiveWakeStore stamp) fits at stays = rw (at, at) (goes (seat c.seats s) (EnterOwnerStore Entrant.Receiver (how_granted stamp)))
