-- Each step of a release lowers a measure of its point, an upper bound on the steps that are left: the releaser is apart from
-- the queue, so it collects at most one record of each other seat.
use Rattle.std.proofs.Common.{◌≡◌, ℕ, Bool, true, false, ◌+◌, ◌-◌, ◌≤◌, ◌<◌, Option, Some, None, ◌∷◌, length, nat_eq, refl, sym, arith, inl, inr, if◌then◌else◌}
use Rattle.std.proofs.lemmas.Bool.{cases_Bool, false≢true}
use Rattle.lfm_model.specs.declared.answers.Unlocked.{Unlocked}
use Rattle.lfm_protocol.specs.declared.points.Carrier.{Carrier}
use Rattle.lfm_protocol.specs.declared.points.Point.{Point}
use Rattle.lfm_protocol.specs.declared.points.Point.TheVariants.{Rest, Asleep, ReleaseOwnerStore, ReleaseCountSubtract, ReleaseHandoffStore, ReleasePushRecheck, ReleaseHandoffExchange, WaitWakeStore, TakeClearHead, TakeLinkLoad, GrantWakeStore}
use Rattle.lfm_protocol.specs.declared.points.Releaser.{Releaser}
use Rattle.lfm_protocol.specs.declared.points.Releaser.TheVariants.{Unlocker, Waiter}
use Rattle.lfm_protocol.specs.declared.seats.SeatState.{SeatState}
use Rattle.lfm_model.specs.declared.answers.Unlocked.TheVariants.{Free, Granted, Posted, TakenOver}
use Rattle.lfm_words.specs.declared.pop_lists.Record.{Record}
use Rattle.lfm_words.specs.Popped.{oldest}
use Rattle.lfm_protocol.specs.After.{releases, granted, take, loaded, same_handoff, once_cleared, serves}
use Rattle.lfm_protocol.specs.Begin.{Stepped, goes_on}
use Rattle.lfm_protocol.specs.Core.{Core}
use Rattle.lfm_laws.specs.steady.Ghost.{Standing, apart, Ghost}
use Rattle.lfm_laws.specs.laws.Schedules.{is_call}
use Rattle.lfm_protocol.specs.Seats.{seat, link, IsSeat}
use Rattle.lfm_laws.specs.steady.Steady.{StandsAsCarrier, queued_unit, Fits}
use Rattle.lfm_protocol.specs.Step.{made}
use Rattle.lfm_laws.specs.steady.Views.{waits_on}
use Rattle.lfm_laws.proofs.lawful.bounds.CallWeights.{is_walking, Falls}
use Rattle.lfm_laws.proofs.lawful.bounds.Leaving.{stepped, seat_of_call}
use Rattle.lfm_laws.proofs.steady.frames.Sums.{sum_bound_less}
use Rattle.lfm_laws.proofs.steady.Room.{queued_unit-le}

-- The points of a release

abbrev pub is_releasing : Carrier → Bool
is_releasing (Carrier.Releaser releaser) = true
is_releasing (Carrier.Reclaimer releaser) = true
is_releasing _ = false

-- a point of unlock or start_wait, or one at which it has ended
abbrev pub among_release : Point → Bool
among_release Rest = true
among_release (Asleep sleeper) = true
among_release (ReleaseOwnerStore releaser) = true
among_release (ReleaseCountSubtract releaser) = true
among_release (ReleaseHandoffStore releaser) = true
among_release (ReleasePushRecheck releaser) = true
among_release (ReleaseHandoffExchange releaser) = true
among_release (WaitWakeStore released) = true
among_release (TakeClearHead carrier) = is_releasing carrier
among_release (TakeLinkLoad carrier next) = is_releasing carrier
among_release (GrantWakeStore carrier r) = is_releasing carrier
among_release _ = false

-- the step of a start_wait after its release
abbrev pub wait_of : Carrier → ℕ
wait_of (Carrier.Releaser releaser) = waits_on releaser
wait_of (Carrier.Reclaimer releaser) = waits_on releaser
wait_of _ = 0

abbrev pub steps_from_clear : ℕ → Carrier → ℕ
steps_from_clear seats (Carrier.Releaser releaser) = seats + 5 + waits_on releaser
steps_from_clear seats (Carrier.Reclaimer releaser) = seats + 1 + waits_on releaser
steps_from_clear seats _ = 0

-- an upper bound on the steps of a release at this point, with this much room in the pop list
abbrev pub steps_left : ℕ → ℕ → Point → ℕ
steps_left seats room (ReleaseOwnerStore releaser) = seats + 7 + waits_on releaser
steps_left seats room (ReleaseCountSubtract releaser) = seats + 6 + waits_on releaser
steps_left seats room (TakeClearHead carrier) = steps_from_clear seats carrier
steps_left seats room (ReleaseHandoffStore releaser) = seats + 4 + waits_on releaser
steps_left seats room (ReleasePushRecheck releaser) = seats + 3 + waits_on releaser
steps_left seats room (ReleaseHandoffExchange releaser) = seats + 2 + waits_on releaser
steps_left seats room (TakeLinkLoad carrier next) = room + wait_of carrier
steps_left seats room (GrantWakeStore carrier r) = 1 + wait_of carrier
steps_left seats room (WaitWakeStore released) = 1
steps_left seats room _ = 0

steps_left_unread : (seats room room' : ℕ) (p : Point) → is_walking p ≡ false → steps_left seats room p ≡ steps_left seats room' p
steps_left_unread seats room room' (TakeLinkLoad carrier next) walks = absurd (false≢true (sym walks))
steps_left_unread seats room room' _ walks = refl

-- The point after a step

-- a point of a release with at most this number of steps left
abbrev pub Within : ℕ → ℕ → ℕ → Point → Type 0
Within seats room steps p = (among_release p ≡ true) × (steps_left seats room p ≤ steps)

of_points : (seats room steps : ℕ) (b : Bool) (p q : Point) → Within seats room steps p → Within seats room steps q → Within seats room steps (if b then p else q)
of_points seats room steps true p q first second = first
of_points seats room steps false p q first second = second

pub of_turns : (seats room steps : ℕ) (b : Bool) (x y : Stepped) → Within seats room steps x.seat.point → Within seats room steps y.seat.point
    → Within seats room steps (if b then x else y).seat.point
of_turns seats room steps true x y first second = first
of_turns seats room steps false x y first second = second

of_release : (seats room steps : ℕ) (x : SeatState) (releaser : Releaser) (answer : Unlocked) → waits_on releaser ≤ steps
    → Within seats room steps (releases x releaser answer).seat.point
of_release seats room steps x Unlocker answer most = (refl, omega arith)
of_release seats room steps x Waiter answer most = (refl, omega (arith, most))

of_take : (seats room : ℕ) (releaser : Releaser) (s : ℕ) (r : Option Record)
    → Within seats room (seats + 5 + waits_on releaser) (take (Carrier.Releaser releaser) s r)
of_take seats room releaser s None = (refl, omega arith)
of_take seats room releaser s (Some r) = (refl, omega arith)

of_retake : (seats room : ℕ) (releaser : Releaser) (s : ℕ) (r : Option Record)
    → Within seats room (seats + 1 + waits_on releaser) (take (Carrier.Reclaimer releaser) s r)
of_retake seats room releaser s None = (refl, omega arith)
of_retake seats room releaser s (Some r) = (refl, omega arith)

of_serves : (seats room steps : ℕ) (carrier : Carrier) (s : ℕ) (r : Record) → is_releasing carrier ≡ true → 1 + wait_of carrier ≤ steps
    → Within seats room steps (serves carrier s r)
of_serves seats room steps Carrier.Locker s r releasing most = absurd (false≢true releasing)
of_serves seats room steps (Carrier.Releaser releaser) s r releasing most = (refl, omega (arith, most))
of_serves seats room steps (Carrier.Reclaimer releaser) s r releasing most = (refl, omega (arith, most))
of_serves seats room steps Carrier.Sender s r releasing most = absurd (false≢true releasing)

of_grant : (seats room steps : ℕ) (x : SeatState) (carrier : Carrier) (r : Record) → is_releasing carrier ≡ true → wait_of carrier ≤ steps
    → Within seats room steps (granted x carrier r).seat.point
of_grant seats room steps x Carrier.Locker r releasing most = absurd (false≢true releasing)
of_grant seats room steps x (Carrier.Releaser releaser) r releasing most = of_release seats room steps x releaser (Granted r.seat) most
of_grant seats room steps x (Carrier.Reclaimer releaser) r releasing most = of_release seats room steps x releaser (Granted r.seat) most
of_grant seats room steps x Carrier.Sender r releasing most = absurd (false≢true releasing)

of_cleared : (seats room : ℕ) (carrier : Carrier) (head : ℕ) → is_releasing carrier ≡ true → room ≤ seats → (steps : ℕ) → steps + 1 ≡ steps_from_clear seats carrier
    → Within seats room steps (once_cleared carrier head)
of_cleared seats room Carrier.Locker head releasing few steps most = absurd (false≢true releasing)
of_cleared seats room (Carrier.Releaser releaser) head releasing few steps most =
    of_points seats room steps (nat_eq head 0) (ReleaseHandoffStore releaser) (TakeLinkLoad (Carrier.Releaser releaser) head) (refl, omega (arith, most))
    (refl, omega (arith, few, most))
of_cleared seats room (Carrier.Reclaimer releaser) head releasing few steps most = (refl, omega (arith, few, most))
of_cleared seats room Carrier.Sender head releasing few steps most = absurd (false≢true releasing)

clears : (seats : ℕ) (carrier : Carrier) → is_releasing carrier ≡ true → (steps : ℕ) × (steps + 1 ≡ steps_from_clear seats carrier)
clears seats Carrier.Locker releasing = absurd (false≢true releasing)
clears seats (Carrier.Releaser releaser) releasing = (seats + 4 + waits_on releaser, omega arith)
clears seats (Carrier.Reclaimer releaser) releasing = (seats + waits_on releaser, omega arith)
clears seats Carrier.Sender releasing = absurd (false≢true releasing)

-- Every step lowers the measure

-- a step leads to a point of the release with fewer steps left than this
abbrev pub Lowers : ℕ → ℕ → ℕ → Point → Type 0
Lowers seats room steps p = (among_release p ≡ true) × (1 + steps_left seats room p ≤ steps)

lowers : (seats room less steps : ℕ) (p : Point) → Within seats room less p → less + 1 ≤ steps → Lowers seats room steps p
lowers seats room less steps p within most = (within.0, let few = within.1 in omega (arith, few, most))

-- every step except a link load, whatever the room of the pop list before it
at_point : (c : Core) (s room before : ℕ) (p : Point) → (seat c.seats s).point ≡ p → among_release p ≡ true → is_call p ≡ true → is_walking p ≡ false
    → room ≤ length c.seats → Lowers (length c.seats) room (steps_left (length c.seats) before p) (stepped c s).seat.point
at_point c s room before (ReleaseOwnerStore releaser) at among inside walks few = rw (at, at) (refl, omega arith)
at_point c s room before (ReleaseCountSubtract releaser) at among inside walks few =
    rw (at, at)
    (lowers (length c.seats) room (length c.seats + 5 + waits_on releaser) _ _
    (of_turns (length c.seats) room (length c.seats + 5 + waits_on releaser) (nat_eq c.count 1) (releases (seat c.seats s) releaser Free)
    (goes_on (seat c.seats s) (take (Carrier.Releaser releaser) s (oldest c.popped)))
    (of_release (length c.seats) room (length c.seats + 5 + waits_on releaser) (seat c.seats s) releaser Free (omega arith))
    (of_take (length c.seats) room releaser s (oldest c.popped))) (omega arith))
at_point c s room before (ReleaseHandoffStore releaser) at among inside walks few = rw (at, at) (refl, omega arith)
at_point c s room before (ReleasePushRecheck releaser) at among inside walks few =
    rw (at, at)
    (lowers (length c.seats) room (length c.seats + 2 + waits_on releaser) _ _
    (of_turns (length c.seats) room (length c.seats + 2 + waits_on releaser) (nat_eq c.push.next 0) (releases (seat c.seats s) releaser Posted)
    (goes_on (seat c.seats s) (ReleaseHandoffExchange releaser))
    (of_release (length c.seats) room (length c.seats + 2 + waits_on releaser) (seat c.seats s) releaser Posted (omega arith))
    (refl, omega arith)) (omega arith))
at_point c s room before (ReleaseHandoffExchange releaser) at among inside walks few =
    rw (at, at)
    (lowers (length c.seats) room (length c.seats + 1 + waits_on releaser) _ _
    (of_turns (length c.seats) room (length c.seats + 1 + waits_on releaser) (same_handoff c.handoff (record { seat = s; post = (seat c.seats s).posts }))
    (goes_on (seat c.seats s) (take (Carrier.Reclaimer releaser) s (oldest c.popped))) (releases (seat c.seats s) releaser TakenOver)
    (of_retake (length c.seats) room releaser s (oldest c.popped))
    (of_release (length c.seats) room (length c.seats + 1 + waits_on releaser) (seat c.seats s) releaser TakenOver (omega arith))) (omega arith))
at_point c s room before (WaitWakeStore released) at among inside walks few = rw (at, at) (refl, omega arith)
at_point c s room before (TakeClearHead carrier) at among inside walks few =
    let all = clears (length c.seats) carrier among in
    let one = all.1 in
    rw (at, at)
    (lowers (length c.seats) room all.0 _ (once_cleared carrier c.push.next) (of_cleared (length c.seats) room carrier c.push.next among few all.0 one) (omega (arith, one)))
at_point c s room before (GrantWakeStore carrier r) at among inside walks few =
    rw (at, at) (lowers (length c.seats) room (wait_of carrier) _ _ (of_grant (length c.seats) room (wait_of carrier) (seat c.seats s) carrier r among (omega arith)) (omega arith))
at_point c s room before (TakeLinkLoad carrier next) at among inside walks few = absurd (false≢true (sym walks))
at_point c s room before Rest at among inside walks few = absurd (false≢true inside)
at_point c s room before (Asleep sleeper) at among inside walks few = absurd (false≢true inside)
at_point c s room before _ at among inside walks few = absurd (false≢true among)

-- Collecting

-- a releaser that collects is apart from the queue, so the pop list has at most two records fewer than there are seats
pub walk_room : (c : Core) (g : Ghost) (s : ℕ) → Fits c g → IsSeat c.seats s → g.standing s ≡ apart → 0 < g.walk → length c.popped + 2 ≤ length c.seats
walk_room c g s fits is stands some =
    let none : queued_unit (g.standing s) + 1 ≤ 1 = rw stands (omega arith) in
    let most = sum_bound_less (length c.seats) 1 s (λ t. queued_unit (g.standing t)) is.above is.within (λ t. queued_unit-le (g.standing t)) none in
    omega (arith, most, fits.sums.queued, fits.words.parts, some)

stands_apart : (standing : Standing) (carrier : Carrier) → is_releasing carrier ≡ true → StandsAsCarrier standing carrier → standing ≡ apart
stands_apart standing Carrier.Locker releasing stands = absurd (false≢true releasing)
stands_apart standing (Carrier.Releaser releaser) releasing stands = stands
stands_apart standing (Carrier.Reclaimer releaser) releasing stands = stands
stands_apart standing Carrier.Sender releasing stands = stands

-- after a link load the pop list has room for one record fewer
of_walked : (seats room : ℕ) (carrier : Carrier) (s next : ℕ) (r : Record) → is_releasing carrier ≡ true → 1 ≤ room
    → Within seats room (room + wait_of carrier) (if nat_eq next 0 then serves carrier s r else TakeLinkLoad carrier next)
of_walked seats room carrier s next r releasing some =
    of_points seats room (room + wait_of carrier) (nat_eq next 0) (serves carrier s r) (TakeLinkLoad carrier next)
    (of_serves seats room (room + wait_of carrier) carrier s r releasing (omega (arith, some))) (releasing, omega arith)

at_walk : (c : Core) (s : ℕ) (carrier : Carrier) (next : ℕ) → (seat c.seats s).point ≡ TakeLinkLoad carrier next → is_releasing carrier ≡ true
    → length c.popped + 2 ≤ length c.seats
    → Lowers (length c.seats) (length c.seats - length (made c s).core.popped) (length c.seats - length c.popped + wait_of carrier) (stepped c s).seat.point
at_walk c s carrier next at releasing few =
    let r = loaded next (link c.links next) in
    let one_less : 1 + (length c.seats - length (r ∷ c.popped)) ≡ length c.seats - length c.popped = omega (arith, few) in
    rw (at, at)
    (lowers (length c.seats) _ (length c.seats - length (r ∷ c.popped) + wait_of carrier) _ _
    (of_walked (length c.seats) (length c.seats - length (r ∷ c.popped)) carrier s (link c.links next).next r releasing (omega (arith, one_less, few)))
    (omega (arith, one_less)))

walks_lower : (c : Core) (g : Ghost) (s : ℕ) (p : Point) → (seat c.seats s).point ≡ p → Fits c g → among_release p ≡ true → is_walking p ≡ true
    → Lowers (length c.seats) (length c.seats - length (made c s).core.popped) (steps_left (length c.seats) (length c.seats - length c.popped) p) (stepped c s).seat.point
walks_lower c g s (TakeLinkLoad carrier next) at fits among walks =
    let here = fits.each s in
    let some : 0 < g.walk = (rw at at here.knows).0 in
    let stands = stands_apart (g.standing s) carrier among (rw at at here.stands) in
    at_walk c s carrier next at among (walk_room c g s fits (seat_of_call c s (rw at refl)) stands some)
walks_lower c g s _ at fits among walks = absurd (false≢true walks)

pub steps_fall : Falls (λ p. 1) steps_left among_release
steps_fall =
    record {
      unread = steps_left_unread;
      lower = λ c g s fits inside among.
          elim (cases_Bool (is_walking (seat c.seats s).point)) [
            | inl walks ↦ walks_lower c g s (seat c.seats s).point refl fits among walks
            | inr stands ↦
                at_point c s (length c.seats - length (made c s).core.popped) (length c.seats - length c.popped) (seat c.seats s).point refl among inside stands (omega arith)
          ];
    }
