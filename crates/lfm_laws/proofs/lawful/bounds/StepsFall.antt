-- What each kind of step does to a seat at each point: it ends the seat's call, or leaves it fewer steps.
use Rattle.std.proofs.Common.{◌≡◌, ℕ, suc, Bool, true, false, ◌+◌, ◌-◌, ◌≤◌, ◌<◌, Option, Some, None, nat_eq, if◌then◌else◌, refl, arith}
use Rattle.std.proofs.lemmas.Bool.{false≢true, eq-eqb}
use Rattle.lfm_protocol.specs.declared.points.Carrier.{Carrier}
use Rattle.lfm_protocol.specs.declared.points.Point.{Point}
use Rattle.lfm_protocol.specs.declared.points.Point.TheVariants.{LockCountAdd, LockOwnerLoad, TryCountExchange, TryOwnerLoad, TryHandoffLoad, TryHandoffExchange, TryCountAdd, SendWakeExchange, SendCountAdd, SendPushRecheck, PushLoad, LinkStore, PushExchange, PushedHandoffLoad, PushedHandoffExchange, ReleaseOwnerStore, ReleaseCountSubtract, ReleaseHandoffStore, ReleasePushRecheck, ReleaseHandoffExchange, TakeClearHead, TakeLinkLoad, GrantWakeStore, ReceiveWakeLoad, ReceiveWakeStore}
use Rattle.lfm_protocol.specs.declared.points.Pusher.{Pusher}
use Rattle.lfm_protocol.specs.declared.points.Releaser.{Releaser}
use Rattle.lfm_protocol.specs.declared.points.Releaser.TheVariants.{Unlocker, Waiter}
use Rattle.lfm_protocol.specs.declared.points.Sleeper.{Sleeper}
use Rattle.lfm_protocol.specs.declared.seats.SeatState.{SeatState}
use Rattle.lfm_model.specs.declared.answers.Unlocked.{Unlocked}
use Rattle.lfm_words.specs.declared.handoffs.Handoff.{Handoff}
use Rattle.lfm_words.specs.declared.links.Link.{Link}
use Rattle.lfm_words.specs.declared.pop_lists.Record.{Record}
use Rattle.lfm_words.specs.declared.wakes.Wake.{Wake}
use Rattle.lfm_words.specs.declared.wakes.Wake.TheVariants.{Grant}
use Rattle.lfm_protocol.specs.After.{same_link, releases, pushed, granted, found_posted, carrier_of, serves, take, once_cleared, receives, claims, loaded, drops_oldest_at, after_count_exchange_at, after_count_add_at, after_count_subtract_at, after_owner_load_at, after_owner_store_at, after_push_load_at, after_push_exchange_at, after_clear_head_at, after_link_load_at, after_link_store_at, after_handoff_load_at, after_handoff_store_at, after_handoff_exchange_at, after_wake_load_at, after_wake_store_at, after_wake_exchange_at}
use Rattle.lfm_protocol.specs.Stores.{expected_push_at}
use Rattle.lfm_protocol.specs.Begin.{Stepped}
use Rattle.lfm_protocol.specs.Core.{Core, drops_if}
use Rattle.lfm_protocol.specs.Turns.{is_open}
use Rattle.lfm_laws.proofs.lawful.bounds.StepsLeft.{again_unless, left_of_carrier, left_at}
use Rattle.lfm_laws.proofs.lawful.bounds.CallWeights.{room_left}

-- if the seat's call goes on after the step, it has fewer steps left than this
abbrev pub Lower : Link → ℕ → ℕ → Stepped → Type 0
Lower push room most m = is_open m.turn ≡ true → left_at push room m.seat.point < most

-- What several steps share

either_point : (push : Link) (room most : ℕ) (test : Bool) (p q : Point) → left_at push room p < most → left_at push room q < most
    → left_at push room (if test then p else q) < most
either_point push room most true p q first second = first
either_point push room most false p q first second = second

either : (push : Link) (room most : ℕ) (test : Bool) (m n : Stepped) → Lower push room most m → Lower push room most n
    → Lower push room most (if test then m else n)
either push room most true m n first second = first
either push room most false m n first second = second

releases_lower : (push : Link) (room most : ℕ) (x : SeatState) (releaser : Releaser) (answer : Unlocked) → 1 < most
    → Lower push room most (releases x releaser answer)
releases_lower push room most x Unlocker answer some goes = absurd (false≢true goes)
releases_lower push room most x Waiter answer some goes = some

pushed_lower : (push : Link) (room most : ℕ) (x : SeatState) (pusher : Pusher) → Lower push room most (pushed x pusher)
pushed_lower push room most x Pusher.Locker goes = absurd (false≢true goes)
pushed_lower push room most x (Pusher.Sender t) goes = absurd (false≢true goes)

granted_lower : (push : Link) (room : ℕ) (x : SeatState) (carrier : Carrier) (r : Record) → Lower push room 2 (granted x carrier r)
granted_lower push room x Carrier.Locker r goes = absurd (false≢true goes)
granted_lower push room x (Carrier.Releaser releaser) r goes = releases_lower push room 2 x releaser _ (omega arith) goes
granted_lower push room x (Carrier.Reclaimer releaser) r goes = releases_lower push room 2 x releaser _ (omega arith) goes
granted_lower push room x Carrier.Sender r goes = absurd (false≢true goes)

serves-le : (push : Link) (room : ℕ) (carrier : Carrier) (s : ℕ) (r : Record) → left_at push room (serves carrier s r) < 3
serves-le push room Carrier.Locker s r = either_point push room 3 (nat_eq r.seat s) _ _ (omega arith) (omega arith)
serves-le push room (Carrier.Releaser releaser) s r = omega arith
serves-le push room (Carrier.Reclaimer releaser) s r = omega arith
serves-le push room Carrier.Sender s r = omega arith

some_left : (room : ℕ) (carrier : Carrier) → 2 < left_of_carrier room carrier
some_left room (Carrier.Releaser releaser) = omega arith
some_left room _ = omega arith

take-le : (push : Link) (room : ℕ) (carrier : Carrier) (s : ℕ) (first : Option Record) → left_at push room (take carrier s first) ≤ left_of_carrier room carrier
take-le push room carrier s None = omega arith
take-le push room carrier s (Some r) = omega (arith, serves-le push room carrier s r, some_left room carrier)

-- By kinds: at each point, the step leaves fewer steps than the point had

pub count_exchange_lower : (push : Link) (room : ℕ) (x : SeatState) (found : ℕ) (p : Point) → Lower push room (left_at push room p) (after_count_exchange_at x found p)
count_exchange_lower push room x found TryCountExchange goes = either_point push room 6 (nat_eq found 0) _ _ (omega arith) (omega arith)
count_exchange_lower push room x found _ goes = absurd (false≢true goes)

pub count_add_lower : (push : Link) (room : ℕ) (x : SeatState) (found : ℕ) (p : Point) → Lower push room (left_at push room p) (after_count_add_at x found p)
count_add_lower push room x found LockCountAdd goes = either_point push room (room + 11) (nat_eq found 0) _ _ (omega arith) (omega arith)
count_add_lower push room x found TryCountAdd goes = omega arith
count_add_lower push room x found (SendCountAdd t) goes = either_point push room (room + 10) (nat_eq found 0) _ _ (omega arith) (omega arith)
count_add_lower push room x found _ goes = absurd (false≢true goes)

pub count_subtract_lower : (push : Link) (room : ℕ) (x : SeatState) (s found : ℕ) (first : Option Record) (p : Point)
    → Lower push room (left_at push room p) (after_count_subtract_at x s found first p)
count_subtract_lower push room x s found first (ReleaseCountSubtract releaser) goes =
    either push room (room + 8) (nat_eq found 1) _ _ (releases_lower push room (room + 8) x releaser Unlocked.Free (omega arith))
    (λ more. omega (arith, take-le push room (Carrier.Releaser releaser) s first)) goes
count_subtract_lower push room x s found first _ goes = absurd (false≢true goes)

pub owner_load_lower : (push : Link) (room : ℕ) (x : SeatState) (s found : ℕ) (p : Point) → Lower push room (left_at push room p) (after_owner_load_at x s found p)
owner_load_lower push room x s found LockOwnerLoad goes = either_point push room (room + 10) (nat_eq found s) _ _ (omega arith) (omega arith)
owner_load_lower push room x s found TryOwnerLoad goes =
    either push room 5 (nat_eq found s) _ _ (λ own. absurd (false≢true own)) (λ other. omega arith) goes
owner_load_lower push room x s found _ goes = absurd (false≢true goes)

pub owner_store_lower : (c : Core) (x : SeatState) (p : Point) → Lower c.push (room_left (drops_if c (drops_oldest_at p))) (left_at c.push (room_left c) p) (after_owner_store_at x p)
owner_store_lower c x (ReleaseOwnerStore releaser) goes = omega arith
owner_store_lower c x _ goes = absurd (false≢true goes)

-- a link is the same as itself, so one stored for the present push word fits it
pub same_link_self : (l : Link) → same_link l l ≡ true
same_link_self l = rw (eq-eqb l.stamp l.stamp refl, eq-eqb l.next l.next refl) refl

link_store-le : (push : Link) (room : ℕ) (pusher : Pusher) → left_at push room (LinkStore pusher push) ≤ room + 8
link_store-le push room pusher = rw (same_link_self push) (omega arith)

pub push_load_lower : (push : Link) (room : ℕ) (x : SeatState) (p : Point) → Lower push room (left_at push room p) (after_push_load_at x push p)
push_load_lower push room x (PushLoad pusher) goes = omega (arith, link_store-le push room pusher)
push_load_lower push room x (SendPushRecheck t seen) goes =
    either push room (room + 5) (nat_eq push.next 0) _ _ (λ none. absurd (false≢true none)) (λ some. omega arith) goes
push_load_lower push room x (ReleasePushRecheck releaser) goes =
    either push room (room + 5) (nat_eq push.next 0) _ _ (releases_lower push room (room + 5) x releaser Unlocked.Posted (omega arith)) (λ some. omega arith) goes
push_load_lower push room x _ goes = absurd (false≢true goes)

-- an exchange that fails leaves the push word unchanged, and the link is then stored for that word
exchange_lower : (push other : Link) (room : ℕ) (pusher : Pusher) (seen : Link) (same : Bool) → same_link push seen ≡ same
    → left_at (if same then other else push) room (if same then PushedHandoffLoad pusher else LinkStore pusher push) < room + 7 + again_unless same
exchange_lower push other room pusher seen true found = omega arith
exchange_lower push other room pusher seen false found = omega (arith, link_store-le push room pusher)

pub push_exchange_lower : (push other : Link) (room : ℕ) (x : SeatState) (p : Point)
    → Lower (if same_link push (expected_push_at p) then other else push) room (left_at push room p) (after_push_exchange_at x push p)
push_exchange_lower push other room x (PushExchange pusher seen) goes = exchange_lower push other room pusher seen (same_link push seen) refl
push_exchange_lower push other room x _ goes = absurd (false≢true goes)

cleared_lower : (after : Link) (room : ℕ) (carrier : Carrier) (head : ℕ) → left_at after room (once_cleared carrier head) < left_of_carrier room carrier
cleared_lower after room (Carrier.Releaser releaser) head = either_point after room (room + 7) (nat_eq head 0) _ _ (omega arith) (omega arith)
cleared_lower after room carrier head = omega arith

pub clear_head_lower : (push after : Link) (room : ℕ) (x : SeatState) (p : Point) → Lower after room (left_at push room p) (after_clear_head_at x push p)
clear_head_lower push after room x (TakeClearHead carrier) goes = cleared_lower after room carrier push.next
clear_head_lower push after room x _ goes = absurd (false≢true goes)

-- a record is added to the pop list
pub link_load_lower : (push : Link) (seats popped : ℕ) (x : SeatState) (s : ℕ) (found : Link) (p : Point) → popped < seats
    → Lower push (seats - suc popped) (left_at push (seats - popped) p) (after_link_load_at x s found p)
link_load_lower push seats popped x s found (TakeLinkLoad carrier next) within goes =
    either_point push (seats - suc popped) (seats - popped + 2) (nat_eq found.next 0) _ _
    (omega (arith, serves-le push (seats - suc popped) carrier s (loaded next found))) (omega arith)
link_load_lower push seats popped x s found _ within goes = absurd (false≢true goes)

pub link_store_lower : (push : Link) (room : ℕ) (x : SeatState) (p : Point) → Lower push room (left_at push room p) (after_link_store_at x p)
link_store_lower push room x (LinkStore pusher seen) goes = omega arith
link_store_lower push room x _ goes = absurd (false≢true goes)

found_posted-le : (push : Link) (room : ℕ) (pusher : Pusher) (found : Handoff) → left_at push room (found_posted pusher found) < room + 6
found_posted-le push room Pusher.Locker found = omega arith
found_posted-le push room (Pusher.Sender t) found = omega arith

pub handoff_load_lower : (push : Link) (room : ℕ) (x : SeatState) (found : Handoff) (p : Point) → Lower push room (left_at push room p) (after_handoff_load_at x found p)
handoff_load_lower push room x found (PushedHandoffLoad pusher) goes =
    either push room (room + 6) (nat_eq found.seat 0) _ _ (pushed_lower push room (room + 6) x pusher) (λ some. found_posted-le push room pusher found) goes
handoff_load_lower push room x found TryHandoffLoad goes =
    either push room 4 (nat_eq found.seat 0) _ _ (λ none. absurd (false≢true none)) (λ some. omega arith) goes
handoff_load_lower push room x found _ goes = absurd (false≢true goes)

pub handoff_store_lower : (push : Link) (room : ℕ) (x : SeatState) (p : Point) → Lower push room (left_at push room p) (after_handoff_store_at x p)
handoff_store_lower push room x (ReleaseHandoffStore releaser) goes = omega arith
handoff_store_lower push room x _ goes = absurd (false≢true goes)

left_of_pusher : (room : ℕ) (pusher : Pusher) → left_of_carrier room (carrier_of pusher) ≡ room + 3
left_of_pusher room Pusher.Locker = refl
left_of_pusher room (Pusher.Sender t) = refl

pub handoff_exchange_lower : (push : Link) (room : ℕ) (x : SeatState) (s : ℕ) (succeeded : Bool) (first : Option Record) (p : Point)
    → Lower push room (left_at push room p) (after_handoff_exchange_at x s succeeded first p)
handoff_exchange_lower push room x s succeeded first (PushedHandoffExchange pusher seen) goes =
    either push room (room + 4) succeeded _ _ (λ won. omega (arith, take-le push room (carrier_of pusher) s first, left_of_pusher room pusher))
    (pushed_lower push room (room + 4) x pusher) goes
handoff_exchange_lower push room x s succeeded first (TryHandoffExchange seen) goes =
    either push room 3 succeeded _ _ (λ won. omega arith) (λ lost. absurd (false≢true lost)) goes
handoff_exchange_lower push room x s succeeded first (ReleaseHandoffExchange releaser) goes =
    either push room (room + 4) succeeded _ _ (λ won. omega (arith, take-le push room (Carrier.Reclaimer releaser) s first))
    (releases_lower push room (room + 4) x releaser Unlocked.TakenOver (omega arith)) goes
handoff_exchange_lower push room x s succeeded first _ goes = absurd (false≢true goes)

receives_lower : (push : Link) (room : ℕ) (x : SeatState) (sleeper : Sleeper) (found : Wake) → Lower push room 3 (receives x sleeper found)
receives_lower push room x sleeper (Grant stamp) goes = omega arith
receives_lower push room x sleeper _ goes = absurd (false≢true goes)

pub wake_load_lower : (push : Link) (room : ℕ) (x : SeatState) (found : Wake) (p : Point) → Lower push room (left_at push room p) (after_wake_load_at x found p)
wake_load_lower push room x found (ReceiveWakeLoad sleeper) goes = receives_lower push room x sleeper found goes
wake_load_lower push room x found _ goes = absurd (false≢true goes)

-- whatever the step removes from the pop list
pub wake_store_lower : (push : Link) (room room_after : ℕ) (x : SeatState) (p : Point) → Lower push room_after (left_at push room p) (after_wake_store_at x p)
wake_store_lower push room room_after x (GrantWakeStore carrier r) goes = granted_lower push room_after x carrier r goes
wake_store_lower push room room_after x (ReceiveWakeStore stamp) goes = omega arith
wake_store_lower push room room_after x _ goes = absurd (false≢true goes)

claims_lower : (push : Link) (room : ℕ) (x : SeatState) (t : ℕ) (found : Wake) → Lower push room (room + 11) (claims x t found)
claims_lower push room x t Wake.Waiting goes = omega arith
claims_lower push room x t _ goes = absurd (false≢true goes)

pub wake_exchange_lower : (push : Link) (room : ℕ) (x : SeatState) (found : Wake) (p : Point) → Lower push room (left_at push room p) (after_wake_exchange_at x found p)
wake_exchange_lower push room x found (SendWakeExchange t) goes = claims_lower push room x t found goes
wake_exchange_lower push room x found _ goes = absurd (false≢true goes)
