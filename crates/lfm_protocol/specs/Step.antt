-- The turns of a whole state: the operation of the kind on its word, followed by the seat's own step.
use Rattle.std.specs.Prelude.{ℕ, ◌+◌, ◌-◌, Option, Some, None, [], replicate, nat_eq, if◌then◌else◌}
use Rattle.lfm_protocol.specs.declared.answers.Call.{Call}
use Rattle.lfm_protocol.specs.declared.answers.Why.TheVariants.{NoSuchSeat, Idle}
use Rattle.lfm_protocol.specs.declared.kinds.Kind.{Kind}
use Rattle.lfm_protocol.specs.declared.limits.Limits.{Limits}
use Rattle.lfm_words.specs.declared.wakes.Wake.{Wake}
use Rattle.lfm_words.specs.declared.wakes.Wake.TheVariants.{Quiet, Waiting, Claimed}
use Rattle.lfm_protocol.specs.After.{after_count_exchange, after_count_add, after_count_subtract, after_owner_load, after_owner_store, after_push_load, after_push_exchange, after_clear_head, after_link_load, after_link_store, after_handoff_load, after_handoff_store, after_handoff_exchange, after_wake_load, after_wake_store, after_wake_exchange, drops_oldest, loaded, same_link, same_handoff}
use Rattle.lfm_protocol.specs.Begin as Begin
use Rattle.lfm_protocol.specs.Core.{Core, Moved, limits, put_link, put_wake, refused, moves, adds_older, drops_if}
use Rattle.lfm_protocol.specs.Points.{kind, target}
use Rattle.lfm_words.specs.Popped.{oldest}
use Rattle.lfm_protocol.specs.Seats.{seat, link, wake, absent, no_link, unposted, is_seat}
use Rattle.lfm_protocol.specs.Stores.{stored_owner, stored_link, expected_push, exchanged_push, stored_handoff, expected_handoff, stored_wake}

-- The kinds: one step of seat s; t is the seat whose link or wake word is accessed

abbrev pub count_exchange : Core → ℕ → Moved
count_exchange c s =
    moves (record c { count = if nat_eq c.count 0 then 1 else c.count }) s (after_count_exchange (seat c.seats s) c.count)

abbrev pub count_add : Core → ℕ → Moved
count_add c s = moves (record c { count = c.count + 1 }) s (after_count_add (seat c.seats s) c.count)

abbrev pub count_subtract : Core → ℕ → Moved
count_subtract c s =
    moves (record c { count = c.count - 1 }) s (after_count_subtract (seat c.seats s) s c.count (oldest c.popped))

abbrev pub owner_load : Core → ℕ → Moved
owner_load c s = moves c s (after_owner_load (seat c.seats s) s c.owner)

abbrev pub owner_store : Core → ℕ → Moved
owner_store c s =
    moves (drops_if (record c { owner = stored_owner (seat c.seats s) s }) (drops_oldest (seat c.seats s))) s
    (after_owner_store (seat c.seats s))

abbrev pub push_load : Core → ℕ → Moved
push_load c s = moves c s (after_push_load (seat c.seats s) c.push)

abbrev pub push_exchange : Core → ℕ → Moved
push_exchange c s =
    moves (record c { push = if same_link c.push (expected_push (seat c.seats s)) then exchanged_push (seat c.seats s) s else c.push }) s
    (after_push_exchange (seat c.seats s) c.push)

abbrev pub clear_head : Core → ℕ → Moved
clear_head c s =
    moves (record c { push = record { stamp = c.push.stamp; next = 0 } }) s (after_clear_head (seat c.seats s) c.push)

abbrev pub link_load_of : Core → ℕ → ℕ → Moved
link_load_of c s t =
    moves (adds_older c (loaded t (link c.links t))) s (after_link_load (seat c.seats s) s (link c.links t))

abbrev pub link_store_to : Core → ℕ → ℕ → Moved
link_store_to c s t = moves (put_link c t (stored_link (seat c.seats s))) s (after_link_store (seat c.seats s))

abbrev pub handoff_load : Core → ℕ → Moved
handoff_load c s = moves c s (after_handoff_load (seat c.seats s) c.handoff)

abbrev pub handoff_store : Core → ℕ → Moved
handoff_store c s =
    moves (record c { handoff = stored_handoff (seat c.seats s) s }) s (after_handoff_store (seat c.seats s))

abbrev pub handoff_exchange : Core → ℕ → Moved
handoff_exchange c s =
    moves (record c { handoff = if same_handoff c.handoff (expected_handoff (seat c.seats s) s) then unposted else c.handoff }) s
    (after_handoff_exchange (seat c.seats s) s c.handoff (oldest c.popped))

abbrev pub wake_load_of : Core → ℕ → ℕ → Moved
wake_load_of c s t = moves c s (after_wake_load (seat c.seats s) (wake c.wakes t))

abbrev pub wake_store_to : Core → ℕ → ℕ → Moved
wake_store_to c s t =
    moves (drops_if (put_wake c t (stored_wake (seat c.seats s))) (drops_oldest (seat c.seats s))) s
    (after_wake_store (seat c.seats s))

-- the state after a compare-and-exchange of the wake word of seat t from WAITING to CLAIMED, which found this state
abbrev pub claims_word : Core → ℕ → Wake → Core
claims_word c t Waiting = put_wake c t Claimed
claims_word c t _ = c

abbrev pub wake_exchange_of : Core → ℕ → ℕ → Moved
wake_exchange_of c s t =
    moves (claims_word c t (wake c.wakes t)) s (after_wake_exchange (seat c.seats s) (wake c.wakes t))

-- a step of this kind with target t
abbrev pub step_of : Core → ℕ → ℕ → Option Kind → Moved
step_of c s t None = refused c Idle
step_of c s t (Some Kind.CountExchange) = count_exchange c s
step_of c s t (Some Kind.CountAdd) = count_add c s
step_of c s t (Some Kind.CountSubtract) = count_subtract c s
step_of c s t (Some Kind.OwnerLoad) = owner_load c s
step_of c s t (Some Kind.OwnerStore) = owner_store c s
step_of c s t (Some Kind.PushLoad) = push_load c s
step_of c s t (Some Kind.PushExchange) = push_exchange c s
step_of c s t (Some Kind.ClearHead) = clear_head c s
step_of c s t (Some Kind.LinkLoad) = link_load_of c s t
step_of c s t (Some Kind.LinkStore) = link_store_to c s t
step_of c s t (Some Kind.HandoffLoad) = handoff_load c s
step_of c s t (Some Kind.HandoffStore) = handoff_store c s
step_of c s t (Some Kind.HandoffExchange) = handoff_exchange c s
step_of c s t (Some Kind.WakeLoad) = wake_load_of c s t
step_of c s t (Some Kind.WakeStore) = wake_store_to c s t
step_of c s t (Some Kind.WakeExchange) = wake_exchange_of c s t

-- the step of seat s at its point
abbrev pub made : Core → ℕ → Moved
made c s = step_of c s (target (seat c.seats s).point s) (kind (seat c.seats s).point)

-- the step of the seat with number s, refused if no seat has this number
abbrev pub step : Core → ℕ → Moved
step c s = if is_seat c.seats s then made c s else refused c NoSuchSeat

-- seat s starts a call
abbrev pub begin : Core → ℕ → Call → Moved
begin c s call =
    if is_seat c.seats s then moves c s (Begin.begin (seat c.seats s) (limits c) call) else refused c NoSuchSeat

-- the state at the start
abbrev pub start : Limits → Core
start limits =
    record {
      budget = limits.budget;
      count = 0;
      owner = 0;
      handoff = unposted;
      push = no_link;
      popped = [];
      links = replicate limits.seats no_link;
      wakes = replicate limits.seats Quiet;
      seats = replicate limits.seats absent;
    }
