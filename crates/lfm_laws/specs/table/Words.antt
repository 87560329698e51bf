-- The words of a state as one list of numbers, and an atomic step on a table of such words: it changes the number at one index,
-- and the seat goes on by the number found.
use Rattle.std.specs.Prelude.{ℕ, ◌+◌, ◌-◌, ◌%◌, ◌^◌, ◌<◌, ⊤, Bool, Option, Some, None, List, [], ◌∷◌, ◌++◌, map, drop, bit_and, nat_eq, if◌then◌else◌}
use prog.Atomic.{either}
use Rattle.lfm_protocol.specs.declared.kinds.Kind.{Kind}
use Rattle.lfm_protocol.specs.declared.kinds.Word.{Word}
use Rattle.lfm_protocol.specs.declared.points.Point.{Point}
use Rattle.lfm_protocol.specs.declared.points.Point.TheVariants.{TryHandoffExchange, SendPushRecheck, LinkStore, PushExchange, PushedHandoffExchange}
use Rattle.lfm_protocol.specs.declared.seats.SeatState.{SeatState}
use Rattle.lfm_words.specs.declared.pop_lists.Record.{Record}
pub use Rattle.lfm_words.specs.Words.{link_of, handoff_of, wake_of}
use Rattle.lfm_words.specs.Words.{link_word, handoff_word, wake_word, seat_field_size}
use Rattle.lfm_protocol.specs.After.{after_count_exchange, after_count_add, after_count_subtract, after_owner_load, after_owner_store, after_push_load, after_push_exchange, after_clear_head, after_link_load, after_link_store, after_handoff_load, after_handoff_store, after_handoff_exchange, after_wake_load, after_wake_store, after_wake_exchange, drops_oldest, idle, loaded}
use Rattle.lfm_protocol.specs.Begin.{Stepped}
use Rattle.lfm_protocol.specs.Core.{Core}
use Rattle.lfm_protocol.specs.Points.{kind, target, word}
use Rattle.lfm_protocol.specs.Seats.{seat}
use Rattle.lfm_protocol.specs.Stores.{stored_owner, stored_link, expected_push, exchanged_push, stored_handoff, expected_handoff, stored_wake}

-- count, owner, handoff and push; then the link of each seat, and then the wake word of each seat
abbrev pub words : Core → List ℕ
words c =
    (c.count ∷ c.owner ∷ handoff_word c.handoff ∷ link_word c.push ∷ []) ++ (map link_word c.links ++ map wake_word c.wakes)

-- the index of a word in that list, with this number of seats
abbrev pub index_of : ℕ → Word → ℕ
index_of seats Word.Count = 0
index_of seats Word.Owner = 1
index_of seats Word.Handoff = 2
index_of seats Word.Push = 3
index_of seats (Word.Link t) = 3 + t
index_of seats (Word.Wake t) = 3 + seats + t

-- A step by its kind; t is its target. A seat that has no step touches the count and leaves it unchanged.

abbrev pub index_by : ℕ → ℕ → Option Kind → ℕ
index_by seats t None = 0
index_by seats t (Some k) = index_of seats (word k t)

-- what the step writes in place of the number found
abbrev pub written_by : SeatState → ℕ → ℕ → Option Kind → ℕ
written_by x s n None = n
written_by x s n (Some Kind.CountExchange) = either (nat_eq n 0) 1 n
written_by x s n (Some Kind.CountAdd) = (n + 1) % 2 ^ 64
written_by x s n (Some Kind.CountSubtract) = (n + (2 ^ 64 - 1)) % 2 ^ 64
written_by x s n (Some Kind.OwnerLoad) = n
written_by x s n (Some Kind.OwnerStore) = stored_owner x s
written_by x s n (Some Kind.PushLoad) = n
written_by x s n (Some Kind.PushExchange) = either (nat_eq n (link_word (expected_push x))) (link_word (exchanged_push x s)) n
written_by x s n (Some Kind.ClearHead) = bit_and n (2 ^ 64 - 2 ^ 16)
written_by x s n (Some Kind.LinkLoad) = n
written_by x s n (Some Kind.LinkStore) = link_word (stored_link x)
written_by x s n (Some Kind.HandoffLoad) = n
written_by x s n (Some Kind.HandoffStore) = handoff_word (stored_handoff x s)
written_by x s n (Some Kind.HandoffExchange) = either (nat_eq n (handoff_word (expected_handoff x s))) 0 n
written_by x s n (Some Kind.WakeLoad) = n
written_by x s n (Some Kind.WakeStore) = wake_word (stored_wake x)
written_by x s n (Some Kind.WakeExchange) = either (nat_eq n 1) 2 n

-- the seat's method, applied to the number found
abbrev pub stepped_of : SeatState → ℕ → ℕ → Option Record → Option Kind → Stepped
stepped_of x s n oldest None = idle x
stepped_of x s n oldest (Some Kind.CountExchange) = after_count_exchange x n
stepped_of x s n oldest (Some Kind.CountAdd) = after_count_add x n
stepped_of x s n oldest (Some Kind.CountSubtract) = after_count_subtract x s n oldest
stepped_of x s n oldest (Some Kind.OwnerLoad) = after_owner_load x s n
stepped_of x s n oldest (Some Kind.OwnerStore) = after_owner_store x
stepped_of x s n oldest (Some Kind.PushLoad) = after_push_load x (link_of n)
stepped_of x s n oldest (Some Kind.PushExchange) = after_push_exchange x (link_of n)
stepped_of x s n oldest (Some Kind.ClearHead) = after_clear_head x (link_of n)
stepped_of x s n oldest (Some Kind.LinkLoad) = after_link_load x s (link_of n)
stepped_of x s n oldest (Some Kind.LinkStore) = after_link_store x
stepped_of x s n oldest (Some Kind.HandoffLoad) = after_handoff_load x (handoff_of n)
stepped_of x s n oldest (Some Kind.HandoffStore) = after_handoff_store x
stepped_of x s n oldest (Some Kind.HandoffExchange) = after_handoff_exchange x s (handoff_of n) oldest
stepped_of x s n oldest (Some Kind.WakeLoad) = after_wake_load x (wake_of n)
stepped_of x s n oldest (Some Kind.WakeStore) = after_wake_store x
stepped_of x s n oldest (Some Kind.WakeExchange) = after_wake_exchange x (wake_of n)

abbrev pub popped_if : Bool → List Record → List Record
popped_if leaves popped = if leaves then drop 1 popped else popped

-- what becomes of the pop list
abbrev pub popped_of : SeatState → ℕ → ℕ → List Record → Option Kind → List Record
popped_of x t n popped (Some Kind.OwnerStore) = popped_if (drops_oldest x) popped
popped_of x t n popped (Some Kind.LinkLoad) = loaded t (link_of n) ∷ popped
popped_of x t n popped (Some Kind.WakeStore) = popped_if (drops_oldest x) popped
popped_of x t n popped _ = popped

-- The step that seat s with state x makes next

-- the index of its word, with this number of seats
abbrev pub index : SeatState → ℕ → ℕ → ℕ
index x seats s = index_by seats (target x.point s) (kind x.point)

abbrev pub written : SeatState → ℕ → ℕ → ℕ
written x s n = written_by x s n (kind x.point)

abbrev pub stepped_by : SeatState → ℕ → ℕ → Option Record → Stepped
stepped_by x s n oldest = stepped_of x s n oldest (kind x.point)

abbrev pub popped_by_step : SeatState → ℕ → ℕ → List Record → List Record
popped_by_step x s n popped = popped_of x (target x.point s) n popped (kind x.point)

-- A seat number that was read from a word lies in the word's lower half, so that it packs exactly
abbrev pub IsNarrow : Point → Type 0
IsNarrow (LinkStore pusher seen) = seen.next < seat_field_size
IsNarrow (PushExchange pusher seen) = seen.next < seat_field_size
IsNarrow (SendPushRecheck t seen) = seen.seat < seat_field_size
IsNarrow (PushedHandoffExchange pusher seen) = seen.seat < seat_field_size
IsNarrow (TryHandoffExchange seen) = seen.seat < seat_field_size
IsNarrow _ = ⊤

-- every seat's point is narrow
abbrev pub AreNarrow : List SeatState → Type 0
AreNarrow seats = (s : ℕ) → IsNarrow (seat seats s).point
