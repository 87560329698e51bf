-- If only its seat makes steps, a call ends: each step ends it or leaves fewer steps, and at the start there are fewer than in
-- the longest call.
use Rattle.std.proofs.Common.{◌≡◌, ℕ, zero, suc, true, false, ◌+◌, ◌-◌, ◌<◌, Option, Some, None, length, nat_eq, if◌then◌else◌, inl, inr, arith}
use Rattle.std.proofs.lemmas.Bool.{cases_Bool, false≢true}
use Rattle.lfm_protocol.specs.declared.kinds.Kind.{Kind}
use Rattle.lfm_words.specs.declared.wakes.Wake.{Wake}
use Rattle.lfm_words.specs.Popped.{oldest}
use Rattle.lfm_protocol.specs.After.{same_link, same_handoff, loaded, drops_oldest, after_wake_exchange}
use Rattle.lfm_protocol.specs.Begin.{Stepped}
use Rattle.lfm_protocol.specs.Core.{Core, Moved, put_link, put_wake, moves, adds_older, drops_if}
use Rattle.lfm_laws.specs.laws.Laws.{CallsEndAlone}
use Rattle.lfm_laws.specs.laws.Schedules.{steps}
use Rattle.lfm_protocol.specs.Turns.{is_open, longest_call}
use Rattle.lfm_protocol.specs.Points.{kind, target}
use Rattle.lfm_protocol.specs.Room.{PopFits}
use Rattle.lfm_protocol.specs.Seats.{seat, link, wake, unposted, is_seat, IsSeat}
use Rattle.lfm_laws.specs.steady.Steady.{Steady}
use Rattle.lfm_protocol.specs.Step.{step_of, step, claims_word}
use Rattle.lfm_protocol.specs.Stores.{stored_owner, stored_link, expected_push, exchanged_push, stored_handoff, expected_handoff, stored_wake}
use Rattle.lfm_laws.proofs.steady.frames.Entries.{seat-with_same, length-with_entry}
use Rattle.lfm_laws.proofs.lawful.runs.Reached.{made_keeps}
use Rattle.lfm_laws.proofs.steady.Room.{pops_of_fits}
use Rattle.lfm_laws.proofs.lawful.bounds.StepsFall.{Lower, count_exchange_lower, count_add_lower, count_subtract_lower, owner_load_lower, owner_store_lower, push_load_lower, push_exchange_lower, clear_head_lower, link_load_lower, link_store_lower, handoff_load_lower, handoff_store_lower, handoff_exchange_lower, wake_load_lower, wake_store_lower, wake_exchange_lower}
use Rattle.lfm_laws.proofs.lawful.bounds.StepsLeft.{left, left-le}
use Rattle.lfm_laws.proofs.steady.frames.Seated.{seat_of_test}
use Rattle.lfm_laws.proofs.lawful.bounds.CallWeights.{room_left}

-- if the call of seat s goes on after this turn, it has fewer steps left than this
abbrev Falls : ℕ → ℕ → Moved → Type 0
Falls s most m = is_open m.turn ≡ true → left m.core s < most

moves_falls : (d : Core) (s most : ℕ) (m : Stepped) → IsSeat d.seats s → Lower d.push (room_left d) most m → Falls s most (moves d s m)
moves_falls d s most m is lower goes = rw (seat-with_same d.seats s m.seat is, length-with_entry d.seats s m.seat) (lower goes)

wake_falls : (c : Core) (s t : ℕ) (found : Wake) → IsSeat c.seats s
    → Lower c.push (room_left c) (left c s) (after_wake_exchange (seat c.seats s) found) → Falls s (left c s) (moves (claims_word c t found) s (after_wake_exchange (seat c.seats s) found))
wake_falls c s t Wake.Waiting is lower = moves_falls (put_wake c t Wake.Claimed) s (left c s) _ is lower
wake_falls c s t _ is lower = moves_falls c s (left c s) _ is lower

falls_of : (c : Core) (s t : ℕ) (k : Option Kind) → IsSeat c.seats s → PopFits (length c.popped) (length c.seats) k → Falls s (left c s) (step_of c s t k)
falls_of c s t None is pops = λ goes. absurd (false≢true goes)
falls_of c s t (Some Kind.CountExchange) is pops =
    moves_falls (record c { count = if nat_eq c.count 0 then 1 else c.count }) s (left c s) _ is (count_exchange_lower c.push (room_left c) (seat c.seats s) c.count (seat c.seats s).point)
falls_of c s t (Some Kind.CountAdd) is pops =
    moves_falls (record c { count = c.count + 1 }) s (left c s) _ is (count_add_lower c.push (room_left c) (seat c.seats s) c.count (seat c.seats s).point)
falls_of c s t (Some Kind.CountSubtract) is pops =
    moves_falls (record c { count = c.count - 1 }) s (left c s) _ is (count_subtract_lower c.push (room_left c) (seat c.seats s) s c.count (oldest c.popped) (seat c.seats s).point)
falls_of c s t (Some Kind.OwnerLoad) is pops = moves_falls c s (left c s) _ is (owner_load_lower c.push (room_left c) (seat c.seats s) s c.owner (seat c.seats s).point)
falls_of c s t (Some Kind.OwnerStore) is pops =
    moves_falls (drops_if (record c { owner = stored_owner (seat c.seats s) s }) (drops_oldest (seat c.seats s))) s (left c s) _ is (owner_store_lower c (seat c.seats s) (seat c.seats s).point)
falls_of c s t (Some Kind.PushLoad) is pops = moves_falls c s (left c s) _ is (push_load_lower c.push (room_left c) (seat c.seats s) (seat c.seats s).point)
falls_of c s t (Some Kind.PushExchange) is pops =
    moves_falls (record c { push = if same_link c.push (expected_push (seat c.seats s)) then exchanged_push (seat c.seats s) s else c.push }) s (left c s) _ is
    (push_exchange_lower c.push (exchanged_push (seat c.seats s) s) (room_left c) (seat c.seats s) (seat c.seats s).point)
falls_of c s t (Some Kind.ClearHead) is pops =
    moves_falls (record c { push = record { stamp = c.push.stamp; next = 0 } }) s (left c s) _ is
    (clear_head_lower c.push (record { stamp = c.push.stamp; next = 0 }) (room_left c) (seat c.seats s) (seat c.seats s).point)
falls_of c s t (Some Kind.LinkLoad) is pops =
    moves_falls (adds_older c (loaded t (link c.links t))) s (left c s) _ is (link_load_lower c.push (length c.seats) (length c.popped) (seat c.seats s) s (link c.links t) (seat c.seats s).point pops)
falls_of c s t (Some Kind.LinkStore) is pops =
    moves_falls (put_link c t (stored_link (seat c.seats s))) s (left c s) _ is (link_store_lower c.push (room_left c) (seat c.seats s) (seat c.seats s).point)
falls_of c s t (Some Kind.HandoffLoad) is pops = moves_falls c s (left c s) _ is (handoff_load_lower c.push (room_left c) (seat c.seats s) c.handoff (seat c.seats s).point)
falls_of c s t (Some Kind.HandoffStore) is pops =
    moves_falls (record c { handoff = stored_handoff (seat c.seats s) s }) s (left c s) _ is (handoff_store_lower c.push (room_left c) (seat c.seats s) (seat c.seats s).point)
falls_of c s t (Some Kind.HandoffExchange) is pops =
    moves_falls (record c { handoff = if same_handoff c.handoff (expected_handoff (seat c.seats s) s) then unposted else c.handoff }) s (left c s) _ is
    (handoff_exchange_lower c.push (room_left c) (seat c.seats s) s (same_handoff c.handoff (expected_handoff (seat c.seats s) s)) (oldest c.popped) (seat c.seats s).point)
falls_of c s t (Some Kind.WakeLoad) is pops = moves_falls c s (left c s) _ is (wake_load_lower c.push (room_left c) (seat c.seats s) (wake c.wakes t) (seat c.seats s).point)
falls_of c s t (Some Kind.WakeStore) is pops =
    let d : Core = drops_if (put_wake c t (stored_wake (seat c.seats s))) (drops_oldest (seat c.seats s)) in
    moves_falls d s (left c s) _ is (wake_store_lower c.push (room_left c) (room_left d) (seat c.seats s) (seat c.seats s).point)
falls_of c s t (Some Kind.WakeExchange) is pops =
    wake_falls c s t (wake c.wakes t) is (wake_exchange_lower c.push (room_left c) (seat c.seats s) (wake c.wakes t) (seat c.seats s).point)

-- a step of a number that no seat has is refused
pub step_falls : (c : Core) (s : ℕ) → Steady c → Falls s (left c s) (step c s)
step_falls c s steady =
    elim (cases_Bool (is_seat c.seats s)) [
      | inl known ↦
          let is = seat_of_test c.seats s known in
          rw known (falls_of c s (target (seat c.seats s).point s) (kind (seat c.seats s).point) is (pops_of_fits c steady.ghost_state s steady.fits))
      | inr none ↦ rw none (λ goes. absurd (false≢true goes))
    ]

-- each step keeps a state steady
pub steady_step : (c : Core) (s : ℕ) → Steady c → Steady (step c s).core
steady_step c s steady =
    elim (cases_Bool (is_seat c.seats s)) [
      | inl known ↦
          let kept = made_keeps c steady.ghost_state s (seat_of_test c.seats s known) steady.fits in
          rw known (record { ghost_state = kept.to; fits = kept.fits })
      | inr none ↦ rw none steady
    ]

-- a seat does not make more steps than it has left
pub ends_within : (most : ℕ) (c : Core) (s : ℕ) → Steady c → left c s < most → is_open (steps most c s).turn ≡ false
ends_within zero c s steady few = absurd (omega arith)
ends_within (suc most) c s steady few =
    elim (cases_Bool (is_open (step c s).turn)) [
      | inl goes ↦
          let falls = step_falls c s steady goes in
          rw goes (ends_within most (step c s).core s (steady_step c s steady) (omega (arith, falls, few)))
      | inr over ↦ rw (over, over)
    ]

pub calls_end_alone : CallsEndAlone
calls_end_alone c s is open_call = ends_within (longest_call c) c s is (omega (arith, left-le c s))
