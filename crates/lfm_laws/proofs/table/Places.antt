-- The index of each step's word is within the list of words.
use Rattle.std.proofs.Common.{ℕ, ◌+◌, ◌*◌, ◌<◌, ◌≤◌, Option, Some, None, arith}
use Rattle.lfm_protocol.specs.declared.kinds.Kind.{Kind}
use Rattle.lfm_protocol.specs.declared.seats.SeatState.{SeatState}
use Rattle.lfm_protocol.specs.Points.{kind, target, word}
use Rattle.lfm_laws.specs.table.Ready.{IsReady}
use Rattle.lfm_laws.specs.table.Words.{index_of, index_by, index}

place_of_word : (seats s t : ℕ) (k : Kind) → t ≤ seats → index_of seats (word k t) < 4 + 2 * seats
place_of_word seats s t Kind.LinkLoad within = omega (arith, within)
place_of_word seats s t Kind.LinkStore within = omega (arith, within)
place_of_word seats s t Kind.WakeLoad within = omega (arith, within)
place_of_word seats s t Kind.WakeStore within = omega (arith, within)
place_of_word seats s t Kind.WakeExchange within = omega (arith, within)
place_of_word seats s t _ within = omega arith

place_by : (seats s t : ℕ) (k : Option Kind) → t ≤ seats → index_by seats t k < 4 + 2 * seats
place_by seats s t None within = omega arith
place_by seats s t (Some k) within = place_of_word seats s t k within

pub index_within : (seats s : ℕ) (x : SeatState) → IsReady seats s x → index x seats s < 4 + 2 * seats
index_within seats s x ready = place_by seats s (target x.point s) (kind x.point) ready.within
