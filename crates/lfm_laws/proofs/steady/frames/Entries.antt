-- Reads of a list of entries by number: after a write of one entry, and at a number that has no entry.
use Rattle.std.proofs.Common.{◌≡◌, ◌≢◌, ◌⊎◌, ℕ, zero, suc, ◌<◌, ◌≤◌, List, length, refl, inl, inr, arith}
use Rattle.std.proofs.lemmas.Bool.{cases_lt}
use Rattle.std.proofs.lemmas.List.{get_or-set_same, get_or-set_other, length-set, get_or_past}
use Rattle.lfm_protocol.specs.declared.seats.SeatState.{SeatState}
use Rattle.lfm_protocol.specs.Seats.{seat, entry, with_entry, absent, IsSeat}

pub entry-with_same : {A : Type 0} (d : A) (xs : List A) (s : ℕ) (x : A) → 0 < s → s ≤ length xs → entry d (with_entry xs s x) s ≡ x
unfolding entry with_entry
entry-with_same d xs zero x above within = absurd (omega arith)
entry-with_same d xs (suc n) x above within = get_or-set_same xs n x d (omega arith)

pub entry-with_other : {A : Type 0} (d : A) (xs : List A) (s t : ℕ) (x : A) → t ≢ s → entry d (with_entry xs s x) t ≡ entry d xs t
unfolding entry with_entry
entry-with_other d xs zero t x other = refl
entry-with_other d xs (suc n) zero x other = refl
entry-with_other d xs (suc n) (suc m) x other = get_or-set_other xs n m x d (omega arith)

pub length-with_entry : {A : Type 0} (xs : List A) (s : ℕ) (x : A) → length (with_entry xs s x) ≡ length xs
unfolding with_entry
length-with_entry xs zero x = refl
length-with_entry xs (suc n) x = length-set xs n x

pub seat-with_same : (seats : List SeatState) (s : ℕ) (x : SeatState) → IsSeat seats s → seat (with_entry seats s x) s ≡ x
seat-with_same seats s x is = entry-with_same absent seats s x is.above is.within

pub seat-with_other : (seats : List SeatState) (s t : ℕ) (x : SeatState) → t ≢ s → seat (with_entry seats s x) t ≡ seat seats t
seat-with_other seats s t x other = entry-with_other absent seats s t x other

-- no seat has a number past the last
pub entry_past : {A : Type 0} (d : A) (xs : List A) (s : ℕ) → length xs < s → entry d xs s ≡ d
unfolding entry
entry_past d xs zero past = refl
entry_past d xs (suc n) past = get_or_past xs n d (omega arith)

-- a number either is that of a seat or reads as absent
pub seat_or_absent : (seats : List SeatState) (s : ℕ) → IsSeat seats s ⊎ (seat seats s ≡ absent)
unfolding entry
seat_or_absent seats zero = inr refl
seat_or_absent seats (suc n) =
    elim (cases_lt n (length seats)) [
      | inl within ↦ inl (record { above = omega arith; within = omega arith })
      | inr past ↦ inr (get_or_past seats n absent past)
    ]

-- no seat has the number 0
pub seat_zero : (seats : List SeatState) → seat seats 0 ≡ absent
unfolding entry
seat_zero seats = refl
