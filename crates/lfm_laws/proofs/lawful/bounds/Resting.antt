-- No state is stuck: some steps of the open calls lead to a state in which no call is open.
use Rattle.std.proofs.Common.{◌≡◌, ℕ, zero, suc, ◌+◌, ◌*◌, ◌≤◌, ◌<◌, List, [], ◌∷◌, length, refl, inl, inr, arith}
use Rattle.std.proofs.lemmas.Bool.{cases_Bool, cases_eq}
use Rattle.lfm_protocol.specs.Core.{Core}
use Rattle.lfm_protocol.specs.Seats.{seat, is_seat}
use Rattle.lfm_protocol.specs.Step.{step}
use Rattle.lfm_laws.specs.laws.Laws.{IsQuiet}
use Rattle.lfm_laws.specs.laws.Progress.{open_unit, open_calls, all_make, ComesToRest, NoStateIsStuck}
use Rattle.lfm_laws.specs.laws.Schedules.{makes, is_call, run_of}
use Rattle.lfm_laws.specs.steady.Steady.{Steady}
use Rattle.lfm_laws.proofs.lawful.bounds.LockFree.{all_owed, step_pays, owed_to_all, shares}
use Rattle.lfm_laws.proofs.lawful.runs.Reached.{absent_tested, run_keeps}
use Rattle.lfm_laws.proofs.lawful.states.StateLaws.{quiescent_states_rest}
use Rattle.lfm_laws.proofs.steady.frames.Seated.{seat_of_test}
use Rattle.lfm_laws.proofs.steady.frames.Sums.{sum_member, sum_witness}
use Rattle.lfm_laws.proofs.steady.frames.SameSeats.{seats-step}

-- if the number of open calls is 0, no call is open
pub quiet_of_none : (c : Core) → open_calls c ≡ 0 → IsQuiet c
quiet_of_none c none s =
    elim (cases_Bool (is_call (seat c.seats s).point)) [
      | inl inside ↦ elim (cases_Bool (is_seat c.seats s)) [
        | inl known ↦
            let is = seat_of_test c.seats s known in
            let one : open_unit c s ≡ 1 = rw inside refl in
            let within = sum_member (length c.seats) s (open_unit c) is.above is.within in
            absurd (omega (arith, one, within, none))
        | inr away ↦ rw (absent_tested c.seats s away) refl
      ]
      | inr closed ↦ closed
    ]

-- a seat whose call is open
open_of_unit : (c : Core) (s : ℕ) → 0 < open_unit c s → open_unit c s ≡ 1
open_of_unit c s some =
    elim (cases_Bool (is_call (seat c.seats s).point)) [
      | inl inside ↦ rw inside refl
      | inr closed ↦ let none : open_unit c s ≡ 0 = rw closed refl in absurd (omega (arith, some, none))
    ]

record Rests (c : Core) (most : ℕ) : Type 0 where
  pub seats : List ℕ
  pub few : length seats ≤ most
  pub quiet : IsQuiet (run_of c (all_make seats))

steady_step : (c : Core) (s : ℕ) → Steady c → Steady (step c s).core
steady_step c s steady = run_keeps c (makes s ∷ []) steady

rests : (most k : ℕ) (c : Core) → Steady c → 2 * length c.seats ≤ k + 2 → all_owed k c ≤ most → Rests c most
rests zero k c steady enough few =
    elim (cases_eq (open_calls c) 0) [
      | inl none ↦ record { seats = []; few = omega arith; quiet = quiet_of_none c none }
      | inr some ↦
          let open_seat = sum_witness (length c.seats) (open_unit c) (omega (arith, some)) in
          let one = open_of_unit c open_seat.0 open_seat.3 in
          let pays = step_pays k c steady.ghost_state open_seat.0 steady.fits enough in
          absurd (omega (arith, one, pays, few))
    ]
rests (suc most) k c steady enough few =
    elim (cases_eq (open_calls c) 0) [
      | inl none ↦ record { seats = []; few = omega arith; quiet = quiet_of_none c none }
      | inr some ↦
          let open_seat = sum_witness (length c.seats) (open_unit c) (omega (arith, some)) in
          let s : ℕ = open_seat.0 in
          let one = open_of_unit c s open_seat.3 in
          let pays = step_pays k c steady.ghost_state s steady.fits enough in
          let rest = rests most k (step c s).core (steady_step c s steady) (rw (seats-step c s) enough) (omega (arith, one, pays, few)) in
          record { seats = s ∷ rest.seats; few = let less = rest.few in omega (arith, less); quiet = rest.quiet }
    ]

rest_told : (c : Core) (most : ℕ) → Steady c → most ≤ (5 * length c.seats + 5) * open_calls c → Rests c most → ComesToRest c
rest_told c most steady few rest =
    let at_rest = quiescent_states_rest (run_of c (all_make rest.seats)) (run_keeps c (all_make rest.seats) steady) rest.quiet in
    record {
      seats = rest.seats;
      few = let less = rest.few in omega (arith, less, few);
      quiet = rest.quiet;
      nothing_posted = at_rest.0;
      owned_or_granted = at_rest.1;
    }

pub no_state_is_stuck : NoStateIsStuck
no_state_is_stuck c is =
    elim (cases_eq (open_calls c) 0) [
      | inl none ↦ rest_told c 0 is (omega arith) (record { seats = []; few = omega arith; quiet = quiet_of_none c none })
      | inr some ↦
          let open_seat = sum_witness (length c.seats) (open_unit c) (omega (arith, some)) in
          let all = shares c (omega (arith, open_seat.1, open_seat.2)) in
          let most = owed_to_all all.change (5 * length c.seats + 5) c all.most in
          rest_told c (all_owed all.change c) is most (rests (all_owed all.change c) all.change c is all.enough (omega arith))
    ]
