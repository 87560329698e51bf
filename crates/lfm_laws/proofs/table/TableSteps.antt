-- The public law of a step on a table: if a seat has become p without a step and then makes the step at its point, then p and
-- the number that it finds determine the words, the seats, the pop list, the abstract mutex and the moving value.
use Rattle.std.proofs.Common.{◌≡◌, ◌≤◌, ℕ, List, length, set, refl, sym, ap, ◌∙◌, arith}
use Rattle.std.specs.Prelude.{slice_index}
use Rattle.lfm_protocol.specs.declared.answers.Turn.{Turn}
use Rattle.lfm_protocol.specs.declared.seats.SeatState.{SeatState}
use Rattle.lfm_words.specs.declared.pop_lists.Record.{Record}
use Rattle.lfm_words.specs.Popped.{oldest}
use Rattle.lfm_protocol.specs.Core.{Core, put, limits}
use Rattle.lfm_laws.specs.laws.Events.{pushed_by, popped_by, answered_by}
use Rattle.lfm_laws.specs.steady.Ghost.{Ghost}
use Rattle.lfm_laws.specs.steady.EventOutcome.{abstract, GoesOn}
use Rattle.lfm_protocol.specs.Limits.{max_budget}
use Rattle.lfm_protocol.specs.Seats.{seat, with_entry, IsSeat}
use Rattle.lfm_laws.specs.steady.Steady.{Fits, NumbersFit}
use Rattle.lfm_protocol.specs.Step.{made}
use Rattle.lfm_laws.proofs.steady.frames.Entries.{seat-with_same, length-with_entry}
use Rattle.lfm_laws.proofs.steady.Room.{numbers_fit}
use Rattle.lfm_laws.proofs.steady.StepsKept.{made_keeps}
use Rattle.lfm_laws.specs.table.Carried.{carries_value, TellsValue, TableStep}
use Rattle.lfm_laws.specs.table.Ready.{IsReady}
use Rattle.lfm_laws.specs.table.Settles.{Settles}
use Rattle.lfm_laws.specs.table.Words.{words, index, written, stepped_by, popped_by_step, AreNarrow}
use Rattle.lfm_laws.proofs.table.Answered.{answered_grows}
use Rattle.lfm_laws.proofs.table.Made.{words_of_step, seat_of_step, turn_of_step, popped_of_step, budget_of_step, narrow_of_step}
use Rattle.lfm_laws.proofs.table.Narrow.{narrow_with}
use Rattle.lfm_laws.proofs.table.Ready.{ready_of_fits}
use Rattle.lfm_laws.proofs.table.Settled.{numbers_put, settles_keeps, settles_narrow, is_seat-with, with_entry-twice}
use Rattle.lfm_laws.proofs.table.Values.{carried_as_held, tells_value, moves_by}

-- the number at the index of the word that a seat with this state touches
abbrev pub found_at : Core → ℕ → SeatState → ℕ
found_at c s p = slice_index (words c) (index p (length c.seats) s)

-- a function of a seat and of the number of seats has the same value for the seat in the changed state and for p
put_as : {A : Type 0} (c : Core) (s : ℕ) (p : SeatState) (f : SeatState → ℕ → A) → IsSeat c.seats s
    → f (seat (with_entry c.seats s p) s) (length (with_entry c.seats s p)) ≡ f p (length c.seats)
put_as c s p f is =
    ap (λ x. f x (length (with_entry c.seats s p))) (seat-with_same c.seats s p is) ∙ ap (λ n. f p n) (length-with_entry c.seats s p)

-- The step from the state in which the seat is p

pub put_words : (c : Core) (g : Ghost) (s : ℕ) (p : SeatState) → IsSeat c.seats s → Fits (put c s p) g → NumbersFit (put c s p) → AreNarrow (put c s p).seats
    → words (made (put c s p) s).core ≡ set (words c) (index p (length c.seats) s) (written p s (found_at c s p))
put_words c g s p is fits fit narrow =
    words_of_step (put c s p) g s (is_seat-with c.seats s s p is) fits fit narrow
    ∙ put_as c s p (λ x n. set (words c) (index x n s) (written x s (slice_index (words c) (index x n s)))) is

pub put_seats : (c : Core) (g : Ghost) (s : ℕ) (p : SeatState) → IsSeat c.seats s → Fits (put c s p) g → NumbersFit (put c s p) → AreNarrow (put c s p).seats
    → (made (put c s p) s).core.seats ≡ with_entry c.seats s (stepped_by p s (found_at c s p) (oldest c.popped)).seat
put_seats c g s p is fits fit narrow =
    seat_of_step (put c s p) g s (is_seat-with c.seats s s p is) fits fit narrow
    ∙ put_as c s p (λ x n. with_entry (with_entry c.seats s p) s (stepped_by x s (slice_index (words c) (index x n s)) (oldest c.popped)).seat) is
    ∙ with_entry-twice c.seats s p (stepped_by p s (found_at c s p) (oldest c.popped)).seat

pub put_turn : (c : Core) (g : Ghost) (s : ℕ) (p : SeatState) → IsSeat c.seats s → Fits (put c s p) g → NumbersFit (put c s p) → AreNarrow (put c s p).seats
    → (made (put c s p) s).turn ≡ (stepped_by p s (found_at c s p) (oldest c.popped)).turn
put_turn c g s p is fits fit narrow =
    turn_of_step (put c s p) g s (is_seat-with c.seats s s p is) fits fit narrow
    ∙ put_as c s p (λ x n. (stepped_by x s (slice_index (words c) (index x n s)) (oldest c.popped)).turn) is

pub put_popped : (c : Core) (g : Ghost) (s : ℕ) (p : SeatState) → IsSeat c.seats s → Fits (put c s p) g → NumbersFit (put c s p) → AreNarrow (put c s p).seats
    → (made (put c s p) s).core.popped ≡ popped_by_step p s (found_at c s p) c.popped
put_popped c g s p is fits fit narrow =
    popped_of_step (put c s p) g s (is_seat-with c.seats s s p is) fits fit narrow
    ∙ put_as c s p (λ x n. popped_by_step x s (slice_index (words c) (index x n s)) c.popped) is

history_by : (g h : Ghost) (pushes pops : List Record) (s : ℕ) (t u : Turn) → t ≡ u → GoesOn g h pushes pops (answered_by s t)
    → GoesOn g h pushes pops (answered_by s u)
history_by g h pushes pops s t u same goes = rw (← same) goes

-- whether a seat has the value stays the same if it changes without a step
carried_put : (c : Core) (g : Ghost) (s : ℕ) (p : SeatState) → IsSeat c.seats s → Fits c g → Fits (put c s p) g
    → carries_value (seat c.seats s) ≡ carries_value p
carried_put c g s p is before fits =
    carried_as_held c g s before ∙ sym (carried_as_held (put c s p) g s fits) ∙ ap carries_value (seat-with_same c.seats s p is)

ready_after : (seats after : List SeatState) (s : ℕ) (y : SeatState) → IsSeat seats s → after ≡ with_entry seats s y → IsReady (length after) s (seat after s)
    → IsReady (length seats) s y
ready_after seats after s y is same ready =
    let here = rw same at ready in
    rw (seat-with_same seats s y is, length-with_entry seats s y) at here

pub table_step : (c : Core) (g : Ghost) (s : ℕ) (p : SeatState) → IsSeat c.seats s → Fits c g → AreNarrow c.seats → NumbersFit c → NumbersFit (made (put c s p) s).core
    → Settles (seat c.seats s) (limits c) p → TableStep c g s p (found_at c s p)
table_step c g s p is fits narrow fit fit_after settles =
    let d = put c s p in
    let put_fits = settles_keeps c g s p is fits settles in
    let put_narrow = narrow_with c.seats s p is (settles_narrow (seat c.seats s) (limits c) p settles (narrow s)) narrow in
    let put_is = is_seat-with c.seats s s p is in
    let put_fit = numbers_put c s p is settles fit in
    let kept = made_keeps (put c s p) g s put_is put_fits in
    let y = (stepped_by p s (found_at c s p) (oldest c.popped)).seat in
    let seats_are = put_seats c g s p is put_fits put_fit put_narrow in
    let history = history_by g kept.to (pushed_by d s) (popped_by d s) s (made d s).turn _ (put_turn c g s p is put_fits put_fit put_narrow) kept.history in
    let tells : TellsValue (with_entry c.seats s y) (abstract kept.to).place = rw seats_are at (tells_value (made d s).core kept.to kept.fits) in
    let moved = moves_by c.seats s y (abstract g).place (abstract kept.to).place (carries_value p) (carries_value y) is (tells_value c g fits) tells
    (carried_put c g s p is fits put_fits) refl
    in
    let after_narrow = narrow_of_step d g s put_is put_fits put_fit put_narrow in
    let after_is : IsSeat (made d s).core.seats s = rw seats_are (is_seat-with c.seats s s y is) in
    record {
      after = (made (put c s p) s).core;
      is_made = refl;
      ghost_after = kept.to;
      fits = kept.fits;
      narrow = after_narrow;
      words_are = put_words c g s p is put_fits put_fit put_narrow;
      seats_are = seats_are;
      popped_are = put_popped c g s p is put_fits put_fit put_narrow;
      budget_is = budget_of_step (put c s p) s;
      goes = kept.goes;
      history = history;
      answers = answered_grows g kept.to _ _ _ history;
      ready = ready_after c.seats (made d s).core.seats s y is seats_are (ready_of_fits (made d s).core kept.to s after_is kept.fits fit_after after_narrow);
      moved = rw seats_are moved;
    }

-- the same under every budget that is within the limits
pub table_step_in_limits : (c : Core) (g : Ghost) (s : ℕ) (p : SeatState) → IsSeat c.seats s → Fits c g → AreNarrow c.seats → c.budget ≤ max_budget
    → Settles (seat c.seats s) (limits c) p → TableStep c g s p (found_at c s p)
table_step_in_limits c g s p is fits narrow small settles =
    let kept = made_keeps (put c s p) g s (is_seat-with c.seats s s p is) (settles_keeps c g s p is fits settles) in
    table_step c g s p is fits narrow (numbers_fit c g fits small)
    (numbers_fit (made (put c s p) s).core kept.to kept.fits (let same = budget_of_step (put c s p) s in omega (arith, same, small))) settles
