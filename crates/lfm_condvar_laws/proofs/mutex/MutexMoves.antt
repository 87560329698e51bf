-- What the start of a call and a step of the user mutex leave unchanged in all other seats, and what they keep.
use Rattle.std.proofs.Common.{◌≡◌, ◌≢◌, ◌⊎◌, ℕ, false, ◌+◌, ◌&&◌, nat_lt, length, refl, sym, ap, ◌∙◌, inl, inr, if◌then◌else◌}
use Rattle.std.proofs.lemmas.Bool.{cases_Bool}
use Rattle.lfm_words.specs.declared.wakes.Wake.TheVariants.{Waiting}
use Rattle.lfm_protocol.specs.declared.answers.Call.{Call}
use Rattle.lfm_protocol.specs.declared.answers.Turn.TheVariants.{Refused}
use Rattle.lfm_protocol.specs.declared.answers.Why.TheVariants.{NoSuchSeat}
use Rattle.lfm_protocol.specs.declared.kinds.Word.{Word}
use Rattle.lfm_protocol.specs.Begin as Begin
use Rattle.lfm_protocol.specs.Core.{Core, limits}
use Rattle.lfm_protocol.specs.Seats.{seat, wake, is_seat, IsSeat}
use Rattle.lfm_protocol.specs.Step.{made, step, begin}
use Rattle.lfm_laws.specs.steady.Ghost.{Ghost}
use Rattle.lfm_laws.specs.steady.Steady.{Fits}
use Rattle.lfm_laws.proofs.lawful.touched.OneSeat.{steps_touch_one_word_and_one_seat, begins_touch_one_seat}
use Rattle.lfm_laws.proofs.steady.Begins.{begin_keeps}
use Rattle.lfm_laws.proofs.steady.StepsKept.{made_keeps}
use Rattle.lfm_laws.proofs.steady.frames.Seated.{seat_of_test, test_of_seat}
use Rattle.lfm_condvar_laws.proofs.Invariant.{claims_at, waits_at}
use Rattle.lfm_condvar_laws.proofs.mutex.WakeWords.{stays_waiting, has_waited}

-- the views of all seats except s, and the limits
pub record OthersStay (c d : Core) (s : ℕ) : Type 0 where
  pub others : (t : ℕ) → t ≢ s → seat d.seats t ≡ seat c.seats t
  pub size : length d.seats ≡ length c.seats
  pub budget : d.budget ≡ c.budget

leaves_all : (c : Core) (s : ℕ) → OthersStay c c s
leaves_all c s = record { others = λ t other. refl; size = refl; budget = refl }

-- The state fits again. Each wake word that was WAITING before is so after it. The only word that may have become WAITING is
-- that of seat s, if the seat was in start_wait
pub record MutexMoves (c d : Core) (s : ℕ) : Type 0 where
  pub to : Ghost
  pub fits : Fits d to
  pub leaves : OthersStay c d s
  pub waits : (t : ℕ) → wake c.wakes t ≡ Waiting → wake d.wakes t ≡ Waiting
  pub waited : (t : ℕ) → (t ≢ s) ⊎ (waits_at (seat c.seats s).point ≡ false) → wake d.wakes t ≡ Waiting → wake c.wakes t ≡ Waiting

pub moves_not : (c : Core) (g : Ghost) (s : ℕ) → Fits c g → MutexMoves c c s
moves_not c g s fits =
    record { to = g; fits = fits; leaves = leaves_all c s; waits = λ t word. word; waited = λ t other word. word }

-- Steps

-- a seat's step is the one at its point
pub step_is_made : (c : Core) (s : ℕ) → IsSeat c.seats s → step c s ≡ made c s
step_is_made c s is = rw (test_of_seat c.seats s is) refl

pub made_leaves : (c : Core) (s : ℕ) → IsSeat c.seats s → OthersStay c (made c s).core s
made_leaves c s is =
    let touches = steps_touch_one_word_and_one_seat c s in
    rw (sym (step_is_made c s is)) (record { others = touches.other_seats; size = touches.seats; budget = touches.budget })

made_moves : (c : Core) (g : Ghost) (s : ℕ) → IsSeat c.seats s → claims_at (seat c.seats s).point ≡ false → Fits c g
    → MutexMoves c (made c s).core s
made_moves c g s is before fits =
    let kept = made_keeps c g s is fits in
    record {
      to = kept.to;
      fits = kept.fits;
      leaves = made_leaves c s is;
      waits = λ t word. stays_waiting c g s t before fits word;
      waited = λ t other word. has_waited c s t other word;
    }

pub step_moves : (c : Core) (g : Ghost) (s : ℕ) → claims_at (seat c.seats s).point ≡ false → Fits c g
    → MutexMoves c (step c s).core s
step_moves c g s before fits =
    elim (cases_Bool (is_seat c.seats s)) [
      | inl is ↦ rw is (made_moves c g s (seat_of_test c.seats s is) before fits)
      | inr none ↦ rw none (moves_not c g s fits)
    ]

-- Begins

pub begin_moves : (c : Core) (g : Ghost) (s : ℕ) (call : Call) → Fits c g → MutexMoves c (begin c s call).core s
begin_moves c g s call fits =
    let touches = begins_touch_one_seat c s call in
    record {
      to = g;
      fits = begin_keeps c g s call fits;
      leaves = record { others = touches.other_seats; size = touches.seats; budget = touches.budget };
      waits = λ t word. touches.words (Word.Wake t) ∙ word;
      waited = λ t other word. sym (touches.words (Word.Wake t)) ∙ word;
    }

-- The answer that the start of a call of another seat would have is unchanged

begin_turn : (c : Core) (t : ℕ) (call : Call)
    → (begin c t call).turn ≡ (if is_seat c.seats t then (Begin.begin (seat c.seats t) (limits c) call).turn else Refused NoSuchSeat)
begin_turn c t call =
    elim (cases_Bool (is_seat c.seats t)) [
      | inl is ↦ rw is refl
      | inr none ↦ rw none refl
    ]

pub same_turn : (c d : Core) (s t : ℕ) (call : Call) → OthersStay c d s → t ≢ s → (begin d t call).turn ≡ (begin c t call).turn
same_turn c d s t call leaves other =
    let bounds : limits d ≡ limits c = λ i. record { seats = leaves.size i; budget = leaves.budget i } in
    begin_turn d t call
    ∙ ap (λ n. if nat_lt 0 t && nat_lt t (n + 1) then (Begin.begin (seat d.seats t)
    (limits d) call).turn else Refused NoSuchSeat) leaves.size
    ∙ ap (λ x. if is_seat c.seats t then (Begin.begin x (limits d) call).turn else Refused NoSuchSeat) (leaves.others t other)
    ∙ ap (λ l. if is_seat c.seats t then (Begin.begin (seat c.seats t) l call).turn else Refused NoSuchSeat) bounds
    ∙ sym (begin_turn c t call)

pub seat_after : (c d : Core) (s t : ℕ) → OthersStay c d s → IsSeat c.seats t → IsSeat d.seats t
seat_after c d s t leaves is = record { above = is.above; within = rw leaves.size is.within }
