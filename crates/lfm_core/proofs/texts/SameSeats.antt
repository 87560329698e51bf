-- No line of a schedule changes the number of seats.
use Rattle.std.proofs.Common.{◌≡◌, ℕ, zero, suc, length, refl, ap, ◌∙◌}
use Rattle.lfm_core.specs.declared.text.schedule.Act.{Act}
use Rattle.lfm_core.specs.declared.text.schedule.Act.TheVariants.{Begin, Steps, ToEnd}
use Rattle.lfm_core.specs.declared.text.schedule.Line.{Line}
use Rattle.lfm_protocol.specs.Core.{Core}
use Rattle.lfm_core.specs.text.Lines.{steps, act_moved, line_moved}
use Rattle.lfm_protocol.specs.Turns.{is_open, longest_call}
use Rattle.lfm_protocol.specs.Step.{step}
use Rattle.lfm_laws.proofs.steady.frames.SameSeats.{seats_of_two, seats-step, seats-begin}

seats-steps : (most : ℕ) (c : Core) (s : ℕ) → length (steps most c s).core.seats ≡ length c.seats
seats-steps zero c s = refl
seats-steps (suc most) c s =
    seats_of_two c (is_open (step c s).turn) _ _ (seats-steps most (step c s).core s ∙ seats-step c s) (seats-step c s)

seats-act_moved : (c : Core) (s : ℕ) (act : Act) → length (act_moved c s act).core.seats ≡ length c.seats
seats-act_moved c s (Begin call) = seats-begin c s call
seats-act_moved c s (Steps most) = seats-steps most c s
seats-act_moved c s ToEnd = seats-steps (longest_call c) c s

-- a line keeps the number of seats
pub seats-line_moved : (c : Core) (line : Line) → length (line_moved c line).core.seats ≡ length c.seats
seats-line_moved c line = seats-act_moved c line.seat line.act

-- the same for the state after a line
pub seats_kept : (c after : Core) (line : Line) → after ≡ (line_moved c line).core → length after.seats ≡ length c.seats
seats_kept c after line is = ap (λ m. length m.seats) is ∙ seats-line_moved c line
