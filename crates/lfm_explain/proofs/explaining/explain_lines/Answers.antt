use Rattle.std.proofs.Common.{◌≡◌, ◌∙◌, ℕ, List, get_or, arith, length}
use Rattle.lfm_protocol.specs.declared.answers.Call.TheVariants.{Lock}
use Rattle.lfm_core.specs.declared.text.schedule.Act.TheVariants.{Begin}
use Rattle.lfm_core.specs.declared.text.schedule.Line.{Line}
use Rattle.lfm_core.proofs.texts.Runs.{verdict_next}
use Rattle.lfm_core.proofs.texts.SameSeats.{seats_kept}
use Rattle.lfm_explain.proofs.explaining.explain_lines.Goals as goal

-- a line, as the loop reads it
abbrev read : List Line → ℕ → Line
read lines i = get_or lines i (record { seat = 0; act = Begin Lock })

pub write_line-requires : goal.write_line-requires
write_line-requires g c =
    let same : length c.line_shown.new.state.seats ≡ length c.running.state.seats = seats_kept c.running.state _ (read c.args.lines.now c.running.index) c.in_ok-turn.ensures.core in
    omega (arith, c.running.invariant.capacity)

pub running-preserved : goal.running-preserved
running-preserved g c = record {
  verdict = verdict_next c.running.index c.running.state _ _ _ _ c.running-test.true c.in_ok-turn.ensures.core c.in_ok-turn.ensures.turn _ _ c.is_refused.ensures
      ∙ c.running.invariant.verdict;
  capacity =
      let same : length c.line_shown.new.state.seats ≡ length c.running.state.seats = seats_kept c.running.state _ (read c.args.lines.now c.running.index) c.in_ok-turn.ensures.core in
      omega (arith, c.running.invariant.capacity, c.in_ok-write_line.ensures.capacity);
}
