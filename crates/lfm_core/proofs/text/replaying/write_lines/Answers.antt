use Rattle.std.proofs.Common.{◌≡◌, ◌∙◌, ℕ, List, get_or, arith, length}
use Rattle.lfm_protocol.specs.declared.answers.Call.TheVariants.{Lock}
use Rattle.lfm_core.specs.declared.text.schedule.Act.TheVariants.{Begin}
use Rattle.lfm_core.specs.declared.text.schedule.Line.{Line}
use Rattle.lfm_core.proofs.texts.Runs.{line_written, line_failed, verdict_next, lines_end}
use Rattle.lfm_core.proofs.texts.SameSeats.{seats_kept}
use Rattle.lfm_core.proofs.text.replaying.write_lines.Goals as goal

-- the line with this index, as the loop reads it
abbrev read : List Line → ℕ → Line
read lines i = get_or lines i (record { seat = 0; act = Begin Lock })

pub write_line-requires : goal.write_line-requires
write_line-requires g c =
    let same : length c.follow-turn.new.self.seats ≡ length c.running.state.seats = seats_kept c.running.state _ (read c.args.lines.now c.running.index) c.follow-turn.ensures.core in
    omega (arith, c.running.invariant.capacity)

pub returns-in_err-write_line-clause-text : goal.returns-in_err-write_line-clause-text
returns-in_err-write_line-clause-text g c =
    let numbered = c.line_number.ensures (omega (arith, c.running-test.true, c.requires.few)) in
    c.running.invariant.finishes _ _
    (line_failed c.running.index c.running.state _ _ _ _ c.running-test.true c.follow-turn.ensures.core c.follow-turn.ensures.turn _ _ _ _
    (rw numbered at c.in_err-write_line.ensures.text) c.from_residual.ensures.1)

pub running-preserved : goal.running-preserved
running-preserved g c = let numbered = c.line_number.ensures (omega (arith, c.running-test.true, c.requires.few)) in record {
  finishes = λ new r rest. c.running.invariant.finishes new r
      (line_written c.running.index c.running.state _ _ _ _ c.running-test.true c.follow-turn.ensures.core c.follow-turn.ensures.turn _ _ _ _
      (rw numbered at c.in_ok-write_line.ensures.text) rest);
  verdict = verdict_next c.running.index c.running.state _ _ _ _ c.running-test.true c.follow-turn.ensures.core c.follow-turn.ensures.turn _ _ c.is_refused.ensures
      ∙ c.running.invariant.verdict;
  capacity =
      let same : length c.follow-turn.new.self.seats ≡ length c.running.state.seats = seats_kept c.running.state _ (read c.args.lines.now c.running.index) c.follow-turn.ensures.core in
      omega (arith, c.running.invariant.capacity, c.in_ok-write_line.ensures.capacity);
}

pub returns-clause-text : goal.returns-clause-text
returns-clause-text g c = c.running.invariant.finishes _ _ (lines_end _ _ _ _ _ _ c.running-test.false)
