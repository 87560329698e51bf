use Rattle.lfm_shown.proofs.StateLines.{line_begun, line_failed, number_written, number_failed, line_ends}
use Rattle.lfm_shown.proofs.graphs.texts.write_state_line.Goals as goal

pub returns-in_err-write_text : goal.returns-in_err-write_text
returns-in_err-write_text g c = line_failed _ _ c.args.numbers.now _ _ c.in_err-write_text.ensures c.from_residual.ensures.1

pub numbers-init : goal.numbers-init
numbers-init g c = record { finishes = line_begun _ _ c.args.numbers.now c.in_ok-write_text.ensures }

pub numbers-preserved : goal.numbers-preserved
numbers-preserved g c = record {
  finishes = λ new r rest. c.numbers.invariant.finishes new r
      (number_written _ _ c.args.numbers.now c.numbers.number-index c.numbers-test.true c.in_ok-write_numbered.ensures new r rest);
}

pub returns-in_err-write_numbered : goal.returns-in_err-write_numbered
returns-in_err-write_numbered g c = c.numbers.invariant.finishes _ _
    (number_failed _ _ c.args.numbers.now c.numbers.number-index c.numbers-test.true _ _ c.in_err-write_numbered.ensures c.from_residual-in_err-write_numbered.ensures.1)

pub returns : goal.returns
returns g c = c.numbers.invariant.finishes _ _ (line_ends _ _ c.args.numbers.now c.numbers.number-index _ c.numbers-test.false c.write_line_feed.ensures)
