use Rattle.std.proofs.Common.{◌∙◌, arith}
use Rattle.lfm_core.proofs.texts.Queued.{oldest_written, oldest_failed, further_written, further_failed, none_left}
use Rattle.lfm_core.proofs.text.trace.write_queue.Goals as goal

pub returns-in_err-write_record-clause-text : goal.returns-in_err-write_record-clause-text
returns-in_err-write_record-clause-text g c = oldest_failed _ _ _ _ _ c.in-Some.ensures.items _ _ c.in_err-write_record.ensures c.from_residual.ensures.1

pub writing-init : goal.writing-init
writing-init g c = record {
  finishes = oldest_written _ _ _ _ _ c.in-Some.ensures.items c.in_ok-write_record.ensures;
  capacity = c.pop.ensures.capacity;
}

pub writing-preserved : goal.writing-preserved
writing-preserved g c = record {
  finishes = λ new r rest. c.writing.invariant.finishes new r (further_written _ _ _ _ _ c.in-Some-pop.ensures.items c.in_ok-write_further.ensures new r rest);
  capacity = c.pop-in-writing.ensures.capacity ∙ c.writing.invariant.capacity;
}

pub returns-in_err-write_further-clause-text : goal.returns-in_err-write_further-clause-text
returns-in_err-write_further-clause-text g c =
    c.writing.invariant.finishes _ _ (further_failed _ _ _ _ _ c.in-Some-pop.ensures.items _ _ c.in_err-write_further.ensures c.from_residual-in_err-write_further.ensures.1)

pub returns-clause-text : goal.returns-clause-text
returns-clause-text g c = c.writing.invariant.finishes _ _ (none_left _ c.writing.records.items (omega (arith, c.in_default-pop.ensures.cases)))
