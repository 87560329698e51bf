use Rattle.std.proofs.Common.{◌++◌, decimal, ◌∙◌, ap, arith}
use Rattle.std.proofs.lemmas.List.{drop_all}
use Rattle.lfm_core.proofs.texts.Queued.{record_put}
use Rattle.lfm_core.proofs.text.trace.put_record.Goals as goal

pub put_byte-separator-requires : goal.put_byte-separator-requires
put_byte-separator-requires c = (omega (arith, c.put_number-stamp.ensures.start.0), c.put_number-stamp.ensures.start.1)

pub put_number-requires : goal.put_number-requires
put_number-requires c = (
  omega (arith, c.put_number-stamp.ensures.start.0, c.put_byte-separator.ensures.place),
  omega (arith, c.put_number-stamp.ensures.start.1, c.put_byte-separator.ensures.place),
)

pub returns-clause-start : goal.returns-clause-start
returns-clause-start c = (
  omega (arith, c.put_number-stamp.ensures.start.0, c.put_byte-separator.ensures.place, c.put_number.ensures.start.0),
  omega (arith, c.put_number-stamp.ensures.start.1, c.put_byte-separator.ensures.place, c.put_number.ensures.start.1),
)

pub returns-clause-text : goal.returns-clause-text
returns-clause-text c =
    record_put c.args.queued _ _ _ (c.put_number-stamp.ensures.text ∙ ap (λ l. decimal c.args.queued.stamp ++ l) (drop_all 42 c.args.buffer.now (omega arith)))
    c.put_byte-separator.ensures.text (rw c.get.ensures.value at c.put_number.ensures.text)
