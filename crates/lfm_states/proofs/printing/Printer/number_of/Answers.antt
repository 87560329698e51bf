use Rattle.std.proofs.Common.{◌∙◌, ap, Some}
use Rattle.lfm_states.proofs.printing.Printer.number_of.Goals as goal

pub returns-clause-number : goal.returns-clause-number
returns-clause-number c = record {
  points = c.in_ok-key.ensures.0;
  key = rw c.keep_if.ensures.keys (c.in_ok-number.ensures.number ∙ ap Some c.in_ok-key.ensures.1);
}
