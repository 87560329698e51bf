use Rattle.std.proofs.Common.{arith, rules}
use Rattle.lfm_text.specs.Text.{lines_of}
use Rattle.lfm_text.proofs.LineCount.{rest_counted}
use Rattle.lfm_core.proofs.texts.Reading.{few_steps}
use Rattle.lfm_core.proofs.text.schedule.read_schedule.Goals as goal

pub overflow_sub-count : goal.overflow_sub-count
overflow_sub-count c =
    omega (arith, c.in-Some.ensures.lines, (rest_counted c.args.text.now c.in-Some-first_line.first.now c.in-Some-first_line.rest.now c.in-Some-first_line.ensures.first).0)

pub read_lines-requires-clause-counted : goal.read_lines-requires-clause-counted
read_lines-requires-clause-counted c =
    omega (arith, c.in-Some.ensures.lines, (rest_counted c.args.text.now c.in-Some-first_line.first.now c.in-Some-first_line.rest.now c.in-Some-first_line.ensures.first).1)

pub returns-clause-steps : goal.returns-clause-steps
returns-clause-steps c =
    few_steps 2 (lines_of c.in-Some-first_line.rest.now) c.in_ok-lines.lines.items c.in_ok-lines.ensures.said

pub returns-then-not-are_allowed-clause-exact : goal.returns-then-not-are_allowed-clause-exact
returns-then-not-are_allowed-clause-exact c = search rules
