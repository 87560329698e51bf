use Rattle.std.proofs.Common.{arith, rules}
use Rattle.lfm_text.proofs.LineCount.{rest_counted}
use Rattle.lfm_script.proofs.script.reading.read_script.Goals as goal

pub overflow_sub-count : goal.overflow_sub-count
overflow_sub-count c =
    omega (arith, c.in-Some.ensures.lines, (rest_counted c.args.text.now c.in-Some-first_line.first.now c.in-Some-first_line.rest.now c.in-Some-first_line.ensures.first).0)

pub read_lines-requires-clause-counted : goal.read_lines-requires-clause-counted
read_lines-requires-clause-counted c =
    omega (arith, c.in-Some.ensures.lines, (rest_counted c.args.text.now c.in-Some-first_line.first.now c.in-Some-first_line.rest.now c.in-Some-first_line.ensures.first).1)

pub returns-in_err-lines-clause-exact : goal.returns-in_err-lines-clause-exact
returns-in_err-lines-clause-exact c = search rules
